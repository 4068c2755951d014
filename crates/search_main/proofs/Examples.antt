-- Examples that the prover computes: replies to searches whose patterns are refused.
use Rattle.std.proofs.Common.{true, [], List, ℕ, refl}
use Rattle.std.specs.Prelude.{codes}
use Rattle.java_tree.specs.declared.doc_name.Scope.TheVariants as scopes
use Rattle.java_tree.specs.declared.search.Limit.{Limit}
use Rattle.java_tree.specs.declared.search.Limit.TheVariants as limits
use Rattle.java_tree.specs.declared.search.Rule.TheVariants as rule_names
use Rattle.java_tree.specs.declared.search.What.{What}
use Rattle.java_tree.specs.declared.search.What.TheVariants as whats
use Rattle.java_model.specs.SearchPattern.Parts.{wrong_limit, bad_parens, empty}
use Rattle.script_text.specs.declared.script.Search.{Search}
use Rattle.script_text.specs.Replies.{refused}
use Rattle.search_main.specs.Legal.{Answers, refuses}

abbrev search_for : What → Limit → List ℕ → Search
search_for what limit text = record { line = 1; name = codes "s"; what = what; limit = limit; rule = rule_names.Exact; case = true; scope = scopes.All; pattern = text }

implementors-of-a-package : Answers [] [] (search_for whats.Package limits.Implementors (codes "p")) (refused 1 wrong_limit)
implementors-of-a-package = refuses wrong_limit refl

parentheses-of-a-type : Answers [] [] (search_for whats.Class limits.All (codes "f()")) (refused 1 (bad_parens 1))
parentheses-of-a-type = refuses (bad_parens 1) refl

nothing-after-the-dot : Answers [] [] (search_for whats.Class limits.Declarations (codes "A.")) (refused 1 empty)
nothing-after-the-dot = refuses empty refl
