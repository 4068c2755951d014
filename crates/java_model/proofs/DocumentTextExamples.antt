-- The environment of two documents of which one has no tree.
use Rattle.std.proofs.Common.{ℕ, List, [], ◌∷◌, Some, codes, refl}
use Rattle.java_tree.specs.declared.mark.Mark.TheVariants as marks
use Rattle.java_tree.specs.declared.names.Ident.{Ident}
use Rattle.java_tree.specs.declared.outline.Level.TheVariants.{Java14}
use Rattle.java_tree.specs.declared.outline.Outline.{Outline}
use Rattle.java_tree.specs.declared.token.Token.{Token}
use Rattle.java_tree.specs.declared.token.TokenKind.TheVariants as kinds
use Rattle.java_tree.specs.declared.unit.Unit.{Unit as CompilationUnit}
use Rattle.java_model.specs.Lexical.Tokens.{HasTokens}
use Rattle.java_model.specs.Lexical.Faults.{HasFault}
use Rattle.java_model.specs.Lexical.Faults.LexicalFault.{unclosed}
use Rattle.java_model.specs.Grammar.Marks as mark_words
use Rattle.java_model.specs.Grammar.Signs.{mark, word, keyword_sign, symbol_sign}
use Rattle.java_model.specs.Grammar.Units.{IsUnit, spells_nothing}
use Rattle.java_model.specs.Documents.{Document}
use Rattle.java_model.specs.Texts.{IsUnreadable, IsUnitOfText, HasOutline}
use Rattle.java_model.specs.Names.Environments.{Env}
use Rattle.java_model.specs.DocumentTexts.{Levels, IsEnvOf, no_documents, unreadable, readable, AreOccurrencesOf, no_occurrences}
use Rattle.java_model.proofs.Lexical.Computing.{computing, part}
use Rattle.java_model.proofs.Lexical.TextReading.{tokens_read, fault_read}
use Rattle.java_model.proofs.Lexical.Laws.{faults_exclude_tokens}
use Rattle.java_model.proofs.Grammar.Spells.{spells_signs}

abbrev at_1_4 : Levels
at_1_4 container = Java14

abbrev document : List ℕ → List ℕ → Document
document path text = record { container = codes "src"; path = path; version = 0; stamp = 1; text = text }

-- a package clause alone
abbrev clause : Document
clause = document (codes "A.java") (codes "package p;")

abbrev p : Ident
p = record { name = codes "p"; span = record { start = 8; end = 9 } }

abbrev unit : CompilationUnit
unit = record { «package» = Some (p ∷ []); imports = []; declarations = []; types = [] }

abbrev tokens : List Token
tokens = part kinds.Keyword (codes "package") 0 7 ∷ part kinds.Identifier (codes "p") 8 9 ∷ part kinds.Symbol (codes ";") 9 10 ∷ []

its-tokens : HasTokens Java14 clause.text tokens
unfolding computing
its-tokens = tokens_read refl

unit-of-tokens : IsUnit tokens unit
unfolding keyword_sign symbol_sign mark_words.keywords mark_words.symbols
unit-of-tokens = record {
  in_package = tt;
  imports = tt;
  spells = spells_signs (mark marks.Package ∷ word p ∷ mark marks.Semicolon ∷ []) [] 0 [] [] _ (spells_nothing _);
}

its-unit : IsUnitOfText Java14 clause.text unit
its-unit = record { tokens = tokens; scanned = its-tokens; unit = unit-of-tokens }

abbrev outline : Outline
outline = record { «package» = codes "p" ∷ []; imports = []; types = [] }

its-outline : HasOutline Java14 clause.text outline
its-outline = record { unit = unit; is_unit = its-unit; is_outline = record { in_package = refl; imports = refl; types = tt } }

-- a quote alone
abbrev quote : Document
quote = document (codes "B.java") (codes "'")

its-fault : HasFault Java14 quote.text (unclosed 0)
unfolding computing
its-fault = fault_read refl

without-a-tree : IsUnreadable Java14 quote.text
without-a-tree u is_unit = faults_exclude_tokens Java14 quote.text is_unit.tokens (unclosed 0) is_unit.scanned its-fault

abbrev env : Env
env = record { path = record { container = codes "src"; path = codes "A.java" }; outline = outline } ∷ []

the-environment : IsEnvOf at_1_4 (clause ∷ quote ∷ []) env
the-environment = readable clause outline (quote ∷ []) [] its-outline (unreadable quote [] [] without-a-tree no_documents)

no-occurrences : AreOccurrencesOf at_1_4 env quote []
no-occurrences = no_occurrences without-a-tree
