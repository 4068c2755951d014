-- The words of a search line.
use Rattle.std.specs.Prelude.{ℕ, Bool, true, false, List, codes}
use Rattle.std.specs.List.{join_with_byte}
use Rattle.std.specs.Str.{byte}
use Rattle.java_tree.specs.declared.doc_name.Scope.{Scope}
use Rattle.java_tree.specs.declared.doc_name.Scope.TheVariants.{All, Containers}
use Rattle.java_tree.specs.declared.search.Limit.{Limit}
use Rattle.java_tree.specs.declared.search.Limit.TheVariants as limits
use Rattle.java_tree.specs.declared.search.Rule.{Rule}
use Rattle.java_tree.specs.declared.search.Rule.TheVariants as rules
use Rattle.java_tree.specs.declared.search.What.{What}
use Rattle.java_tree.specs.declared.search.What.TheVariants as whats

-- JDT `IJavaSearchConstants`: the kind of element, and what a search is limited to
abbrev pub what_word : What → List ℕ
what_word whats.Class = codes "type"
what_word whats.Method = codes "method"
what_word whats.Constructor = codes "constructor"
what_word whats.Field = codes "field"
what_word whats.Package = codes "package"

abbrev pub limit_word : Limit → List ℕ
limit_word limits.Declarations = codes "declarations"
limit_word limits.References = codes "references"
limit_word limits.Implementors = codes "implementors"
limit_word limits.All = codes "all"
limit_word limits.Reads = codes "reads"
limit_word limits.Writes = codes "writes"

-- JDT `SearchPattern` match rules
abbrev pub rule_word : Rule → List ℕ
rule_word rules.Exact = codes "exact"
rule_word rules.Prefix = codes "prefix"
rule_word rules.Wild = codes "wild"
rule_word rules.Camel = codes "camel"

abbrev pub case_word : Bool → List ℕ
case_word true = codes "case"
case_word false = codes "nocase"

-- all containers, or some, separated by commas
abbrev pub scope_word : Scope → List ℕ
scope_word All = codes "*"
scope_word (Containers containers) = join_with_byte (byte ",") containers

-- the kinds of elements that a search line may name so far
abbrev pub is_built : What → Bool
is_built whats.Class = true
is_built whats.Package = true
is_built _ = false
