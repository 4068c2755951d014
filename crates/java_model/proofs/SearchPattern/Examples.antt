-- How patterns are read and names compared, computed.
use Rattle.std.specs.Prelude.{◌≡◌, refl, true, false, [], ◌∷◌, Some, None, Ok, Err, codes}
use Rattle.std.specs.Str.{chars}
use Rattle.java_tree.specs.declared.search.What.TheVariants as whats
use Rattle.java_tree.specs.declared.search.Limit.TheVariants as limits
use Rattle.java_tree.specs.declared.search.Rule.TheVariants.{Exact, Prefix, Wild, Camel}
use Rattle.java_model.specs.SearchPattern.NameMatch.{name_matches}
use Rattle.java_model.specs.SearchPattern.Parts.{pattern_of, wrong_limit, bad_parens, empty}

camel_of_capitals : name_matches Camel true (codes "NPE") (codes "NullPointerException") ≡ true
camel_of_capitals = refl

camel_with_digit : name_matches Camel true (codes "NPE") (codes "NPE2") ≡ true
camel_with_digit = refl

camel_of_prefixes : name_matches Camel true (codes "NuPoEx") (codes "NoPermissionException") ≡ false
camel_of_prefixes = refl

camel_has_case : name_matches Camel false (codes "npe") (codes "NullPointerException") ≡ false
camel_has_case = refl

camel_begins_small : name_matches Camel true (codes "nP") (codes "nullPointer") ≡ true
camel_begins_small = refl

camel_of_more_pieces : name_matches Camel true (codes "NullPointerException") (codes "NullPointer") ≡ false
camel_of_more_pieces = refl

prefix_with_case : name_matches Prefix true (codes "null") (codes "NullPointerException") ≡ false
prefix_with_case = refl

prefix_without_case : name_matches Prefix false (codes "null") (codes "NullPointerException") ≡ true
prefix_without_case = refl

exact_without_case : name_matches Exact false (codes "npe2") (codes "NPE2") ≡ true
exact_without_case = refl

-- case is that of ASCII letters alone
exact_past_ascii : name_matches Exact false (195 ∷ 164 ∷ []) (195 ∷ 132 ∷ []) ≡ false
exact_past_ascii = refl

wild_with_case : name_matches Wild true (codes "N?ll*") (codes "NullPointerException") ≡ true
unfolding chars
wild_with_case = refl

wild_without_case : name_matches Wild false (codes "N?ll*") (codes "nullPointer") ≡ true
unfolding chars
wild_without_case = refl

wild_is_whole : name_matches Wild true (codes "N?l") (codes "Null") ≡ false
unfolding chars
wild_is_whole = refl

-- `?` stands for a character, however many bytes spell it
wild_past_ascii : name_matches Wild true (codes "?") (195 ∷ 164 ∷ []) ≡ true
unfolding chars
wild_past_ascii = refl

-- a `*` may stand for nothing, and for what a later part would match too
wild_turns_back : name_matches Wild true (codes "*ab*b") (codes "aabcabb") ≡ true
unfolding chars
wild_turns_back = refl

type_with_package : pattern_of whats.Class limits.All Exact true (codes " p.q. A ")
    ≡ Ok (record { what = whats.Class; limit = limits.All; rule = Exact; case = true; name = codes "A"; qualification = Some (codes "p.q"); params = None })
type_with_package = refl

method_with_params : pattern_of whats.Method limits.References Exact true (codes "A.f(int, p.B[])")
    ≡ Ok (record { what = whats.Method; limit = limits.References; rule = Exact; case = true; name = codes "f"; qualification = Some (codes "A"); params = Some (codes "int" ∷ codes "p.B[]" ∷ []) })
method_with_params = refl

constructor_without_params : pattern_of whats.Constructor limits.References Prefix false (codes "A( )")
    ≡ Ok (record { what = whats.Constructor; limit = limits.References; rule = Prefix; case = false; name = codes "A"; qualification = None; params = Some [] })
constructor_without_params = refl

-- a dot after the parenthesis separates nothing
dot_in_params : pattern_of whats.Method limits.All Exact true (codes "f(.A)")
    ≡ Ok (record { what = whats.Method; limit = limits.All; rule = Exact; case = true; name = codes "f"; qualification = None; params = Some (codes ".A" ∷ []) })
dot_in_params = refl

package_is_whole : pattern_of whats.Package limits.All Exact true (codes "p.")
    ≡ Ok (record { what = whats.Package; limit = limits.All; rule = Exact; case = true; name = codes "p."; qualification = None; params = None })
package_is_whole = refl

no_name : pattern_of whats.Class limits.All Exact true (codes "p.") ≡ Err empty
no_name = refl

empty_qualification : pattern_of whats.Class limits.All Exact true (codes " .A") ≡ Err empty
empty_qualification = refl

empty_param : pattern_of whats.Method limits.All Exact true (codes "f(int,)") ≡ Err empty
empty_param = refl

implementors_of_field : pattern_of whats.Field limits.Implementors Exact true (codes "f(") ≡ Err wrong_limit
implementors_of_field = refl

writes_of_type : pattern_of whats.Class limits.Writes Exact true (codes "A") ≡ Err wrong_limit
writes_of_type = refl

open_paren : pattern_of whats.Method limits.All Exact true (codes "f(") ≡ Err (bad_parens 2)
open_paren = refl

closing_first : pattern_of whats.Method limits.All Exact true (codes "f)(") ≡ Err (bad_parens 1)
closing_first = refl

second_left : pattern_of whats.Method limits.All Exact true (codes "f(a(") ≡ Err (bad_parens 3)
second_left = refl

text_after_params : pattern_of whats.Method limits.All Exact true (codes "f(a)b") ≡ Err (bad_parens 4)
text_after_params = refl

paren_in_type : pattern_of whats.Class limits.All Exact true (codes "A)") ≡ Err (bad_parens 1)
paren_in_type = refl
