-- Names that are longer than all of those among which they are looked for.
use Rattle.std.proofs.Common.{◌≡◌, ◌+◌, ◌<◌, ◌≤◌, ℕ, Bool, true, false, cond, ◌&&◌, ◌||◌, not, List, [], ◌∷◌, Some, None, map, take, length, get_or, bytes_eq, refl, sym, ap, ◌∙◌, arith}
use Rattle.std.specs.List.{list_any, position_from, sum_by, AllByRecursion}
use Rattle.std.proofs.lemmas.Bool.{and_parts}
use Rattle.std.proofs.lemmas.Iterator.Adapters.{position_from-zero}
use Rattle.std.proofs.lemmas.List.{length-append}
use Rattle.std.proofs.lemmas.List.Sums.{sum_by-cons, sum_by_more_le}
use Rattle.std.proofs.lemmas.Slice.Eq.{bytes_eq-Decides}
use Rattle.java_model.specs.Names.Lists.{Identifier, Identifiers, same_name, with_dots}
use Rattle.java_model.specs.Names.Environments.{Env, declared, type_named}
use Rattle.java_types.specs.Entries.{entry_of, entry_is_named}
use Rattle.java_types.specs.declared.entry.Entry.{Entry}
use Rattle.java_types.proofs.ByName.{named_found, same_names}

-- ---- the length of a name with its dots

size_dotted : (xs : Identifiers) → sum_by length xs ≤ length (with_dots xs)
size_dotted [] = omega arith
size_dotted (x ∷ []) = let c = sum_by-cons length x [] in omega (arith, c)
size_dotted (x ∷ y ∷ ys) =
    let rest = size_dotted (y ∷ ys) in let l = length-append x (46 ∷ with_dots (y ∷ ys)) in let c = sum_by-cons length x (y ∷ ys) in omega (arith, rest, l, c)

pub longer : (xs : Identifiers) (i n left : ℕ) (x : Identifier) → i < length xs → x ≡ get_or xs i x → left + sum_by length (take i xs) ≡ n → left < length x → n < length (with_dots xs)
longer xs i n left x within is sofar over =
    let own = ap length is in let part = sum_by_more_le length xs i x within in let all = size_dotted xs in omega (arith, own, part, all, sofar, over)

-- ---- none is found

not_as_long : (name x : Identifiers) (n : ℕ) → n < length name → length x ≤ n → (b : Bool) → same_name name x ≡ b → b ≡ false
not_as_long name x n over fits true is = let l = ap length (same_names name x is) in absurd (omega (arith, l, over, fits))
not_as_long name x n over fits false is = refl

pub none_as_long : (name : Identifiers) (names : List Identifiers) (n : ℕ) → n < length name → AllByRecursion (λ x. length x ≤ n) names → list_any (same_name name) names ≡ false
none_as_long name [] n over fits = refl
none_as_long name (x ∷ xs) n over fits =
    ap (λ b. b || list_any (same_name name) xs) (not_as_long name x n over fits.0 (same_name name x) refl) ∙ none_as_long name xs n over fits.1

not_named : (q : List ℕ) (names : Identifiers) (e : Entry) (n : ℕ) → n < length q → length e.info.«package» ≤ n → (b : Bool) → entry_is_named q names e ≡ b → b ≡ false
not_named q names e n over fits true is =
    let p = and_parts (not e.unqualified && bytes_eq q e.info.«package») (same_name names e.info.names) is in
    let r = and_parts (not e.unqualified) (bytes_eq q e.info.«package») p.0 in
    let l = ap length ((bytes_eq-Decides q e.info.«package»).0 r.1) in absurd (omega (arith, l, over, fits))
not_named q names e n over fits false is = refl

never : (q : List ℕ) (names : Identifiers) (es : List Entry) (n i : ℕ) → n < length q → AllByRecursion (λ (e : Entry). length e.info.«package» ≤ n) es → position_from (entry_is_named q names) i es ≡ None
never q names [] n i over fits = refl
never q names (e ∷ es) n i over fits =
    ap (λ b. cond b (Some i) (position_from (entry_is_named q names) (i + 1) es)) (not_named q names e n over fits.0 (entry_is_named q names e) refl)
    ∙ never q names es n (i + 1) over fits.1

pub none_in_longer : (env : Env) (q : List ℕ) (names : Identifiers) (es : List Entry) (n : ℕ) → es ≡ map entry_of (declared env)
    → AllByRecursion (λ (e : Entry). length e.info.«package» ≤ n) es → n < length q → None ≡ type_named env q names
none_in_longer env q names es n are fits over =
    named_found env q names es es None refl are (sym (position_from-zero (entry_is_named q names) es ∙ never q names es n 0 over fits))
