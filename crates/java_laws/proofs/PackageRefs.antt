-- A pattern that a reference to a package fits admits the key of its last identifier.
use Rattle.std.proofs.Common.{◌≡◌, ◌==◌, ℕ, Bool, true, false, cond, ◌&&◌, List, [], ◌∷◌, ◌++◌, bytes_eq, nat_eq, Some, None, refl, sym, ap, ◌∙◌, subst, true≢false, inl, inr}
use Rattle.std.specs.List.{AllByRecursion, list_any, last_or}
use Rattle.std.specs.Option.{option_map_or}
use Rattle.std.specs.Str.{byte}
use Rattle.std.proofs.lemmas.Bool.{and_parts, and_from, or_parts, or_cases, eqb-true, eq-eqb}
use Rattle.java_tree.specs.declared.key.Category.TheVariants as categories
use Rattle.java_tree.specs.declared.key.Key.{Key}
use Rattle.java_tree.specs.declared.occurrence.Access.{Access}
use Rattle.java_tree.specs.declared.occurrence.Binding.{Binding}
use Rattle.java_tree.specs.declared.occurrence.Binding.TheVariants as bindings
use Rattle.java_tree.specs.declared.occurrence.OccKind.TheVariants as occ
use Rattle.java_tree.specs.declared.occurrence.Occurrence.{Occurrence}
use Rattle.java_tree.specs.declared.search.Limit.{Limit}
use Rattle.java_tree.specs.declared.search.Limit.TheVariants as limits
use Rattle.java_tree.specs.declared.search.Rule.{Rule}
use Rattle.java_tree.specs.declared.search.Rule.TheVariants.{Exact, Prefix, Wild, Camel}
use Rattle.java_tree.specs.declared.search.What.{What}
use Rattle.java_tree.specs.declared.search.What.TheVariants as whats
use Rattle.java_model.specs.Names.Lists.{Identifier, Identifiers, with_dots}
use Rattle.java_model.specs.Names.Environments.{Env}
use Rattle.java_model.specs.SearchPattern.NameMatch.{name_matches, is_exact}
use Rattle.java_model.specs.SearchPattern.Parts.{Pattern}
use Rattle.java_model.specs.SearchPattern.Texts.{separated, onto_first}
use Rattle.java_model.specs.Matches.Fits.{picks, is_declaration, is_reference, is_super, is_field, is_field_ref, reads, writes, fits_count, fits_binding, fits}
use Rattle.java_model.specs.Matches.Admits.{asks, admits_key, admits_package_ref, is_package, named_by}
use Rattle.java_laws.specs.Keys.{ref_key, IsPackageOf, IsOfKind}
use Rattle.java_laws.specs.Preselection.{IsSimple, IsPreselected}

-- SEPARATED TEXTS
step-by : (separator b : ℕ) (rest : List (List ℕ)) (more : List ℕ) (e : Bool) → e ≡ false → separated separator more ≡ rest
    → cond e ([] ∷ separated separator more) (onto_first b (separated separator more)) ≡ onto_first b rest
step-by separator b rest more true h e = absurd (true≢false h)
step-by separator b rest more false h e = ap (onto_first b) e

abbrev IsWithout : ℕ → List ℕ → Type 0
IsWithout separator text = list_any (λ b. b == separator) text ≡ false

one-piece : (separator : ℕ) (text : List ℕ) → IsWithout separator text → separated separator text ≡ text ∷ []
one-piece separator [] h = refl
one-piece separator (b ∷ bs) h =
    let p = or_parts (b == separator) (list_any (λ c. c == separator) bs) h in
    step-by separator b (bs ∷ []) bs (b == separator) p.0 (one-piece separator bs p.1)

first-piece : (separator : ℕ) (text more : List ℕ) → IsWithout separator text → (separator == separator) ≡ true
    → separated separator (text ++ separator ∷ more) ≡ text ∷ separated separator more
first-piece separator [] more h same = ap (λ e. cond e ([] ∷ separated separator more) (onto_first separator (separated separator more))) same
first-piece separator (b ∷ bs) more h same =
    let p = or_parts (b == separator) (list_any (λ c. c == separator) bs) h in
    step-by separator b (bs ∷ separated separator more) (bs ++ separator ∷ more) (b == separator) p.0 (first-piece separator bs more p.1 same)

abbrev AreSimple : Identifiers → Type 0
AreSimple = AllByRecursion IsSimple

pieces-of : (x : Identifier) (xs : Identifiers) → AreSimple (x ∷ xs) → separated (byte ".") (with_dots (x ∷ xs)) ≡ x ∷ xs
pieces-of x [] h = one-piece (byte ".") x h.0
pieces-of x (y ∷ ys) h = first-piece (byte ".") x (with_dots (y ∷ ys)) h.0 refl ∙ ap (λ ts. x ∷ ts) (pieces-of y ys h.1)

-- the last identifier
last-of : Identifier → Identifiers → Identifier
last-of x [] = x
last-of x (y ∷ ys) = last-of y ys

last-is : (x : Identifier) (xs : Identifiers) → last_or None (x ∷ xs) ≡ Some (last-of x xs)
unfolding last-of
last-is x [] = refl
last-is x (y ∷ ys) = last-is y ys

last-each : (P : Identifier → Type 0) (x : Identifier) (xs : Identifiers) → AllByRecursion P (x ∷ xs) → P (last-of x xs)
unfolding last-of
last-each P x [] h = h.0
last-each P x (y ∷ ys) h = last-each P y ys h.1

-- EXACT NAMES
exact-same : (xs ys : List ℕ) → is_exact true xs ys ≡ true → xs ≡ ys
exact-same [] [] h = refl
exact-same [] (y ∷ ys) h = absurd (true≢false (sym h))
exact-same (x ∷ xs) [] h = absurd (true≢false (sym h))
exact-same (x ∷ xs) (y ∷ ys) h =
    let p = and_parts (x == y) (is_exact true xs ys) h in
    ap (λ z. z ∷ xs) (eqb-true x y p.0) ∙ ap (λ zs. y ∷ zs) (exact-same xs ys p.1)

same-text : (xs : List ℕ) → bytes_eq xs xs ≡ true
same-text [] = refl
same-text (x ∷ xs) = and_from (nat_eq x x) (bytes_eq xs xs) (eq-eqb x x refl) (same-text xs)

by-last : (name : List ℕ) (x : Identifier) (xs : Identifiers) → AreSimple (x ∷ xs) → name ≡ with_dots (x ∷ xs)
    → option_map_or (bytes_eq (last-of x xs)) (last_or None (separated (byte ".") name)) false ≡ true
by-last name x xs h e =
    ap (λ n. option_map_or (bytes_eq (last-of x xs)) (last_or None (separated (byte ".") n)) false) e
    ∙ ap (λ ts. option_map_or (bytes_eq (last-of x xs)) (last_or None ts) false) (pieces-of x xs h)
    ∙ ap (λ o. option_map_or (bytes_eq (last-of x xs)) o false) (last-is x xs)
    ∙ same-text (last-of x xs)

package-admitted : (rule : Rule) (case : Bool) (name spelled : List ℕ) (x : Identifier) (xs : Identifiers) → AreSimple (x ∷ xs) → spelled ≡ with_dots (x ∷ xs)
    → name_matches rule case name spelled ≡ true → admits_package_ref rule case name (last-of x xs) ≡ true
package-admitted Exact true name spelled x xs h e f = by-last name x xs h (exact-same name spelled f ∙ e)
package-admitted Exact false name spelled x xs h e f = refl
package-admitted Prefix case name spelled x xs h e f = refl
package-admitted Wild case name spelled x xs h e f = refl
package-admitted Camel case name spelled x xs h e f = refl

-- PATTERNS
record IsSought (p : Pattern) : Type 0 where
  what : p.what ≡ whats.Package
  asked : asks p.what p.limit categories.Ref ≡ true

of-package : (what : What) → is_reference what occ.PackageRef ≡ true → what ≡ whats.Package
of-package whats.Package h = refl
of-package _ h = absurd (true≢false (sym h))

each-what : (P : What → Type 0) → P whats.Class → P whats.Method → P whats.Constructor → P whats.Field → P whats.Package → (what : What) → P what
each-what P c m k f p whats.Class = c
each-what P c m k f p whats.Method = m
each-what P c m k f p whats.Constructor = k
each-what P c m k f p whats.Field = f
each-what P c m k f p whats.Package = p

abbrev IsOnlyReference : What → Type 0
IsOnlyReference what = (is_declaration what occ.PackageRef ≡ false) × (is_super what occ.PackageRef ≡ false) × (is_field_ref what occ.PackageRef ≡ false)
    × ((is_field what && is_reference what occ.PackageRef) ≡ false)

only-reference : (what : What) → IsOnlyReference what
only-reference = each-what IsOnlyReference (refl, refl, refl, refl) (refl, refl, refl, refl) (refl, refl, refl, refl) (refl, refl, refl, refl)
    (refl, refl, refl, refl)

picked : (what : What) (limit : Limit) (how : Access) → picks what limit occ.PackageRef how ≡ true
    → (what ≡ whats.Package) × (asks whats.Package limit categories.Ref ≡ true)
picked what limits.Declarations how h = absurd (true≢false (sym h ∙ (only-reference what).0))
picked what limits.References how h = (of-package what h, refl)
picked what limits.Implementors how h = absurd (true≢false (sym h ∙ (only-reference what).1))
picked what limits.All how h = elim (or_cases (is_declaration what occ.PackageRef) (is_reference what occ.PackageRef) h) [
  | inl e ↦ absurd (true≢false (sym e ∙ (only-reference what).0))
  | inr e ↦ (of-package what e, refl)
]
picked what limits.Reads how h = absurd (true≢false (sym (and_parts (is_field what && is_reference what occ.PackageRef) (reads how) h).0
    ∙ (only-reference what).3))
picked what limits.Writes how h = absurd (true≢false (sym (and_parts (is_field_ref what occ.PackageRef) (writes how) h).0 ∙ (only-reference what).2))

named : (env : Env) (p : Pattern) (o : Occurrence) (b : Binding) → IsOfKind occ.PackageRef o.name b → fits_binding env p o b ≡ true
    → name_matches p.rule p.case p.name o.name ≡ true
named env p o (bindings.Package q) k f = subst (λ n. name_matches p.rule p.case p.name n ≡ true) k.1 f
named env p o (bindings.Class t) k f = absurd (true≢false (sym k))
named env p o (bindings.Field g) k f = absurd (true≢false (sym k))
named env p o (bindings.Method m) k f = absurd (true≢false (sym k))
named env p o bindings.Nothing k f = (and_parts (name_matches p.rule p.case p.name o.name) (fits_count p o.count) f).0

pub package-preselected : (Has : Key → Type 0) (env : Env) (p : Pattern) (o : Occurrence) → ((name : Identifier) → Has (ref_key name) → IsSimple name)
    → o.kind ≡ occ.PackageRef → IsPackageOf Has o.name → IsOfKind o.kind o.name o.binding → fits env p o ≡ true → IsPreselected Has p
package-preselected Has env p o simple e pack k f =
    let q = and_parts (picks p.what p.limit o.kind o.access) (fits_binding env p o o.binding) f in
    let r = picked p.what p.limit o.access (ap (λ x. picks p.what p.limit x o.access) (sym e) ∙ q.0) in
    let n = named env p o o.binding (subst (λ x. IsOfKind x o.name o.binding) e k) q.1 in
    let last = last-of pack.first pack.rest in
    record {
      key = ref_key last;
      has = last-each (λ x. Has (ref_key x)) pack.first pack.rest pack.each;
      admitted = and_from (asks p.what p.limit categories.Ref) (admits_key p categories.Ref last)
          (ap (λ w. asks w p.limit categories.Ref) r.0 ∙ r.1)
          (ap (λ w. cond (is_package w) (admits_package_ref p.rule p.case p.name last) (named_by p last)) r.0
          ∙ package-admitted p.rule p.case p.name o.name pack.first pack.rest (simples (pack.first ∷ pack.rest) pack.each) pack.is n);
    }
  where
    simples : (xs : Identifiers) → AllByRecursion (λ x. Has (ref_key x)) xs → AreSimple xs
    simples [] h = tt
    simples (x ∷ xs) h = (simple x h.0, simples xs h.1)
