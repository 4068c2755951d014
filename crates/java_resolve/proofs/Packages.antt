-- The kinds of a name that means a package.
use Rattle.std.proofs.Common.{◌≡◌, ◌-◌, true, false, List, [], ◌∷◌, map, length, refl, sym, ap, ◌∙◌, arith, true≢false}
use Rattle.std.specs.Prelude.{slice_get, unwrap_or}
use Rattle.java_tree.specs.declared.types.NameKind.{NameKind}
use Rattle.java_tree.specs.declared.types.NameKind.TheVariants as kinds
use Rattle.java_model.specs.Grammar.Forms.{last_or}
use Rattle.java_model.specs.Scopes.TypeNames.{as_package, packages_before}
use Rattle.java_resolve.specs.Kinds.{is_package}

last-after : (k : NameKind) (ks : List NameKind) → unwrap_or (slice_get (k ∷ ks) (length ks)) kinds.Nothing ≡ last_or k ks
last-after k [] = refl
last-after k (m ∷ ms) = last-after m ms

pub last-kind : (ks : List NameKind) → unwrap_or (slice_get ks (length ks - 1)) kinds.Nothing ≡ last_or kinds.Nothing ks
last-kind [] = refl
last-kind (k ∷ ks) = let e : length (k ∷ ks) - 1 ≡ length ks = omega arith in ap (λ n. unwrap_or (slice_get (k ∷ ks) n) kinds.Nothing) e ∙ last-after k ks

all-packages : (k : NameKind) (before : List NameKind) → is_package k ≡ true → packages_before k before ≡ map (λ _. kinds.Package) before
all-packages kinds.Package before h = refl
all-packages (kinds.Local t) before h = absurd (true≢false (sym h))
all-packages (kinds.Field f) before h = absurd (true≢false (sym h))
all-packages (kinds.Class t) before h = absurd (true≢false (sym h))
all-packages kinds.Nothing before h = absurd (true≢false (sym h))

as-they-are : (k : NameKind) (before : List NameKind) → is_package k ≡ false → packages_before k before ≡ before
as-they-are kinds.Package before h = absurd (true≢false h)
as-they-are (kinds.Local t) before h = refl
as-they-are (kinds.Field f) before h = refl
as-they-are (kinds.Class t) before h = refl
as-they-are kinds.Nothing before h = refl

pub is-packages : (before ks : List NameKind) → is_package (last_or kinds.Nothing before) ≡ true → ks ≡ map (λ _. kinds.Package) before → ks ≡ as_package before
is-packages before ks h is = is ∙ sym (all-packages (last_or kinds.Nothing before) before h)

pub is-itself : (before : List NameKind) → is_package (last_or kinds.Nothing before) ≡ false → before ≡ as_package before
is-itself before h = sym (as-they-are (last_or kinds.Nothing before) before h)
