-- The span of a name.
use Rattle.std.proofs.Common.{◌≡◌, ◌-◌, ◌≤◌, List, [], ◌∷◌, length, get_or, refl, ap, ◌∙◌, arith}
use Rattle.java_tree.specs.declared.names.Ident.{Ident}
use Rattle.java_tree.specs.declared.token.Span.{Span}
use Rattle.java_model.specs.Grammar.Forms.{last_or}
use Rattle.java_model.specs.Occurrences.References.{whole_span}

last_or-at : (i d : Ident) (more : List Ident) → get_or (i ∷ more) (length more) d ≡ last_or i more
last_or-at i d [] = refl
last_or-at i d (j ∷ more) = last_or-at j d more

abbrev from_to : Ident → Ident → Span
from_to a b = record { start = a.span.start; end = b.span.end }

pub ends_span : (xs : List Ident) (a b : Ident) → 2 ≤ length xs → a ≡ get_or xs 0 a → b ≡ get_or xs (length xs - 1) b → from_to a b ≡ whole_span xs
ends_span [] a b l e f = absurd (omega (arith, l))
ends_span (x ∷ xs) a b l e f =
    let k : length (x ∷ xs) - 1 ≡ length xs = omega arith in
    let g : b ≡ last_or x xs = f ∙ (ap (λ n. get_or (x ∷ xs) n b) k ∙ last_or-at x b xs) in
    ap (λ y. from_to y b) e ∙ ap (from_to x) g
