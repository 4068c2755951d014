-- Holes that are found one after another.
use Rattle.std.proofs.Common.{◌≡◌, ◌+◌, ◌<◌, ℕ, zero, suc, Bool, true, false, List, [], ◌∷◌, ◌++◌, Option, Some, None, map, take, length, get_or, refl, sym, ap, ◌∙◌, subst, append_assoc, arith}
use Rattle.std.proofs.Math.Seq.{take-suc}
use Rattle.std.proofs.lemmas.List.{append-nil}
use Rattle.java_tree.specs.declared.names.ElementType.{ElementType}
use Rattle.java_tree.specs.declared.names.ElementType.TheVariants as elements
use Rattle.java_tree.specs.declared.names.Ident.{Ident}
use Rattle.java_tree.specs.declared.names.TypeUse.{TypeUse}
use Rattle.java_tree.specs.declared.operators.PostfixOp.{PostfixOp}
use Rattle.java_tree.specs.declared.token.Span.{Span}
use Rattle.java_model.specs.Grammar.Pieces.{Yield, Piece, token, hole, Hole, Around, deeper, each, parted, behind_commas, dotted, yield_name, yield_dims, yield_element, yield_type}
use Rattle.java_model.specs.Grammar.Runs.{holes_of}
use Rattle.java_model.specs.Grammar.YieldExpr.{yield_sizes, yield_super, yield_postfixes, yield_comma}
use Rattle.java_document.specs.Holes.{kept, Finds}
use Rattle.java_document.specs.declared.hole.FoundHole.{FoundHole}

pub holes_both : (ps qs : List Piece) → holes_of (ps ++ qs) ≡ holes_of ps ++ holes_of qs
holes_both [] qs = refl
holes_both (token s ∷ ps) qs = holes_both ps qs
holes_both (hole h ∷ ps) qs = ap (λ hs. h ∷ hs) (holes_both ps qs)

kept_both : (hs gs : List Hole) → map kept (hs ++ gs) ≡ map kept hs ++ map kept gs
kept_both [] gs = refl
kept_both (h ∷ hs) gs = ap (λ fs. kept h ∷ fs) (kept_both hs gs)

-- ---- what has no holes

-- pieces before or after which tokens alone stand
pub holes_behind : (ps qs : List Piece) → holes_of ps ≡ [] → holes_of (ps ++ qs) ≡ holes_of qs
holes_behind ps qs h = holes_both ps qs ∙ ap (λ hs. hs ++ holes_of qs) h

pub holes_before : (ps qs : List Piece) → holes_of qs ≡ [] → holes_of (ps ++ qs) ≡ holes_of ps
holes_before ps qs h = holes_both ps qs ∙ ap (λ hs. holes_of ps ++ hs) h ∙ append-nil (holes_of ps)

no_holes_both : (ps qs : List Piece) → holes_of ps ≡ [] → holes_of qs ≡ [] → holes_of (ps ++ qs) ≡ []
no_holes_both ps qs h g = holes_behind ps qs h ∙ g

holes_dotted : (n : List Ident) → holes_of (dotted n) ≡ []
holes_dotted [] = refl
holes_dotted (i ∷ n) = holes_dotted n

pub holes_name : (n : List Ident) → holes_of (yield_name n) ≡ []
holes_name [] = refl
holes_name (i ∷ n) = holes_dotted n

pub holes_dims : (n : ℕ) → holes_of (yield_dims n) ≡ []
holes_dims zero = refl
holes_dims (suc n) = holes_dims n

pub holes_element : (e : ElementType) → holes_of (yield_element e) ≡ []
holes_element (elements.Primitive p) = refl
holes_element (elements.Named n) = holes_name n

pub holes_type : (t : TypeUse) → holes_of (yield_type t) ≡ []
holes_type t = no_holes_both (yield_element t.element) (yield_dims t.dims) (holes_element t.element) (holes_dims t.dims)

pub holes_postfixes : (ops : List PostfixOp) → holes_of (yield_postfixes ops) ≡ []
holes_postfixes [] = refl
holes_postfixes (op ∷ ops) = holes_postfixes ops

pub holes_comma : (b : Bool) → holes_of (yield_comma b) ≡ []
holes_comma true = refl
holes_comma false = refl

pub holes_super : (n : Option (List Ident)) (s : Span) (i : Ident) → holes_of (yield_super n s i) ≡ []
holes_super None s i = refl
holes_super (Some n) s i = holes_before (yield_name n) _ refl ∙ holes_name n

-- ---- lists

pub holes_commas : (ys : List Yield) (a : Around) → holes_of (behind_commas ys a) ≡ holes_of (each ys a)
holes_commas [] a = refl
holes_commas (y ∷ ys) a = holes_both (y a) (behind_commas ys a) ∙ ap (λ hs. holes_of (y a) ++ hs) (holes_commas ys a) ∙ sym (holes_both (y a) (each ys a))

pub holes_parted : (ys : List Yield) (a : Around) → holes_of (parted ys a) ≡ holes_of (each ys a)
holes_parted [] a = refl
holes_parted (y ∷ ys) a = holes_both (y a) (behind_commas ys a) ∙ ap (λ hs. holes_of (y a) ++ hs) (holes_commas ys a) ∙ sym (holes_both (y a) (each ys a))

pub holes_sizes : (ys : List Yield) (a : Around) → holes_of (yield_sizes ys a) ≡ holes_of (each ys (deeper a))
holes_sizes [] a = refl
holes_sizes (y ∷ ys) a = holes_both (y (deeper a)) _ ∙ ap (λ hs. holes_of (y (deeper a)) ++ hs) (holes_sizes ys a) ∙ sym (holes_both (y (deeper a)) (each ys (deeper a)))

pub each_more : (ys : List Yield) (y : Yield) (a : Around) → holes_of (each (ys ++ y ∷ []) a) ≡ holes_of (each ys a) ++ holes_of (y a)
each_more [] y a = holes_before (y a) [] refl
each_more (z ∷ ys) y a =
    holes_both (z a) _ ∙ ap (λ hs. holes_of (z a) ++ hs) (each_more ys y a) ∙ sym (append_assoc (holes_of (z a)) (holes_of (each ys a)) (holes_of (y a)))
    ∙ ap (λ hs. hs ++ holes_of (y a)) (sym (holes_both (z a) (each ys a)))

map-append : {A B : Type 0} (f : A → B) (xs ys : List A) → map f (xs ++ ys) ≡ map f xs ++ map f ys
map-append f [] ys = refl
map-append f (x ∷ xs) ys = ap (λ zs. f x ∷ zs) (map-append f xs ys)

-- ---- finding

pub finds_nothing : (locals : List ℕ) (y : Yield) (b : List FoundHole) → ((a : Around) → holes_of (y a) ≡ []) → Finds locals y b b
finds_nothing locals y b h = record { found = λ a e. sym (ap (λ hs. b ++ map kept hs) (h a) ∙ append-nil b) }

-- what has the holes of another yield, at a place with the same local classes
pub finds_same : (locals : List ℕ) (y z : Yield) (b c : List FoundHole) (f : Around → Around) → ((a : Around) → (f a).locals ≡ a.locals)
    → ((a : Around) → holes_of (z a) ≡ holes_of (y (f a))) → Finds locals y b c → Finds locals z b c
finds_same locals y z b c f keeps same h = record { found = λ a e. h.found (f a) (keeps a ∙ e) ∙ ap (λ hs. b ++ map kept hs) (sym (same a)) }

-- and what has those of one yield and then those of another
pub finds_both : (locals : List ℕ) (x y z : Yield) (b m c : List FoundHole) (f g : Around → Around)
    → ((a : Around) → (f a).locals ≡ a.locals) → ((a : Around) → (g a).locals ≡ a.locals)
    → ((a : Around) → holes_of (z a) ≡ holes_of (x (f a)) ++ holes_of (y (g a))) → Finds locals x b m → Finds locals y m c → Finds locals z b c
finds_both locals x y z b m c f g keeps holds same h k = record {
  found = λ a e.
      k.found (g a) (holds a ∙ e) ∙ ap (λ fs. fs ++ map kept (holes_of (y (g a)))) (h.found (f a) (keeps a ∙ e))
      ∙ append_assoc b (map kept (holes_of (x (f a)))) (map kept (holes_of (y (g a))))
      ∙ ap (λ fs. b ++ fs) (sym (kept_both (holes_of (x (f a))) (holes_of (y (g a))))) ∙ ap (λ hs. b ++ map kept hs) (sym (same a));
}

pub finds_more : {A : Type 0} (locals : List ℕ) (f : A → Yield) (xs : List A) (x : A) (b m c : List FoundHole)
    → Finds locals (each (map f xs)) b m → Finds locals (f x) m c → Finds locals (each (map f (xs ++ x ∷ []))) b c
finds_more locals f xs x b m c h k =
    finds_both locals (each (map f xs)) (f x) (each (map f (xs ++ x ∷ []))) b m c (λ a. a) (λ a. a) (λ a. refl) (λ a. refl)
    (λ a. ap (λ ys. holes_of (each ys a)) (map-append f xs (x ∷ [])) ∙ each_more (map f xs) (f x) a) h k

pub finds_none : {A : Type 0} (locals : List ℕ) (f : A → Yield) (b : List FoundHole) → Finds locals (each (map f [])) b b
finds_none locals f b = finds_nothing locals (each (map f [])) b (λ a. refl)

-- one more of a list
pub finds_next : {A : Type 0} (locals : List ℕ) (f : A → Yield) (xs : List A) (i : ℕ) (x : A) (b m c : List FoundHole) → i < length xs
    → Finds locals (each (map f (take i xs))) b m → Finds locals (f (get_or xs i x)) m c → Finds locals (each (map f (take (i + 1) xs))) b c
finds_next locals f xs i x b m c h before one =
    let next : i + 1 ≡ suc i = omega arith in
    subst (λ ys. Finds locals (each (map f ys)) b c) (sym (ap (λ n. take n xs) next ∙ take-suc xs i x h)) (finds_more locals f (take i xs) (get_or xs i x) b m c before one)
