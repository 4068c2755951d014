-- In what an expression yields each brace is closed.
use Rattle.std.proofs.Common.{◌≡◌, ℕ, suc, List, [], ◌∷◌, ◌++◌, map, refl, ap, ◌∙◌, append_assoc}
use Rattle.std.specs.List.{AllByRecursion}
use Rattle.java_tree.specs.declared.mark.Mark.{Mark}
use Rattle.java_tree.specs.declared.mark.Mark.TheVariants as marks
use Rattle.java_tree.specs.declared.names.Ident.{Ident}
use Rattle.java_tree.specs.declared.names.TypeUse.{TypeUse}
use Rattle.java_tree.specs.declared.expr.Expr.{Expr}
use Rattle.java_tree.specs.declared.expr.Initializer.{Initializer}
use Rattle.java_tree.specs.declared.expr.Primary.{Primary}
use Rattle.java_model.specs.Grammar.Signs.{left_brace}
use Rattle.java_model.specs.Grammar.Pieces.{Yield, Piece, token, the, Around, each, parted, yield_name, yield_dims, yield_type}
use Rattle.java_model.specs.Grammar.YieldExpr.{yield_arguments, yield_expr, yield_initializer, yield_primary}
use Rattle.java_model.specs.Grammar.Expressions.{Nested, IsInitializer, IsPrimary, nested}
use Rattle.java_model.specs.Grammar.Braces.{open_behind, IsBalanced}
use Rattle.java_model.proofs.Grammar.Kept.{IsKept, AreKept, Keeps, kept_type, kept_dims, kept_name, all_kept, kept_each, kept_parted, arguments_closed as kept_arguments, initializer_closed as kept_initializer, primary_closed as kept_primary, nested_closed as kept_nested}

pub balanced_nothing : IsBalanced []
balanced_nothing = record { keeps = λ d qs. refl }

pub balanced_both : (xs ys : List Piece) → IsBalanced xs → IsBalanced ys → IsBalanced (xs ++ ys)
balanced_both xs ys h g = record { keeps = λ d qs. ap (λ zs. open_behind zs d) (append_assoc xs ys qs) ∙ h.keeps d (ys ++ qs) ∙ g.keeps d qs }

-- a piece that is no brace
abbrev pub IsNeutralPiece : Piece → Type 0
IsNeutralPiece p = (d : ℕ) (qs : List Piece) → open_behind (p ∷ qs) d ≡ open_behind qs d

pub balanced_next : (p : Piece) (ps : List Piece) → IsNeutralPiece p → IsBalanced ps → IsBalanced (p ∷ ps)
balanced_next p ps h g = record { keeps = λ d qs. h d (ps ++ qs) ∙ g.keeps d qs }

pub balanced_one : (p : Piece) → IsNeutralPiece p → IsBalanced (p ∷ [])
balanced_one p h = balanced_next p [] h balanced_nothing

pub balanced_braced : (at : ℕ) (ps : List Piece) → IsBalanced ps → IsBalanced (token (left_brace at) ∷ (ps ++ the marks.RightBrace ∷ []))
balanced_braced at ps h = record {
  keeps = λ d qs. ap (λ zs. open_behind zs (suc d)) (append_assoc ps (the marks.RightBrace ∷ []) qs) ∙ h.keeps (suc d) (the marks.RightBrace ∷ qs);
}

-- between two marks
pub balanced_between : (m n : Mark) (ps : List Piece) → IsNeutralPiece (the m) → IsNeutralPiece (the n) → IsBalanced ps → IsBalanced (the m ∷ (ps ++ the n ∷ []))
balanced_between m n ps h k g = balanced_next (the m) (ps ++ the n ∷ []) h (balanced_both ps (the n ∷ []) g (balanced_one (the n) k))

pub balanced_law : IsKept IsBalanced
balanced_law = record {
  nothing = balanced_nothing;
  both = balanced_both;
  next = λ x ps h g. balanced_next (token x) ps h g;
  braced = balanced_braced;
  anonymous = λ h e. record { keeps = λ d qs. refl };
}

pub balanced_name : (n : List Ident) → IsBalanced (yield_name n)
balanced_name = kept_name IsBalanced balanced_law

pub balanced_type : (t : TypeUse) → IsBalanced (yield_type t)
balanced_type = kept_type IsBalanced balanced_law

pub balanced_dims : (n : ℕ) → IsBalanced (yield_dims n)
balanced_dims = kept_dims IsBalanced balanced_law

-- everywhere balanced
abbrev pub AreBalanced : List Yield → Type 0
AreBalanced = AreKept IsBalanced

pub all_balanced : {X : Type 0} (P : X → Type 0) (f : X → Yield) → ((x : X) → P x → (a : Around) → IsBalanced (f x a))
    → (xs : List X) → AllByRecursion P xs → AreBalanced (map f xs)
all_balanced = all_kept IsBalanced balanced_law

pub balanced_each : (ys : List Yield) (a : Around) → AreBalanced ys → IsBalanced (each ys a)
balanced_each = kept_each IsBalanced balanced_law

pub balanced_parted : (ys : List Yield) (a : Around) → AreBalanced ys → IsBalanced (parted ys a)
balanced_parted = kept_parted IsBalanced balanced_law

abbrev pub AreClosed : Nested → Type 0
AreClosed = Keeps IsBalanced

pub initializer_closed : (N : Nested) → AreClosed N → (i : Initializer) → IsInitializer N i → (a : Around) → IsBalanced (yield_initializer i a)
initializer_closed = kept_initializer IsBalanced balanced_law

pub arguments_closed : (N : Nested) → AreClosed N → (args : List Expr) (a : Around) → AllByRecursion N.expr args → IsBalanced (yield_arguments (map yield_expr args) a)
arguments_closed = kept_arguments IsBalanced balanced_law

pub primary_closed : (N : Nested) → AreClosed N → (p : Primary) (a : Around) → IsPrimary N p → IsBalanced (yield_primary p a)
primary_closed = kept_primary IsBalanced balanced_law

pub nested_closed : (d : ℕ) → AreClosed (nested d)
nested_closed = kept_nested IsBalanced balanced_law
