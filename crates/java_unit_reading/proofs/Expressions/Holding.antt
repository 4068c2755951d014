-- What is asked of the readers of what is nested.
use Rattle.std.proofs.Common.{◌≡◌, ℕ, ◌≤◌, Bool, true, false, List, [], ◌∷◌, Option}
use Rattle.java_tree.specs.declared.mark.Mark.{Mark}
use Rattle.java_tree.specs.declared.mark.Mark.TheVariants as marks
use Rattle.java_tree.specs.declared.expr.ArrayInitializer.{ArrayInitializer}
use Rattle.java_tree.specs.declared.expr.Expr.{Expr}
use Rattle.java_tree.specs.declared.expr.Primary.{Primary}
use Rattle.java_tree.specs.declared.stmt.Stmt.{Stmt}
use Rattle.java_tree.specs.declared.unit.TypePlace.{TypePlace}
use Rattle.java_model.specs.Grammar.Signs.{Sign, mark, this, super, word, literal}
use Rattle.java_model.specs.Grammar.Pieces.{Piece, hole, Hole, Around, deeper}
use Rattle.java_model.specs.Grammar.Runs.{Reads, ends_expr}
use Rattle.java_model.specs.Grammar.YieldExpr.{yield_expr, yield_array, yield_primary}
use Rattle.java_model.specs.Grammar.YieldStmt.{yield_stmt}
use Rattle.java_model.specs.Grammar.Expressions.{IsExpr, IsPrimary, nested}
use Rattle.java_model.specs.Grammar.Statements.{Ifs, any, no_short, IsStmt}
use Rattle.java_model.specs.Grammar.Follows.{ends_stmt}
use Rattle.java_unit_reading.specs.Reading.Steps.{State, Done, sees}
use Rattle.java_unit_reading.specs.Reading.Words.{declares}
use Rattle.java_unit_reading.specs.Reading.Nested.{Exprs, Here, Parts, bodies_of, around}
use Rattle.java_unit_reading.specs.Reading.Statements.{begins_class, begins_local, ends_block, begins_label}
use Rattle.java_unit_reading.specs.Reading.Members.{other, opening, begins_super_call}
use Rattle.java_unit_reading.proofs.Sounding.{Stands, IfDone}
use Rattle.java_unit_reading.proofs.Completing.{Complete, Always}

-- a place with so much of the depth left, in the type with a number
pub record InPlace (d : ℕ) (w : Option ℕ) (a : Around) : Type 0 where
  pub left : a.left ≡ d
  pub within : a.within ≡ w

-- pieces stand at the head of tokens, and pass the same bodies over wherever they stand
pub record Passes (Y : Around → List Piece) (d : ℕ) (ts us : List Sign) : Type 0 where
  pub reads : (a : Around) → a.left ≡ d → Reads (Y a) ts us
  pub bodies : (a : Around) → a.left ≡ d → bodies_of (Y a) ts ≡ bodies_of (Y (around d)) ts

-- what an expression begins with
abbrev pub begins_expr_with : Mark → Bool
begins_expr_with marks.LeftParen = true
begins_expr_with marks.New = true
begins_expr_with marks.Void = true
begins_expr_with marks.Increment = true
begins_expr_with marks.Decrement = true
begins_expr_with marks.Plus = true
begins_expr_with marks.Minus = true
begins_expr_with marks.Tilde = true
begins_expr_with marks.Bang = true
begins_expr_with marks.Boolean = true
begins_expr_with marks.Byte = true
begins_expr_with marks.Short = true
begins_expr_with marks.Char = true
begins_expr_with marks.Int = true
begins_expr_with marks.Long = true
begins_expr_with marks.Float = true
begins_expr_with marks.Double = true
begins_expr_with _ = false

abbrev pub begins_expr : List Sign → Bool
begins_expr (mark m ∷ ts) = begins_expr_with m
begins_expr (this s ∷ ts) = true
begins_expr (super s ∷ ts) = true
begins_expr (word i ∷ ts) = true
begins_expr (literal l ∷ ts) = true
begins_expr _ = false

-- An expression is told from what else may stand where one may.
pub record OpensExpr (ts : List Sign) : Type 0 where
  pub begins : begins_expr ts ≡ true
  pub no_declaration : declares ts ≡ false
  pub no_invocation : opening ts ≡ other

pub record ExprsHold (E : Exprs) : Type 0 where
  pub expr_sound : (d : ℕ) → d ≤ 256 → (x : Expr) (ts us : List Sign) → E.expr d ts ≡ Here x us
      → IsExpr d x × Passes (λ a. yield_expr x (deeper a)) d ts us
  pub expr_complete : (d : ℕ) → d ≤ 256 → (x : Expr) (a : Around) (ts us : List Sign) → IsExpr d x → a.left ≡ d
      → Reads (yield_expr x (deeper a)) ts us → ends_expr us ≡ true → E.expr d ts ≡ Here x us
  pub expr_opens : (d : ℕ) → d ≤ 256 → (x : Expr) (ts us : List Sign) → E.expr d ts ≡ Here x us → OpensExpr ts
  pub array_sound : (d : ℕ) → d ≤ 256 → (x : ArrayInitializer) (ts us : List Sign) → E.array d ts ≡ Here x us
      → (nested d).braces x × Passes (yield_array x) d ts us
  pub array_complete : (d : ℕ) → d ≤ 256 → (x : ArrayInitializer) (a : Around) (ts us : List Sign) → (nested d).braces x
      → a.left ≡ d → Reads (yield_array x a) ts us → ends_expr us ≡ true → E.array d ts ≡ Here x us
  pub primary_sound : (d : ℕ) → d ≤ 256 → (x : Primary) (ts us : List Sign) → E.primary d ts ≡ Here x us
      → IsPrimary (nested d) x × Passes (yield_primary x) d ts us
  pub primary_complete : (d : ℕ) → d ≤ 256 → (x : Primary) (a : Around) (ts us : List Sign) → IsPrimary (nested d) x → a.left ≡ d
      → Reads (yield_primary x a) ts us → begins_super_call us ≡ true → E.primary d ts ≡ Here x us
  -- a primary expression before `.super(` begins no expression and no label
  pub primary_opens : (d : ℕ) → d ≤ 256 → (x : Primary) (ts us : List Sign) → E.primary d ts ≡ Here x us
      → begins_super_call us ≡ true → OpensExpr ts × (begins_label ts ≡ false)
  pub primary_alone : (d e : ℕ) → d ≤ 256 → e ≤ 256 → (x : Primary) (y : Expr) (ts us vs : List Sign) → E.primary d ts ≡ Here x us
      → begins_super_call us ≡ true → E.expr e ts ≡ Here y vs → ⊥

-- where an `else` follows, no short `if` ends a statement
abbrev pub Allowed : Ifs → List Sign → Type 0
Allowed any ts = Unit {0}
Allowed no_short ts = sees marks.Else ts ≡ true

-- A statement is told from what else may stand in a block.
pub record OpensStmt (ts : List Sign) : Type 0 where
  pub no_end : ends_block ts ≡ false
  pub no_class : begins_class ts ≡ false
  pub no_local : begins_local ts ≡ false
  pub ends : ends_stmt any ts ≡ true
  pub no_invocation : opening ts ≡ other

abbrev pub StmtIs : ℕ → Option ℕ → State → Stmt → State → Type 0
StmtIs d w s x t = ((ifs : Ifs) → Allowed ifs t.tokens → IsStmt d ifs x) × ((a : Around) → InPlace d w a → Stands (yield_stmt x (deeper a)) s t)

abbrev pub EndsStmt : Ifs → List Sign → Type 0
EndsStmt ifs ts = ends_stmt ifs ts ≡ true

abbrev pub TypeIs : ℕ → TypePlace → Option ℕ → State → ℕ → State → Type 0
TypeIs left place w s brace t =
    (h : Hole) → h.brace ≡ brace → h.place ≡ place → h.around.left ≡ left → h.around.within ≡ w → Stands (hole h ∷ []) s t

pub record PartsHold (E : Exprs) (P : Parts) (d : ℕ) : Type 0 where
  pub stmt_sound : (w : Option ℕ) (s : State) → IfDone (StmtIs d w s) (P.stmt w s)
  pub stmt_complete : (w : Option ℕ) (a : Around) (ifs : Ifs) (x : Stmt) → InPlace d w a → IsStmt d ifs x
      → Complete (P.stmt w) (yield_stmt x (deeper a)) x (EndsStmt ifs)
  pub stmt_opens : (w : Option ℕ) (s t : State) (x : Stmt) → P.stmt w s ≡ Done x t → OpensStmt s.tokens
  pub stmt_alone : (w : Option ℕ) (s t : State) (x : Stmt) (e : ℕ) → e ≤ 256
      → (p : Primary) (us : List Sign) → P.stmt w s ≡ Done x t → E.primary e s.tokens ≡ Here p us
      → begins_super_call us ≡ true → ⊥
  pub type_sound : (left : ℕ) (place : TypePlace) (w : Option ℕ) (s : State) → IfDone (TypeIs left place w s) (P.type left place w s)
  pub type_complete : (h : Hole) → h.around.left ≤ d → Complete (P.type h.around.left h.place h.around.within) (hole h ∷ []) h.brace Always
