-- The dangling `else` (JLS 14.9): it belongs to the nearest `if`.
use Rattle.std.proofs.Common.{◌≡◌, ℕ, zero, suc, List, [], ◌∷◌, Option, Some, None, refl, ap, sym, subst}
use Rattle.java_tree.specs.declared.mark.Mark.TheVariants as marks
use Rattle.java_tree.specs.declared.names.Ident.{Ident}
use Rattle.java_tree.specs.declared.expr.Expr.{Expr}
use Rattle.java_tree.specs.declared.expr.Expr.TheVariants as exprs
use Rattle.java_tree.specs.declared.expr.First.TheVariants as firsts
use Rattle.java_tree.specs.declared.stmt.IfArm.{IfArm}
use Rattle.java_tree.specs.declared.stmt.Stmt.{Stmt, out-Stmt}
use Rattle.java_tree.specs.declared.stmt.Stmt.TheVariants as stmts
use Rattle.java_model.specs.Grammar.Signs.{word}
use Rattle.java_model.specs.Grammar.Pieces.{token, the, Around}
use Rattle.java_model.specs.Grammar.YieldStmt.{yield_stmt}
use Rattle.java_model.specs.Grammar.Expressions.{Nested, call, primary_of, nested}
use Rattle.java_model.specs.Grammar.Statements.{Ifs, any, no_short, IsPlain, block, empty, labeled, expression, while, do_while, for, switch, break, continue, return, throw, synchronized, try_catch, try_finally, assert, plain, short_if, if_else, IsStmt}
use Rattle.java_model.proofs.Grammar.Yield.{expr_yields}
use Rattle.java_model.proofs.Grammar.Layers.{expr_layers}
use Rattle.java_model.proofs.Grammar.LayersStmt.{stmt_layers}
use Rattle.java_model.proofs.Grammar.YieldStmt.{stmt_yields}
use Rattle.java_model.proofs.Grammar.Shapes.{expr_of_primary, primary, simple, expr-simple}
use Rattle.java_model.proofs.Grammar.Examples.{a, b, c}

-- the call `i()`, and as a statement
abbrev call_of : Ident → Expr
call_of i = exprs.Postfix (primary (firsts.Call (i ∷ []) []) []) []

abbrev calling : Ident → Stmt
calling i = stmts.Expression (call_of i)

calling-shape : (d : ℕ) (ifs : Ifs) (i : Ident) → IsStmt (suc (suc d)) ifs (calling i)
unfolding nested IsStmt
calling-shape d ifs i = plain (expression (call_of i) refl (expr_of_primary d _ (primary_of (call _ _ refl tt tt) tt), simp expr_layers))

-- `if (a) if (b) c(); else a();`
abbrev inner : Stmt
inner = stmts.If (record { condition = simple b; then = calling c } ∷ []) (Some (calling a))

abbrev nearest : Stmt
nearest = stmts.If (record { condition = simple a; then = inner } ∷ []) None

calling-plain : (d : ℕ) (ifs : Ifs) (i : Ident) → IsPlain (nested (suc d)) (IsStmt (suc d)) ifs (calling i)
unfolding nested
calling-plain d ifs i = expression (call_of i) refl (expr_of_primary d _ (primary_of (call _ _ refl tt tt) tt), simp expr_layers)

nearest-shape : IsStmt 256 any nearest
unfolding nested IsStmt
nearest-shape =
    short_if [] _ refl refl tt (
      expr-simple 254 a,
      if_else _ [] _ refl (expr-simple 253 b, calling-shape 252 no_short c) tt (calling-plain 253 any a),
    )

nearest-yield : (at : Around) → yield_stmt nearest at
    ≡ the marks.If ∷ the marks.LeftParen ∷ token (word a) ∷ the marks.RightParen ∷ the marks.If ∷ the marks.LeftParen ∷ token (word b) ∷ the marks.RightParen
    ∷ token (word c) ∷ the marks.LeftParen ∷ the marks.RightParen ∷ the marks.Semicolon ∷ the marks.Else
    ∷ token (word a) ∷ the marks.LeftParen ∷ the marks.RightParen ∷ the marks.Semicolon ∷ []
nearest-yield at = simp (stmt_yields, expr_yields)

-- the other tree of these tokens, in which the `else` belongs to the outer `if`
abbrev short : Stmt
short = stmts.If (record { condition = simple b; then = calling c } ∷ []) None

abbrev farthest : Stmt
farthest = stmts.If (record { condition = simple a; then = short } ∷ []) (Some (calling a))

farthest-yield : (at : Around) → yield_stmt farthest at
    ≡ the marks.If ∷ the marks.LeftParen ∷ token (word a) ∷ the marks.RightParen ∷ the marks.If ∷ the marks.LeftParen ∷ token (word b) ∷ the marks.RightParen
    ∷ token (word c) ∷ the marks.LeftParen ∷ the marks.RightParen ∷ the marks.Semicolon ∷ the marks.Else
    ∷ token (word a) ∷ the marks.LeftParen ∷ the marks.RightParen ∷ the marks.Semicolon ∷ []
farthest-yield at = simp (stmt_yields, expr_yields)

pub no_plain_if : (N : Nested) (S : Ifs → Stmt → Type 0) (ifs : Ifs) (arms : List IfArm) (last : Option Stmt) → IsPlain N S ifs (stmts.If arms last) → ⊥
no_plain_if N S ifs arms last (block b e h) = cc (simp stmt_layers at (ap out-Stmt e))
no_plain_if N S ifs arms last (empty e) = cc (simp stmt_layers at (ap out-Stmt e))
no_plain_if N S ifs arms last (labeled i y e h) = cc (simp stmt_layers at (ap out-Stmt e))
no_plain_if N S ifs arms last (expression x e h) = cc (simp stmt_layers at (ap out-Stmt e))
no_plain_if N S ifs arms last (while x y e h g) = cc (simp stmt_layers at (ap out-Stmt e))
no_plain_if N S ifs arms last (do_while y x e h g) = cc (simp stmt_layers at (ap out-Stmt e))
no_plain_if N S ifs arms last (for init test update y e h g k l) = cc (simp stmt_layers at (ap out-Stmt e))
no_plain_if N S ifs arms last (switch x brace groups e h g) = cc (simp stmt_layers at (ap out-Stmt e))
no_plain_if N S ifs arms last (break label e) = cc (simp stmt_layers at (ap out-Stmt e))
no_plain_if N S ifs arms last (continue label e) = cc (simp stmt_layers at (ap out-Stmt e))
no_plain_if N S ifs arms last (return x e h) = cc (simp stmt_layers at (ap out-Stmt e))
no_plain_if N S ifs arms last (throw x e h) = cc (simp stmt_layers at (ap out-Stmt e))
no_plain_if N S ifs arms last (synchronized x b e h g) = cc (simp stmt_layers at (ap out-Stmt e))
no_plain_if N S ifs arms last (try_catch b k cs finally e h g l m) = cc (simp stmt_layers at (ap out-Stmt e))
no_plain_if N S ifs arms last (try_finally b finally e h g) = cc (simp stmt_layers at (ap out-Stmt e))
no_plain_if N S ifs arms last (assert x detail e h g) = cc (simp stmt_layers at (ap out-Stmt e))

last_differs : (xs ys : List IfArm) (z : Stmt) → stmts.If xs (Some z) ≡ stmts.If ys None → ⊥
last_differs xs ys z e = cc (simp stmt_layers at (ap out-Stmt e))

same_arms : (xs ys : List IfArm) (y z : Stmt) → stmts.If xs (Some y) ≡ stmts.If ys (Some z) → xs ≡ ys
same_arms xs ys y z e = cc (simp stmt_layers at (ap out-Stmt e))

head_of : {x y : IfArm} {xs ys : List IfArm} → (x ∷ xs) ≡ (y ∷ ys) → x ≡ y
head_of e = cc

-- an `if` without `else` stands before no `else`
pub no_short_before_else : (d : ℕ) (arms : List IfArm) → IsStmt d no_short (stmts.If arms None) → ⊥
unfolding IsStmt
no_short_before_else zero arms h = h
no_short_before_else (suc d) arms (plain h) = no_plain_if _ _ _ arms None h
no_short_before_else (suc d) arms (short_if xs last e k hs h) = cc
no_short_before_else (suc d) arms (if_else arm xs z e h hs p) = last_differs _ _ z (sym e)

pub farthest-refused : (d : ℕ) (ifs : Ifs) → IsStmt d ifs farthest → ⊥
unfolding IsStmt
farthest-refused zero ifs h = h
farthest-refused (suc d) ifs (plain h) = no_plain_if _ _ _ _ (Some (calling a)) h
farthest-refused (suc d) ifs (short_if xs last e k hs h) = last_differs _ _ _ e
farthest-refused (suc d) ifs (if_else arm xs z e h hs p) =
    no_short_before_else d _ (subst (λ arm. IsStmt d no_short arm.then) (sym (head_of (same_arms _ _ _ _ e))) h.1)
