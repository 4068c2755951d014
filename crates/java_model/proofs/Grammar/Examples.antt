-- Expressions, as the grammar reads them: their shapes, and the tokens that they yield.
use Rattle.std.proofs.Common.{◌≡◌, ℕ, ◌+◌, List, [], ◌∷◌, Some, length, codes, refl, arith}
use Rattle.java_tree.specs.declared.mark.Mark.TheVariants as marks
use Rattle.java_tree.specs.declared.names.ElementType.TheVariants as elements
use Rattle.java_tree.specs.declared.names.Ident.{Ident}
use Rattle.java_tree.specs.declared.names.Primitive.TheVariants as primitives
use Rattle.java_tree.specs.declared.operators.BinaryOp.TheVariants as binaries
use Rattle.java_tree.specs.declared.operators.PrefixOp.TheVariants as prefixes
use Rattle.java_tree.specs.declared.token.Span.{Span}
use Rattle.java_tree.specs.declared.unit.TypePlace.TheVariants as places
use Rattle.java_tree.specs.declared.expr.Expr.{Expr}
use Rattle.java_tree.specs.declared.expr.Expr.TheVariants as exprs
use Rattle.java_tree.specs.declared.expr.First.TheVariants as firsts
use Rattle.java_tree.specs.declared.expr.Operation.TheVariants as operations
use Rattle.java_tree.specs.declared.expr.Selector.TheVariants as selectors
use Rattle.java_tree.specs.declared.expr.Creation.{Creation}
use Rattle.java_model.specs.Grammar.Signs.{mark, word, this, left_brace}
use Rattle.java_model.specs.Grammar.Pieces.{token, hole, the, Around, deeper}
use Rattle.java_model.specs.Grammar.YieldExpr.{yield_expr}
use Rattle.java_model.specs.Grammar.Expressions.{IsBinary, IsExpr, a_prefix, a_postfix, cast_primitive, prefix, chain, operand, infix_of, parenthesized, this as a_this, call, new, field, index, member_call, primary_of, primary_of_name, postfix, nested}
use Rattle.java_model.specs.Grammar.Runs.{StandsAt}
use Rattle.java_model.proofs.Grammar.Yield.{expr_yields}
use Rattle.java_model.proofs.Grammar.Shapes.{binary_of_unary, expr_of_or, expr_of_unary, expr_of_primary, primary, simple, unary-simple, expr-simple}

abbrev pub id : List ℕ → ℕ → Ident
id bytes at = record { name = bytes; span = record { start = at; end = at + length bytes } }

abbrev pub a : Ident
a = id (codes "a") 1

abbrev pub b : Ident
b = id (codes "b") 6

abbrev pub c : Ident
c = id (codes "c") 9

-- `(a) - b` is a difference
abbrev difference : Expr
difference = exprs.Binary (exprs.Postfix (primary (firsts.Parenthesized (simple a)) []) []) (operations.Infix binaries.Subtract (simple b) ∷ [])

difference-shape : IsExpr 256 difference
unfolding nested IsBinary
difference-shape =
    expr_of_or 255 difference
    (operand (operand (operand (operand (operand (operand (operand (operand
    (chain _ _ [] refl
    (operand (a_postfix (postfix _ [] refl (primary_of (parenthesized _ refl (expr-simple 254 a)) tt))))
    (infix_of binaries.Subtract (simple b) refl refl (binary_of_unary (nested 255) 1 _ (unary-simple (nested 255) b)))
    tt)))))))))

difference-yield : (at : Around) → yield_expr difference at ≡ the marks.LeftParen ∷ token (word a) ∷ the marks.RightParen ∷ the marks.Minus ∷ token (word b) ∷ []
difference-yield at = simp expr_yields

-- it stands in the tokens of `(a) - b;`, up to the `;`
difference-stands :
    StandsAt (mark marks.LeftParen ∷ word a ∷ mark marks.RightParen ∷ mark marks.Minus ∷ word b ∷ mark marks.Semicolon ∷ []) 0 0 5 difference
difference-stands = record {
  shape = difference-shape;
  reads = simp expr_yields (_, refl, (_, refl, (_, refl, (_, refl, (_, refl, refl)))));
  ends = refl;
  in_tokens = omega arith;
}

-- `(int) - b` is a cast of `- b`
abbrev cast : Expr
cast = exprs.Cast (record { element = elements.Primitive primitives.Int; dims = 0 }) (exprs.Prefix prefixes.Minus (simple b))

cast-shape : IsExpr 256 cast
unfolding nested
cast-shape = expr_of_unary 255 cast (a_prefix (cast_primitive primitives.Int 0 _ refl (a_prefix (prefix prefixes.Minus (simple b) refl (unary-simple (nested 253) b)))))

cast-yield : (at : Around) → yield_expr cast at ≡ the marks.LeftParen ∷ the marks.Int ∷ the marks.RightParen ∷ the marks.Minus ∷ token (word b) ∷ []
cast-yield at = simp expr_yields

-- `a.b.c` is one name
abbrev dots : Expr
dots = exprs.Postfix (primary (firsts.Name (a ∷ b ∷ c ∷ [])) []) []

dots-shape : IsExpr 256 dots
dots-shape = expr_of_primary 255 _ (primary_of_name _ refl tt refl tt)

dots-yield : (at : Around) → yield_expr dots at ≡ token (word a) ∷ the marks.Dot ∷ token (word b) ∷ the marks.Dot ∷ token (word c) ∷ []
dots-yield at = simp expr_yields

-- `this.a[b].c()` has three selectors
abbrev here : Span
here = record { start = 0; end = 4 }

abbrev chain_on_this : Expr
chain_on_this = exprs.Postfix (primary (firsts.This here) (selectors.Field a ∷ selectors.Index (simple b) ∷ selectors.MemberCall c [] ∷ [])) []

chain_on_this-shape : IsExpr 256 chain_on_this
chain_on_this-shape =
    expr_of_primary 255 _ (primary_of (a_this here refl) (field a refl, (index (simple b) refl (expr-simple 254 b), (member_call c [] refl tt, tt))))

chain_on_this-yield : (at : Around) → yield_expr chain_on_this at
    ≡ token (this here) ∷ the marks.Dot ∷ token (word a) ∷ the marks.LeftBracket ∷ token (word b) ∷ the marks.RightBracket
    ∷ the marks.Dot ∷ token (word c) ∷ the marks.LeftParen ∷ the marks.RightParen ∷ []
chain_on_this-yield at = simp expr_yields

-- `a(new b() {..})`: the body of the anonymous class is a hole
abbrev created : Creation
created = record { class = b ∷ []; arguments = []; body = Some 10 }

abbrev argument : Expr
argument = exprs.Postfix (primary (firsts.New created) []) []

abbrev calls : Expr
calls = exprs.Postfix (primary (firsts.Call (a ∷ []) (argument ∷ [])) []) []

calls-shape : IsExpr 256 calls
unfolding nested
calls-shape =
    expr_of_primary 255 _ (primary_of (call _ _ refl tt (expr_of_primary 254 _ (primary_of (new created refl (tt, tt)) tt), tt)) tt)

calls-yield : (at : Around) → yield_expr calls at
    ≡ token (word a) ∷ the marks.LeftParen ∷ the marks.New ∷ token (word b) ∷ the marks.LeftParen ∷ the marks.RightParen
    ∷ hole (record { brace = 10; place = places.Anonymous; created = b ∷ []; around = deeper at }) ∷ the marks.RightParen ∷ []
calls-yield at = simp expr_yields

-- by itself it stands in any tokens in which a run from that `{` to the matching `}` stands at the hole
calls-stands :
    StandsAt (word a ∷ mark marks.LeftParen ∷ mark marks.New ∷ word b ∷ mark marks.LeftParen ∷ mark marks.RightParen
    ∷ left_brace 10 ∷ left_brace 12 ∷ mark marks.RightBrace ∷ mark marks.If ∷ mark marks.RightBrace ∷ mark marks.RightParen ∷ []) 0 0 12 calls
calls-stands = record {
  shape = calls-shape;
  reads = simp expr_yields (_, refl, (_, refl, (_, refl, (_, refl, (_, refl, (_, refl, (_, refl, (_, refl, refl))))))));
  ends = refl;
  in_tokens = omega arith;
}
