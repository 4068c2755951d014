-- The forms of expressions and statements, opened.
pub use Rattle.java_model.proofs.Grammar.Layers.{out-expr-Assign, out-expr-Conditional, out-expr-Binary, out-expr-Prefix, out-expr-Cast, out-expr-Postfix, out-operation-Infix, out-operation-InstanceOf, out-first-Literal, out-first-This, out-first-Name, out-first-Parenthesized, out-first-ClassLiteral, out-first-VoidClass, out-first-QualifiedThis, out-first-SuperField, out-first-Call, out-first-SuperCall, out-first-New, out-first-NewArray, out-first-NewArrayOf, out-selector-Field, out-selector-MemberCall, out-selector-Index, out-selector-QualifiedNew, out-initializer-Value, out-initializer-Array}
pub use Rattle.java_model.proofs.Grammar.LayersStmt.{out-stmt-Block, out-stmt-Empty, out-stmt-Labeled, out-stmt-Expression, out-stmt-If, out-stmt-While, out-stmt-Do, out-stmt-For, out-stmt-Switch, out-stmt-Break, out-stmt-Continue, out-stmt-Return, out-stmt-Throw, out-stmt-Synchronized, out-stmt-Try, out-stmt-Assert, out-block_statement-LocalClass, out-block_statement-Local, out-block_statement-Statement}

pub ruleset outs = (out-expr-Assign, out-expr-Conditional, out-expr-Binary, out-expr-Prefix, out-expr-Cast, out-expr-Postfix, out-operation-Infix, out-operation-InstanceOf, out-first-Literal, out-first-This, out-first-Name, out-first-Parenthesized, out-first-ClassLiteral, out-first-VoidClass, out-first-QualifiedThis, out-first-SuperField, out-first-Call, out-first-SuperCall, out-first-New, out-first-NewArray, out-first-NewArrayOf, out-selector-Field, out-selector-MemberCall, out-selector-Index, out-selector-QualifiedNew, out-initializer-Value, out-initializer-Array, out-stmt-Block, out-stmt-Empty, out-stmt-Labeled, out-stmt-Expression, out-stmt-If, out-stmt-While, out-stmt-Do, out-stmt-For, out-stmt-Switch, out-stmt-Break, out-stmt-Continue, out-stmt-Return, out-stmt-Throw, out-stmt-Synchronized, out-stmt-Try, out-stmt-Assert, out-block_statement-LocalClass, out-block_statement-Local, out-block_statement-Statement)
