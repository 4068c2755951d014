-- How variables are used: `=` writes, compound assignment, `++` and `--` update, all else reads.
use Rattle.std.proofs.Common.{◌≡◌, ℕ, List, [], ◌∷◌, None, codes, refl}
use Rattle.java_tree.specs.declared.bound.Bound.{Bound}
use Rattle.java_tree.specs.declared.bound.Bound.TheVariants as bounds
use Rattle.java_tree.specs.declared.expr.Expr.{Expr}
use Rattle.java_tree.specs.declared.expr.Expr.TheVariants as exprs
use Rattle.java_tree.specs.declared.expr.First.TheVariants as firsts
use Rattle.java_tree.specs.declared.expr.Primary.{Primary}
use Rattle.java_tree.specs.declared.expr.Selector.{Selector}
use Rattle.java_tree.specs.declared.expr.Selector.TheVariants as selectors
use Rattle.java_tree.specs.declared.names.Literal.TheVariants as literals
use Rattle.java_tree.specs.declared.names.Primitive.TheVariants as primitives
use Rattle.java_tree.specs.declared.occurrence.Access.{Access}
use Rattle.java_tree.specs.declared.occurrence.Access.TheVariants.{Read, Write, Update}
use Rattle.java_tree.specs.declared.occurrence.Binding.TheVariants as bindings
use Rattle.java_tree.specs.declared.occurrence.OccKind.TheVariants as occurs
use Rattle.java_tree.specs.declared.occurrence.Occurrence.{Occurrence}
use Rattle.java_tree.specs.declared.operators.AssignOp.TheVariants as assigns
use Rattle.java_tree.specs.declared.operators.PostfixOp.TheVariants as postfixes
use Rattle.java_tree.specs.declared.operators.PrefixOp.TheVariants as prefixes
use Rattle.java_tree.specs.declared.types.ArrayElement.TheVariants as elements
use Rattle.java_tree.specs.declared.types.JType.TheVariants as types
use Rattle.java_tree.specs.declared.unit.Unit.{Unit as CompilationUnit}
use Rattle.java_model.specs.Names.Environments.{type_id}
use Rattle.java_model.specs.Scopes.Contexts.{Context}
use Rattle.java_model.specs.Tree.Nodes as nodes
use Rattle.java_model.specs.Tree.Nodes.{Node}
use Rattle.java_model.specs.Tree.Children.{children}
use Rattle.java_model.specs.Bindings.Chains.{Types}
use Rattle.java_model.specs.Bindings.Values.{node_types}
use Rattle.java_model.specs.Bindings.Arithmetic.{int}
use Rattle.java_model.specs.Occurrences.Occurrences.{node_names}
use Rattle.java_model.proofs.PlaceExamples.Kit.{id, int_use, primary, plain, field, top_class, unit_of, alone, name_node, found}
use Rattle.java_model.proofs.PlaceExamples.Outs.{outs}

abbrev a_field : CompilationUnit
a_field = unit_of None [] (top_class (id (codes "A") 6) None 7 (field int_use (plain (id (codes "x") 12)) ∷ []) ∷ [])

abbrev C : Context
C = alone a_field

abbrev in_A : List Bound
in_A = bounds.Members (type_id 0) ∷ []

abbrev x_at : ℕ → Access → List Occurrence
x_at at how = found occurs.FieldRef at (codes "x") (bindings.Field (record { of = type_id 0; place = 0 })) how ∷ []

written : node_names C in_A (name_node Write (id (codes "x") 23 ∷ [])) [] ≡ x_at 23 Write
written = simp outs

-- what each form tells the name inside it
abbrev x : Primary
x = record { first = firsts.Name (id (codes "x") 23 ∷ []); selectors = [] }

abbrev one : Expr
one = primary (firsts.Literal (literals.Int (codes "1"))) []

abbrev reads_x : Expr
reads_x = exprs.Postfix x []

-- `x = 1` and `x += 1`
assigned : children [] (nodes.expression Read (exprs.Assign x assigns.Assign one)) ≡ nodes.primary Write x ∷ nodes.expression Read one ∷ []
assigned = simp outs

added : children [] (nodes.expression Read (exprs.Assign x assigns.Add one)) ≡ nodes.primary Update x ∷ nodes.expression Read one ∷ []
added = simp outs

-- `x++`, `x++ ++` and `--x`
counted_up : children [] (nodes.expression Read (exprs.Postfix x (postfixes.Increment ∷ []))) ≡ nodes.primary Update x ∷ []
counted_up = simp outs

counted_up_twice : children [] (nodes.expression Read (exprs.Postfix x (postfixes.Increment ∷ postfixes.Increment ∷ []))) ≡ nodes.primary Update x ∷ []
counted_up_twice = simp outs

counted_down : children [] (nodes.expression Read (exprs.Prefix prefixes.Decrement reads_x)) ≡ nodes.expression Update reads_x ∷ []
counted_down = simp outs

passed_on : children [] (nodes.expression Update reads_x) ≡ nodes.primary Update x ∷ []
passed_on = simp outs

-- `-x` reads
negated : children [] (nodes.expression Read (exprs.Prefix prefixes.Minus reads_x)) ≡ nodes.expression Read reads_x ∷ []
negated = simp outs

-- `(x) = 1` writes `x`, `x[0] = 1` and `x.y = 1` read it
in_parentheses : children [] (nodes.first Write (firsts.Parenthesized reads_x)) ≡ nodes.expression Write reads_x ∷ []
in_parentheses = simp outs

abbrev selected : List Selector → Primary
selected s = record { first = firsts.Name (id (codes "x") 23 ∷ []); selectors = s }

before_an_index : children [] (nodes.primary Write (selected (selectors.Index one ∷ [])))
    ≡ nodes.first Read (firsts.Name (id (codes "x") 23 ∷ [])) ∷ nodes.selector (selectors.Index one) ∷ []
before_an_index = refl

-- `this.x = 1` writes the field, `this.x.y = 1` reads it
abbrev this_with : List Selector → Node
this_with s = nodes.primary Write (record { first = firsts.This (record { start = 20; end = 24 }); selectors = s })

selected_last : node_names C in_A (this_with (selectors.Field (id (codes "x") 25) ∷ [])) ((types.Class (type_id 0) ∷ []) ∷ [] ∷ []) ≡ x_at 25 Write
selected_last = simp outs

selected_before : node_names C in_A (this_with (selectors.Field (id (codes "x") 25) ∷ selectors.Field (id (codes "y") 27) ∷ []))
    ((types.Class (type_id 0) ∷ []) ∷ [] ∷ [] ∷ [])
    ≡ found occurs.FieldRef 25 (codes "x") (bindings.Field (record { of = type_id 0; place = 0 })) Read
    ∷ found occurs.FieldRef 27 (codes "y") bindings.Nothing Write ∷ []
selected_before = simp outs

-- `length` of an array has no occurrence, as a target either, and is an int
abbrev array : Types
array = types.Array (elements.Primitive primitives.Int) 2 ∷ []

length_of_array : node_names C in_A (this_with (selectors.Field (id (codes "length") 25) ∷ [])) (array ∷ [] ∷ []) ≡ []
length_of_array = simp outs

its_type : node_types C in_A (this_with (selectors.Field (id (codes "length") 25) ∷ [])) (array ∷ [] ∷ []) ≡ int ∷ []
its_type = simp outs

-- one index takes one dimension
indexed : node_types C in_A (this_with (selectors.Index one ∷ selectors.Index one ∷ [])) (array ∷ (int ∷ []) ∷ (int ∷ []) ∷ []) ≡ int ∷ []
indexed = simp outs
