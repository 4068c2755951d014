-- What calls are bound to.
use Rattle.std.proofs.Common.{◌≡◌, ℕ, ◌+◌, List, [], ◌∷◌, Some, None, codes}
use Rattle.java_tree.specs.declared.bound.Bound.{Bound}
use Rattle.java_tree.specs.declared.bound.Bound.TheVariants as bounds
use Rattle.java_tree.specs.declared.expr.Expr.{Expr}
use Rattle.java_tree.specs.declared.expr.First.TheVariants as firsts
use Rattle.java_tree.specs.declared.names.ElementType.TheVariants as elements
use Rattle.java_tree.specs.declared.names.Literal.TheVariants as literals
use Rattle.java_tree.specs.declared.names.Primitive.TheVariants as primitives
use Rattle.java_tree.specs.declared.names.TypeUse.{TypeUse}
use Rattle.java_tree.specs.declared.occurrence.Access.TheVariants.{NoAccess}
use Rattle.java_tree.specs.declared.occurrence.Binding.{Binding}
use Rattle.java_tree.specs.declared.occurrence.Binding.TheVariants as bindings
use Rattle.java_tree.specs.declared.occurrence.OccKind.TheVariants as occurs
use Rattle.java_tree.specs.declared.occurrence.Occurrence.{Occurrence}
use Rattle.java_tree.specs.declared.types.JType.TheVariants as types
use Rattle.java_tree.specs.declared.unit.Unit.{Unit as CompilationUnit}
use Rattle.java_model.specs.Names.Environments.{type_id}
use Rattle.java_model.specs.Bindings.Values.{node_types}
use Rattle.java_model.specs.Bindings.Arithmetic.{int}
use Rattle.java_model.specs.Occurrences.References.{occurrence}
use Rattle.java_model.specs.Occurrences.Occurrences.{node_names}
use Rattle.java_model.proofs.PlaceExamples.Kit.{id, named_use, primary, param, method, top_class, unit_of, alone, call}
use Rattle.java_model.proofs.PlaceExamples.Outs.{outs, out-first-Call}

abbrev called : ℕ → List ℕ → ℕ → Binding → List Occurrence
called at n count binding = occurrence occurs.MethodRef (record { start = at; end = at + 1 }) n count binding NoAccess ∷ []

abbrev method_id : ℕ → ℕ → Binding
method_id of place = bindings.Method (record { of = type_id of; place = place })

abbrev of_null : Expr
of_null = primary (firsts.Literal literals.Null) []

abbrev of_one : Expr
of_one = primary (firsts.Literal (literals.Int (codes "1"))) []

-- `class A{void f(long a){}void f(Object a){}void f(String a){}void g(){f(null);f(1);}}`
abbrev long_use : TypeUse
long_use = record { element = elements.Primitive primitives.Long; dims = 0 }

abbrev overloaded : CompilationUnit
overloaded = unit_of None [] (
    top_class (id (codes "A") 6) None 7 (
    method (id (codes "f") 13) (param long_use (id (codes "a") 20) ∷ []) []
    ∷ method (id (codes "f") 29) (param (named_use (id (codes "Object") 31)) (id (codes "a") 38) ∷ []) []
    ∷ method (id (codes "f") 47) (param (named_use (id (codes "String") 49)) (id (codes "a") 56) ∷ []) []
    ∷ [])
    ∷ [])

abbrev in_A : List Bound
in_A = bounds.Members (type_id 0) ∷ []

f_of_null : node_names (alone overloaded) in_A (call (id (codes "f") 69 ∷ []) (of_null ∷ [])) ((types.Null ∷ []) ∷ [])
    ≡ called 69 (codes "f") 1 (method_id 0 2)
f_of_null = simp outs

f_of_one : node_names (alone overloaded) in_A (call (id (codes "f") 77 ∷ []) (of_one ∷ [])) ((int ∷ []) ∷ [])
    ≡ called 77 (codes "f") 1 (method_id 0 0)
f_of_one = simp outs

-- with a `void f(A a){}` more the call of `f(null)` is ambiguous, and so bound to nothing
abbrev ambiguous : CompilationUnit
ambiguous = unit_of None [] (
    top_class (id (codes "A") 6) None 7 (
    method (id (codes "f") 13) (param (named_use (id (codes "Object") 15)) (id (codes "a") 22) ∷ []) []
    ∷ method (id (codes "f") 31) (param (named_use (id (codes "String") 33)) (id (codes "a") 40) ∷ []) []
    ∷ method (id (codes "f") 49) (param (named_use (id (codes "A") 51)) (id (codes "a") 53) ∷ []) []
    ∷ [])
    ∷ [])

f_of_null_is_ambiguous : node_names (alone ambiguous) in_A (call (id (codes "f") 82 ∷ []) (of_null ∷ [])) ((types.Null ∷ []) ∷ [])
    ≡ called 82 (codes "f") 1 bindings.Nothing
f_of_null_is_ambiguous = rw out-first-Call

-- its type isn't known
ambiguous_call_has_no_type : node_types (alone ambiguous) in_A (call (id (codes "f") 82 ∷ []) (of_null ∷ [])) ((types.Null ∷ []) ∷ [])
    ≡ types.Unknown ∷ []
ambiguous_call_has_no_type = rw out-first-Call

-- `class A{void f(){}}class B extends A{void f(){}void g(B b){b.f();}}`
abbrev overriding : CompilationUnit
overriding = unit_of None [] (
    top_class (id (codes "A") 6) None 7 (method (id (codes "f") 13) [] [] ∷ [])
    ∷ top_class (id (codes "B") 25) (Some (id (codes "A") 35 ∷ [])) 36 (method (id (codes "f") 42) [] [] ∷ [])
    ∷ [])

f_of_b : node_names (alone overriding) (bounds.Members (type_id 1) ∷ bounds.Variable (codes "b") (types.Class (type_id 1)) ∷ [])
    (call (id (codes "b") 59 ∷ id (codes "f") 61 ∷ []) []) []
    ≡ called 61 (codes "f") 0 (method_id 1 0)
f_of_b = simp outs
