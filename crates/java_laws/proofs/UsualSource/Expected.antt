-- What the source names, in the order in which it stands there.
use Rattle.std.proofs.Common.{ℕ, ◌+◌, List, [], ◌∷◌, length, codes}
use Rattle.java_tree.specs.declared.occurrence.Access.TheVariants.{NoAccess, Read}
use Rattle.java_tree.specs.declared.occurrence.Binding.{Binding}
use Rattle.java_tree.specs.declared.occurrence.Binding.TheVariants as bindings
use Rattle.java_tree.specs.declared.occurrence.OccKind.{OccKind}
use Rattle.java_tree.specs.declared.occurrence.OccKind.TheVariants as occurs
use Rattle.java_tree.specs.declared.occurrence.Occurrence.{Occurrence}
use Rattle.java_tree.specs.declared.token.Span.{Span}
use Rattle.java_model.specs.Names.Environments.{type_id}
use Rattle.java_model.specs.Occurrences.References.{occurrence}

abbrev from : ℕ → List ℕ → Span
from start name = record { start = start; end = start + length name }

abbrev bound : OccKind → ℕ → List ℕ → Binding → Occurrence
bound kind start name binding = occurrence kind (from start name) name 0 binding NoAccess

-- a type that isn't in the environment
abbrev absent : ℕ → List ℕ → Occurrence
absent start name = bound occurs.TypeRef start name bindings.Nothing

-- a call that is bound to nothing
abbrev called : ℕ → List ℕ → ℕ → Occurrence
called start name count = occurrence occurs.MethodRef (from start name) name count bindings.Nothing NoAccess

-- an identifier that means nothing
abbrev unknown : ℕ → List ℕ → Occurrence
unknown start name = occurrence occurs.NameRef (from start name) name 0 bindings.Nothing Read

abbrev of_main : Binding
of_main = bindings.Class (type_id 0)

abbrev of_items : Binding
of_items = bindings.Field (record { of = type_id 0; place = 0 })

abbrev read_of_items : ℕ → Occurrence
read_of_items start = occurrence occurs.FieldRef (from start (codes "items")) (codes "items") 0 of_items Read

unfoldable pub package_p : Occurrence
package_p = bound occurs.PackageDecl 8 (codes "p") (bindings.Package (codes "p"))

-- the package `java` is known, `java.util` isn't
unfoldable pub util : Occurrence
util = unknown 23 (codes "util")

unfoldable pub class_main : Occurrence
class_main = bound occurs.TypeDecl 44 (codes "Main") of_main

unfoldable pub list : Occurrence
list = absent 61 (codes "List")

unfoldable pub items_declared : Occurrence
items_declared = bound occurs.FieldDecl 66 (codes "items") of_items

unfoldable pub array_list : Occurrence
array_list = absent 78 (codes "ArrayList")

unfoldable pub new_array_list : Occurrence
new_array_list = bound occurs.CtorRef 78 (codes "ArrayList") bindings.Nothing

unfoldable pub main_declared : Occurrence
main_declared = bound occurs.MethodDecl 112 (codes "main") (bindings.Method (record { of = type_id 0; place = 0 }))

-- `java.lang.String` stands after the class and `java.lang.Object`
unfoldable pub string : Occurrence
string = bound occurs.TypeRef 117 (codes "String") (bindings.Class (type_id 2))

unfoldable pub main_type : Occurrence
main_type = bound occurs.TypeRef 138 (codes "Main") of_main

unfoldable pub main_again : Occurrence
main_again = bound occurs.TypeRef 151 (codes "Main") of_main

-- the default constructor has its place after the one method
unfoldable pub new_main : Occurrence
new_main = bound occurs.CtorRef 151 (codes "Main") (bindings.Method (record { of = type_id 0; place = 1 }))

unfoldable pub items_read : Occurrence
items_read = read_of_items 165

unfoldable pub add_called : Occurrence
add_called = called 171 (codes "add") 1

unfoldable pub system : Occurrence
system = unknown 185 (codes "System")

unfoldable pub out : Occurrence
out = unknown 192 (codes "out")

unfoldable pub println_called : Occurrence
println_called = called 196 (codes "println") 1

unfoldable pub items_read_again : Occurrence
items_read_again = read_of_items 206

unfoldable pub size_called : Occurrence
size_called = called 212 (codes "size") 0

-- in the order of start, end and kind
abbrev pub expected : List Occurrence
expected =
    package_p ∷ util ∷ class_main
    ∷ list ∷ items_declared ∷ array_list ∷ new_array_list
    ∷ main_declared ∷ string ∷ main_type ∷ main_again ∷ new_main
    ∷ items_read ∷ add_called
    ∷ system ∷ out ∷ println_called ∷ items_read_again ∷ size_called
    ∷ []

-- `unfolding them` opens each
unfoldable pub in_declarations : Unit {0}
unfolding package_p util class_main list items_declared array_list new_array_list main_declared string
in_declarations = tt

unfoldable pub them : Unit {0}
unfolding in_declarations main_type main_again new_main items_read add_called system out println_called items_read_again size_called
them = tt
