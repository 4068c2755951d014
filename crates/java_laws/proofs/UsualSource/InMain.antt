-- What the method `main` names.
use Rattle.std.proofs.Common.{List, [], ◌∷◌, refl, codes}
use Rattle.java_tree.specs.declared.names.Ident.{Ident}
use Rattle.java_tree.specs.declared.occurrence.Access.TheVariants.{Read}
use Rattle.java_tree.specs.declared.types.ArrayElement.TheVariants as elements
use Rattle.java_tree.specs.declared.types.JType.{JType}
use Rattle.java_tree.specs.declared.types.JType.TheVariants as types
use Rattle.java_model.specs.Names.Environments.{string, type_id}
use Rattle.java_model.specs.Scopes.Scoping.{Spot}
use Rattle.java_model.specs.Tree.Nodes.{Node}
use Rattle.java_model.specs.Tree.Nodes as nodes
use Rattle.java_laws.proofs.UsualSource.Source.{C, string_use, args, main_use, m, declaring_m, x, add, adding, size, println, printing, block, main, id, creation, new, plain, in_class, in_method, in_main}
use Rattle.java_laws.proofs.UsualSource.Steps.{outs, spot, Is, Walk, nothing, step, sole, silent, expression}
use Rattle.java_laws.proofs.UsualSource.Expected.{main_declared, string as string_type, main_type, main_again, new_main, items_read, add_called, system, out, println_called, items_read_again, size_called}

-- `String[] args`
abbrev strings : JType
strings = types.Array (elements.Class (type_id 2)) 1

abbrev string_node : Node
string_node = nodes.type_use string_use.element 1

string-is : Is C in_class string_node [] [] (strings ∷ []) (string_type ∷ [])
unfolding C string_type
string-is = record { within = refl; types = refl; names = refl }

args-is : Is C in_class (nodes.parameter args) (spot in_class string_node ∷ []) ((strings ∷ []) ∷ []) [] []
unfolding args
args-is = record { within = refl; types = refl; names = refl }

-- `Main m = new Main();`
abbrev main_class : JType
main_class = types.Class (type_id 0)

abbrev main_node : Node
main_node = nodes.type_use main_use.element 0

main-is : Is C in_method main_node [] [] (main_class ∷ []) (main_type ∷ [])
unfolding C main_type
main-is = record { within = refl; types = refl; names = refl }

abbrev class : Ident
class = id (codes "Main") 151

abbrev created : Node
created = nodes.creation (creation class)

created-is : Is C in_main created [] [] [] []
created-is = record { within = refl; types = refl; names = refl }

creating-is : Is C in_main (nodes.first Read (new class)) (spot in_main created ∷ []) ([] ∷ []) (main_class ∷ []) (main_again ∷ new_main ∷ [])
unfolding C main_again new_main
creating-is = record { within = simp outs; types = simp outs; names = simp outs }

m-is : Is C in_method (nodes.variable main_use m) (spot in_main (nodes.expression Read (plain (new class))) ∷ []) ((main_class ∷ []) ∷ []) [] []
unfolding C m
m-is = record { within = simp outs; types = refl; names = refl }

abbrev variable_parts : List Spot
variable_parts = spot in_method main_node ∷ spot in_method (nodes.variable main_use m) ∷ []

declaring-is : Is C in_method (nodes.locals declaring_m) variable_parts ((main_class ∷ []) ∷ [] ∷ []) [] []
unfolding C declaring_m m
declaring-is = record { within = refl; types = refl; names = refl }

in-declaring : Walk C (spot in_method (nodes.locals declaring_m) ∷ []) ([] ∷ []) (main_type ∷ main_again ∷ new_main ∷ [])
in-declaring =
    silent declaring-is (step m-is (sole main-is (nothing C)) (expression creating-is (silent created-is (nothing C))))

-- `m.items.add("x");`
abbrev x_type : JType
x_type = types.Class (string C.env)

x-is : Is C in_main (nodes.first Read x) [] [] (x_type ∷ []) []
unfolding x
x-is = record { within = simp outs; types = simp outs; names = simp outs }

add-is : Is C in_main (nodes.first Read add)
    (spot in_main (nodes.expression Read (plain x)) ∷ []) ((x_type ∷ []) ∷ []) (types.Unknown ∷ []) (items_read ∷ add_called ∷ [])
unfolding C add items_read add_called
add-is = record { within = simp outs; types = simp outs; names = simp outs }

adding-is : Is C in_main (nodes.statement adding) (spot in_main (nodes.expression Read (plain add)) ∷ []) ((types.Unknown ∷ []) ∷ []) [] []
unfolding adding
adding-is = record { within = simp outs; types = refl; names = refl }

-- `System.out.println(m.items.size());`
size-is : Is C in_main (nodes.first Read size) [] [] (types.Unknown ∷ []) (items_read_again ∷ size_called ∷ [])
unfolding C size items_read_again size_called
size-is = record { within = simp outs; types = simp outs; names = simp outs }

println-is : Is C in_main (nodes.first Read println)
    (spot in_main (nodes.expression Read (plain size)) ∷ []) ((types.Unknown ∷ []) ∷ []) (types.Unknown ∷ []) (system ∷ out ∷ println_called ∷ [])
unfolding C println system out println_called
println-is = record { within = simp outs; types = simp outs; names = simp outs }

printing-is : Is C in_main (nodes.statement printing) (spot in_main (nodes.expression Read (plain println)) ∷ []) ((types.Unknown ∷ []) ∷ []) [] []
unfolding printing
printing-is = record { within = simp outs; types = refl; names = refl }

-- the body, and the method
abbrev statements : List Spot
statements = spot in_method (nodes.locals declaring_m) ∷ spot in_main (nodes.statement adding) ∷ spot in_main (nodes.statement printing) ∷ []

block-is : Is C in_method (nodes.block block) statements ([] ∷ [] ∷ [] ∷ []) [] []
unfolding C block declaring_m m
block-is = record { within = simp outs; types = refl; names = refl }

abbrev pub method_parts : List Spot
method_parts = spot in_class (nodes.parameter args) ∷ spot in_method (nodes.block block) ∷ []

pub method-is : Is C in_class (nodes.member 0 main) method_parts ([] ∷ [] ∷ []) [] (main_declared ∷ [])
unfolding C main args main_declared
method-is = record { within = refl; types = refl; names = refl }

in-statements : Walk C statements ([] ∷ [] ∷ [] ∷ []) (main_type ∷ main_again ∷ new_main ∷ items_read ∷ add_called
    ∷ items_read_again ∷ size_called ∷ system ∷ out ∷ println_called ∷ [])
in-statements =
    step printing-is (step adding-is in-declaring
    (expression add-is (expression x-is (nothing C))))
    (expression println-is (expression size-is (nothing C)))

pub in-parts : Walk C method_parts ([] ∷ [] ∷ []) (string_type ∷ main_type ∷ main_again ∷ new_main ∷ items_read ∷ add_called
    ∷ items_read_again ∷ size_called ∷ system ∷ out ∷ println_called ∷ [])
in-parts = step block-is (silent args-is (sole string-is (nothing C))) in-statements
