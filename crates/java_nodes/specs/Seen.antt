-- The nodes of a unit's tree, as the code holds them.
use Rattle.std.specs.Prelude.{ℕ}
use Rattle.java_tree.specs.declared.names.ElementType.TheVariants as elements
use Rattle.java_tree.specs.declared.unit.TypeDecl.{TypeDecl}
use Rattle.java_model.specs.Tree.Nodes as tree
use Rattle.java_model.specs.Tree.Children.{Numbered}
use Rattle.java_nodes.specs.declared.node.Node.{Node}
use Rattle.java_nodes.specs.declared.node.Node.TheVariants as nodes
use Rattle.java_nodes.specs.declared.numbered_type.NumberedType.{NumberedType}

abbrev pub seen : Node → tree.Node
seen (nodes.Unit r) = tree.unit r.unit.now
seen (nodes.PackageClause n) = tree.package_clause n.now
seen (nodes.Imported i) = tree.imported i.now
seen (nodes.Declaration brace) = tree.declaration brace
seen (nodes.Supertype number n) = tree.supertype number n.now
seen (nodes.Body brace) = tree.body brace
seen (nodes.Member number m) = tree.member number m.now
seen (nodes.Field number v) = tree.field number v.now
seen (nodes.Variable t v) = tree.variable t.now v.now
seen (nodes.Parameter p) = tree.parameter p.now
seen (nodes.TypeUse e dims) = tree.type_use e.now dims
seen (nodes.TypeName n) = tree.type_use (elements.Named n.now) 0
seen (nodes.Explicit number e) = tree.explicit number e.now
seen (nodes.Block b) = tree.block b.now
seen (nodes.Statement s) = tree.statement s.now
seen (nodes.Locals l) = tree.locals l.now
seen (nodes.Arm a) = tree.arm a.now
seen (nodes.Group g) = tree.group g.now
seen (nodes.CatchClause c) = tree.catch_clause c.now
seen (nodes.Expression how x) = tree.expression how x.now
seen (nodes.Primary how p) = tree.primary how p.now
seen (nodes.First how f) = tree.first how f.now
seen (nodes.Selector s) = tree.selector s.now
seen (nodes.Creation c) = tree.creation c.now
seen (nodes.Array a) = tree.array a.now

abbrev pub of_number : ℕ → TypeDecl → Numbered
of_number number declared = record { number = number; type = declared }

abbrev pub seen_type : NumberedType → Numbered
seen_type t = of_number t.number t.declared.now
