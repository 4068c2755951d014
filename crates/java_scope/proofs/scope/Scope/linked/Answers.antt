use Rattle.std.proofs.Common.{nat_eq}
use Rattle.indexmap.specs.IndexMap.{get}
use Rattle.java_scope.proofs.Linking.{entry_linked}
use Rattle.java_scope.proofs.scope.Scope.linked.Goals as goal

pub returns : goal.returns
returns c =
    entry_linked c.self.inside.entries c.as_slice.result.now (get nat_eq c.self.inside.last) c.args.self.now c.args.place c.index-as_slice-place.result
    c.self.view_is c.self.invariant c.as_slice.ensures c.requires c.index-as_slice-place.is
