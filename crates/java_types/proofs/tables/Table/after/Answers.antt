use Rattle.std.proofs.Common.{nat_eq}
use Rattle.indexmap.specs.IndexMap.{get}
use Rattle.java_types.proofs.Linking.{next_seen}
use Rattle.java_types.proofs.tables.Table.after.Goals as goal

pub returns : goal.returns
returns c =
    next_seen c.self.inside.keys c.args.self.now c.args.key c.args.number c.len.result (get nat_eq c.self.inside.first) c.self.inside.next c.as_slice.result.now
    c.self.view_is c.self.invariant c.requires c.as_slice.ensures c.len.ensures
