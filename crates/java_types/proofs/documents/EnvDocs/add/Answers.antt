use Rattle.java_types.specs.Documents.{path_of}
use Rattle.java_types.proofs.Paths.{order_pushed}
use Rattle.java_types.proofs.documents.EnvDocs.add.Goals as goal

pub invariant_of-self-2 : goal.invariant_of-self-2
invariant_of-self-2 c =
    order_pushed c.args.self.now c.self.inside.documents c.push.new.self _ (path_of c.args.name.now) c.self.view_is c.self.invariant c.in_ok-push.ensures.ok c.in_ok-path.ensures c.requires
