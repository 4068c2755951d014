use Rattle.java_model.specs.Scopes.Contexts.{numbered_id}
use Rattle.java_scope.specs.Units.{context}
use Rattle.java_scope.proofs.Creating.{held_header, no_header}
use Rattle.java_scope.proofs.type_in_node.header_type.Goals as goal

pub returns-in-Some : goal.returns-in-Some
returns-in-Some c =
    held_header c.args.unit.now.env.now (numbered_id (context c.args.unit.now) c.args.number) c.in_ok-id.id c.in-Some.t c.args.name.now c.resolve_in_header.result
    c.in_ok-id.ensures c.in-Some.ensures c.resolve_in_header.ensures

pub returns-in_ok-words-in-None : goal.returns-in_ok-words-in-None
returns-in_ok-words-in-None c =
    no_header c.args.unit.now.env.now (numbered_id (context c.args.unit.now) c.args.number) c.in_ok-id.id c.args.name.now c.in_ok-words-in-None.words
    c.in_ok-id.ensures c.in-None.ensures c.in_ok-words-in-None.ensures
