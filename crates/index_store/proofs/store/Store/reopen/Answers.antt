use Rattle.index_store.proofs.Opened.{in_session}
use Rattle.index_store.proofs.store.Store.reopen.Goals as goal

pub returns-in-Ok-clause-opened : goal.returns-in-Ok-clause-opened
returns-in-Ok-clause-opened g c honest = in_session g.D.Disk.may_leave (g.D.Disk.seen c.args.disk) _ (c.in-Ok.ensures.opened honest)
