use Rattle.java_laws.proofs.Order.{occurrences-stand-in-order}
use Rattle.java_laws.proofs.order_laws.occurrences_stand_in_order.Goals as goal

pub returns : goal.returns
returns c = occurrences-stand-in-order
