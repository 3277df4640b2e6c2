-- `by_order` meets its contract: each arm is a case of `by_order`. Assumes nothing.
use Rattle.octets.specs.Octets.{by_order}
use Rattle.octets.proofs.inner.by_order.Goals as goal

pub returns-in-Little : goal.returns-in-Little
unfolding by_order
returns-in-Little c = rw c.in-Little.is

pub returns-in-Big : goal.returns-in-Big
unfolding by_order
returns-in-Big c = rw c.in-Big.is
