-- `order_of` meets its contract: the test for 0 is the definition's. Assumes nothing.
use borrow.Author.Tests.{eq-eqb, ne_eqb}
use Rattle.host.specs.Host.{order_of}
use Rattle.host.proofs.order_of.Goals as goal

pub returns-then-order-eq0 : goal.returns-then-order-eq0
unfolding order_of
returns-then-order-eq0 c = rw (eq-eqb c.args.order 0 c.if-order-eq0.true)

pub returns-else-order-eq0 : goal.returns-else-order-eq0
unfolding order_of
returns-else-order-eq0 c = rw (ne_eqb c.args.order 0 c.if-order-eq0.false)
