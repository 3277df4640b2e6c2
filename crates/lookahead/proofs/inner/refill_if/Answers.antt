-- `refill_if` meets its contract: without a refill the state stays, which is the one with its counts (`belongs_is`). Assumes nothing.
use Rattle.lookahead.proofs.StateLaws.{belongs_is}
use Rattle.lookahead.proofs.inner.refill_if.Goals as goal

pub returns-then-b : goal.returns-then-b
returns-then-b c = rw c.if-b.true c.refill.ensures

pub returns-else-b : goal.returns-else-b
returns-else-b c =
    rw c.if-b.false (belongs_is c.requires)
