-- `next_open` meets its contract: `ends` decides. Assumes nothing.
use Rattle.plan.proofs.inner.next_open.Goals as goal

pub returns-then-ends : goal.returns-then-ends
returns-then-ends c = rw (← c.ends.ensures, c.if-ends.true)

pub returns-else-ends : goal.returns-else-ends
returns-else-ends c = rw (← c.ends.ensures, c.if-ends.false)
