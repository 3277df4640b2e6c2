-- `passed_over` meets its contract: its branch is the definition's. Assumes nothing.
use borrow.Author.Tests.{eq-eqb, ne_eqb}
use Rattle.counts.specs.Counts.{passed_over}
use Rattle.counts.proofs.inner.passed_over.Goals as goal

pub returns-then-partial-eq0 : goal.returns-then-partial-eq0
unfolding passed_over
returns-then-partial-eq0 c = rw (eq-eqb _ _ c.if-partial-eq0.true)

pub returns : goal.returns
unfolding passed_over
returns c = rw (ne_eqb _ _ c.if-partial-eq0.false)
