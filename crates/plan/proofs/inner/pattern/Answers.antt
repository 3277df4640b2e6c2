-- `pattern` meets its contract: the kind decides whether the sign is widened. Assumes nothing.
use borrow.Author.Tests.{eq-eqb, ne_eqb}
use Rattle.plan.specs.Run.{pattern_of}
use Rattle.plan.proofs.inner.pattern.Goals as goal

pub returns-then-kind-eq1 : goal.returns-then-kind-eq1
unfolding pattern_of
returns-then-kind-eq1 c = rw (eq-eqb _ 1 c.if-kind-eq1.true) c.widened.ensures

pub returns-else-kind-eq1 : goal.returns-else-kind-eq1
unfolding pattern_of
returns-else-kind-eq1 c = rw (ne_eqb _ 1 c.if-kind-eq1.false)
