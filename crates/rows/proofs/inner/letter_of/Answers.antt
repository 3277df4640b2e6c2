-- `letter_of` meets its contract, by its test. Assumes nothing.
use borrow.Author.Tests.{eq-eqb, ne_eqb}
use Rattle.rows.specs.Row.{letter}
use Rattle.rows.proofs.inner.letter_of.Goals as goal

pub returns-then-limit-eq1 : goal.returns-then-limit-eq1
unfolding letter
returns-then-limit-eq1 c = rw (eq-eqb _ _ c.if-limit-eq1.true)

pub returns-else-limit-eq1 : goal.returns-else-limit-eq1
unfolding letter
returns-else-limit-eq1 c = rw (ne_eqb _ _ c.if-limit-eq1.false)
