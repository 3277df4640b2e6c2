-- `limit_of` meets its contract, by its test. Assumes nothing.
use borrow.Author.Tests.{eq-eqb, ne_eqb}
use Rattle.rows.proofs.inner.limit_of.Goals as goal

pub returns-then-letter-eq-LETTER_T : goal.returns-then-letter-eq-LETTER_T
returns-then-letter-eq-LETTER_T c = rw (eq-eqb _ _ c.if-letter-eq-LETTER_T.true)

pub returns-else-letter-eq-LETTER_T : goal.returns-else-letter-eq-LETTER_T
returns-else-letter-eq-LETTER_T c = rw (ne_eqb _ _ c.if-letter-eq-LETTER_T.false)
