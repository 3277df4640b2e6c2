-- `check_row` meets its contract: its tests are those of `row_refusal`, in the same order. Assumes nothing.
use borrow.Author.Tests.{lt-ltb, le-ltb}
use Rattle.bits.specs.Refusals.{or_else, first_refusal}
use Rattle.rows.specs.Answers.{row_refusal}
use Rattle.rows.proofs.inner.check_row.Goals as goal

pub returns-then-len-gt-LONGEST : goal.returns-then-len-gt-LONGEST
unfolding row_refusal first_refusal or_else
returns-then-len-gt-LONGEST c = rw (lt-ltb _ _ c.if-len-gt-LONGEST.true)

pub returns-then-not-fits : goal.returns-then-not-fits
unfolding row_refusal first_refusal or_else
returns-then-not-fits c = rw (le-ltb _ _ c.if-len-gt-LONGEST.false, ← c.fits.ensures, c.if-not-fits.true)

pub returns-then-len-lt-ROW_LENGTH : goal.returns-then-len-lt-ROW_LENGTH
unfolding row_refusal first_refusal or_else
returns-then-len-lt-ROW_LENGTH c = rw (le-ltb _ _ c.if-len-gt-LONGEST.false, ← c.fits.ensures, c.if-not-fits.false, lt-ltb _ _ c.if-len-lt-ROW_LENGTH.true)

pub returns : goal.returns
unfolding row_refusal first_refusal or_else
returns c = rw (le-ltb _ _ c.if-len-gt-LONGEST.false, ← c.fits.ensures, c.if-not-fits.false, le-ltb _ _ c.if-len-lt-ROW_LENGTH.false)
