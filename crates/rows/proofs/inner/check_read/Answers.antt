-- `check_read` meets its contract: its tests are those of `read_refusal`, in the same order. Assumes nothing.
use borrow.Author.Tests.{lt-ltb, le-ltb}
use Rattle.bits.specs.Refusals.{or_else, first_refusal}
use Rattle.rows.specs.Answers.{read_refusal}
use Rattle.rows.proofs.inner.check_read.Goals as goal

pub returns-then-src-gt-LONGEST : goal.returns-then-src-gt-LONGEST
unfolding read_refusal first_refusal or_else
returns-then-src-gt-LONGEST c = rw (lt-ltb _ _ c.if-src-gt-LONGEST.true)

pub returns-then-src-lt-ROW_LENGTH : goal.returns-then-src-lt-ROW_LENGTH
unfolding read_refusal first_refusal or_else
returns-then-src-lt-ROW_LENGTH c = rw (le-ltb _ _ c.if-src-gt-LONGEST.false, lt-ltb _ _ c.if-src-lt-ROW_LENGTH.true)

pub returns-then-not-row_good : goal.returns-then-not-row_good
unfolding read_refusal first_refusal or_else
returns-then-not-row_good c = rw (le-ltb _ _ c.if-src-gt-LONGEST.false, le-ltb _ _ c.if-src-lt-ROW_LENGTH.false, ← c.row_good.ensures, c.if-not-row_good.true)

pub returns : goal.returns
unfolding read_refusal first_refusal or_else
returns c = rw (le-ltb _ _ c.if-src-gt-LONGEST.false, le-ltb _ _ c.if-src-lt-ROW_LENGTH.false, ← c.row_good.ensures, c.if-not-row_good.false)
