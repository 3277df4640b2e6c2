-- `check_rows` meets its contract: its tests are those of `rows_refusal`, in the same order. Assumes nothing.
use borrow.Author.Tests.{lt-ltb, le-ltb}
use Rattle.bits.specs.Refusals.{or_else, first_refusal}
use Rattle.rows.specs.Answers.{rows_refusal}
use Rattle.rows.proofs.inner.check_rows.Goals as goal
use Rattle.rows.proofs.inner.check_rows.Goals.{then-strip-gt-LONGEST-via-then-strip-gt-LONGEST, then-strip-gt-LONGEST-via-else-strip-gt-LONGEST+then-len-gt-LONGEST}

pub returns-then-strip-gt-LONGEST : goal.returns-then-strip-gt-LONGEST
unfolding rows_refusal first_refusal or_else
returns-then-strip-gt-LONGEST c =
    elim c.then-strip-gt-LONGEST.branch [
      | then-strip-gt-LONGEST-via-then-strip-gt-LONGEST w ↦ rw (lt-ltb _ _ w.if-strip-gt-LONGEST.true)
      | then-strip-gt-LONGEST-via-else-strip-gt-LONGEST+then-len-gt-LONGEST w ↦ rw (le-ltb _ _ w.if-strip-gt-LONGEST.false, lt-ltb _ _ w.if-len-gt-LONGEST.true)
    ]

pub returns-then-len-strip : goal.returns-then-len-strip
unfolding rows_refusal first_refusal or_else
returns-then-len-strip c = rw (le-ltb _ _ c.if-strip-gt-LONGEST.false, le-ltb _ _ c.if-len-gt-LONGEST.false, lt-ltb _ _ c.if-len-strip.true)

pub returns : goal.returns
unfolding rows_refusal first_refusal or_else
returns c = rw (le-ltb _ _ c.if-strip-gt-LONGEST.false, le-ltb _ _ c.if-len-gt-LONGEST.false, le-ltb _ _ c.if-len-strip.false)
