-- `check_list` meets its contract: its tests are those of `list_refusal`, in the same order. Assumes nothing.
use borrow.Author.Tests.{lt-ltb, le-ltb}
use Rattle.bits.specs.Refusals.{or_else, first_refusal}
use Rattle.strip.specs.Answers.{list_refusal}
use Rattle.strip.proofs.inner.check_list.Goals as goal

pub returns-then-src-gt-LONGEST : goal.returns-then-src-gt-LONGEST
unfolding list_refusal first_refusal or_else
returns-then-src-gt-LONGEST c = rw (lt-ltb _ _ c.if-src-gt-LONGEST.true)

pub returns-then-room-src : goal.returns-then-room-src
unfolding list_refusal first_refusal or_else
returns-then-room-src c = rw (le-ltb _ _ c.if-src-gt-LONGEST.false, lt-ltb _ _ c.if-room-src.true)

pub returns : goal.returns
unfolding list_refusal first_refusal or_else
returns c = rw (le-ltb _ _ c.if-src-gt-LONGEST.false, le-ltb _ _ c.if-room-src.false)
