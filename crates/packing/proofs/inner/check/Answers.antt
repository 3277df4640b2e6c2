-- `check` meets its contract: the two tests are those of `state_refusal`. Assumes nothing.
use borrow.Author.Tests.{lt-ltb, le-ltb}
use Rattle.bits.specs.Refusals.{or_else, first_refusal}
use Rattle.packing.specs.Packing.{state_refusal}
use Rattle.packing.proofs.inner.check.Goals as goal

pub returns-then-len-gt-LONGEST : goal.returns-then-len-gt-LONGEST
unfolding state_refusal first_refusal or_else
returns-then-len-gt-LONGEST c = simp (lt-ltb _ _ c.if-len-gt-LONGEST.true)

pub returns-then-is_of : goal.returns-then-is_of
unfolding state_refusal first_refusal or_else
returns-then-is_of c = simp (le-ltb _ _ c.if-len-gt-LONGEST.false, ← c.is_of.ensures, c.if-is_of.true)

pub returns-else-is_of : goal.returns-else-is_of
unfolding state_refusal first_refusal or_else
returns-else-is_of c = simp (le-ltb _ _ c.if-len-gt-LONGEST.false, ← c.is_of.ensures, c.if-is_of.false)
