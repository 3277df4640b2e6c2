-- `check` meets its contract: its two tests are those of `state_refusal`. Assumes nothing.
use borrow.Author.Tests.{lt-ltb, le-ltb}
use Rattle.bits.specs.Refusals.{or_else, first_refusal}
use Rattle.lookahead.specs.State.{state_refusal}
use Rattle.lookahead.proofs.inner.check.Goals as goal

pub returns-then-src-gt-LONGEST : goal.returns-then-src-gt-LONGEST
unfolding state_refusal first_refusal or_else
returns-then-src-gt-LONGEST c = simp (lt-ltb _ _ c.if-src-gt-LONGEST.true)

pub returns-then-is_of : goal.returns-then-is_of
unfolding state_refusal first_refusal or_else
returns-then-is_of c = simp (le-ltb _ _ c.if-src-gt-LONGEST.false, ← c.is_of.ensures, c.if-is_of.true)

pub returns-else-is_of : goal.returns-else-is_of
unfolding state_refusal first_refusal or_else
returns-else-is_of c = simp (le-ltb _ _ c.if-src-gt-LONGEST.false, ← c.is_of.ensures, c.if-is_of.false)
