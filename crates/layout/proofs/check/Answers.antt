-- `check` meets its contract: it tests the length, and then whether the bytes are a plan. Assumes nothing.
use borrow.Author.Tests.{lt-ltb, le-ltb}
use Rattle.bits.specs.Refusals.{longest, or_else, first_refusal}
use Rattle.layout.specs.Answers.{check_of}
use Rattle.layout.proofs.check.Goals as goal

pub returns-then-plan-gt-LONGEST : goal.returns-then-plan-gt-LONGEST
unfolding check_of first_refusal or_else
returns-then-plan-gt-LONGEST c = rw (lt-ltb longest _ c.if-plan-gt-LONGEST.true)

pub returns-then-is_plan : goal.returns-then-is_plan
unfolding check_of first_refusal or_else
returns-then-is_plan c = rw (le-ltb longest _ c.if-plan-gt-LONGEST.false, ← c.is_plan.ensures, c.if-is_plan.true)

pub returns-else-is_plan : goal.returns-else-is_plan
unfolding check_of first_refusal or_else
returns-else-is_plan c = rw (le-ltb longest _ c.if-plan-gt-LONGEST.false, ← c.is_plan.ensures, c.if-is_plan.false)
