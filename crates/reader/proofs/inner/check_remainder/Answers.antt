-- `check_remainder` meets its contract: its tests are those of `remainder_refusal`, in the same order. Assumes nothing.
use borrow.Author.Tests.{eq-eqb, ne_eqb}
use Rattle.bits.specs.Refusals.{or_else, first_refusal}
use Rattle.bits.proofs.RefusalLaws.{first_handed}
use Rattle.reader.specs.Answers.{remainder_refusal}
use Rattle.reader.proofs.inner.check_remainder.Goals as goal

pub returns-in_err-check : goal.returns-in_err-check
unfolding remainder_refusal
returns-in_err-check c = first_handed _ _ _ _ _ c.from_residual.ensures.1 c.in_err-check.ensures

pub returns-then-c-ne0 : goal.returns-then-c-ne0
unfolding remainder_refusal first_refusal or_else
returns-then-c-ne0 c = rw (← c.in_ok-check.ensures, ne_eqb _ _ c.if-c-ne0.true)

pub returns : goal.returns
unfolding remainder_refusal first_refusal or_else
returns c = rw (← c.in_ok-check.ensures, eq-eqb _ _ c.if-c-ne0.false)
