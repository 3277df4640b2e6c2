-- `check_manual` meets its contract: its tests are those of `manual_refusal`, in the same order. Assumes nothing.
use mathlib.Core.Path.{sym}
use borrow.Author.Tests.{lt-ltb, le-ltb}
use Rattle.bits.specs.Refusals.{or_else, first_refusal}
use Rattle.bits.proofs.RefusalLaws.{first_handed}
use Rattle.reader.proofs.CursorLaws.{refusal_own}
use Rattle.reader.specs.Answers.{manual_refusal}
use Rattle.reader.proofs.inner.check_manual.Goals as goal

pub returns-in_err-check : goal.returns-in_err-check
unfolding manual_refusal
returns-in_err-check c = first_handed _ _ _ _ _ c.from_residual.ensures.1 c.in_err-check.ensures

pub ahead-requires : goal.ahead-requires
ahead-requires c = (refusal_own (sym c.in_ok-check.ensures)).fits

pub returns-then-ahead-count : goal.returns-then-ahead-count
unfolding manual_refusal first_refusal or_else
returns-then-ahead-count c =
    rw (← c.in_ok-check.ensures, ← c.ahead.ensures, lt-ltb _ _ c.if-ahead-count.true)

pub returns : goal.returns
unfolding manual_refusal first_refusal or_else
returns c =
    rw (← c.in_ok-check.ensures, ← c.ahead.ensures, le-ltb _ _ c.if-ahead-count.false)
