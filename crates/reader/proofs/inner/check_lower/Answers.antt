-- `check_lower` meets its contract: its tests are those of `lower_refusal`, in the same order. Assumes nothing.
use mathlib.Core.Path.{sym}
use borrow.Author.Tests.{lt-ltb, le-ltb}
use Rattle.bits.specs.Refusals.{or_else, first_refusal}
use Rattle.bits.proofs.RefusalLaws.{first_handed}
use Rattle.reader.proofs.CursorLaws.{refusal_own}
use Rattle.reader.specs.Answers.{lower_refusal}
use Rattle.reader.proofs.inner.check_lower.Goals as goal

pub returns-in_err-check : goal.returns-in_err-check
unfolding lower_refusal
returns-in_err-check c = first_handed _ _ _ _ _ c.from_residual.ensures.1 c.in_err-check.ensures

pub returns-then-c-end : goal.returns-then-c-end
unfolding lower_refusal first_refusal or_else
returns-then-c-end c = rw (← c.in_ok-check.ensures, lt-ltb _ _ c.if-c-end.true)

pub place_of-requires : goal.place_of-requires
place_of-requires c = (refusal_own (sym c.in_ok-check.ensures)).fits

pub returns-then-end-place_of : goal.returns-then-end-place_of
unfolding lower_refusal first_refusal or_else
returns-then-end-place_of c =
    rw (← c.in_ok-check.ensures, le-ltb _ _ c.if-c-end.false, ← c.place_of.ensures, lt-ltb _ _ c.if-end-place_of.true)

pub returns : goal.returns
unfolding lower_refusal first_refusal or_else
returns c =
    rw (← c.in_ok-check.ensures, le-ltb _ _ c.if-c-end.false, ← c.place_of.ensures, le-ltb _ _ c.if-end-place_of.false)
