-- `check_read` meets its contract: its tests are those of `read_refusal`, in the same order. Assumes nothing.
use mathlib.Core.Path.{sym}
use borrow.Author.Tests.{lt-ltb, le-ltb}
use Rattle.bits.specs.Refusals.{or_else, first_refusal}
use Rattle.bits.proofs.RefusalLaws.{first_handed}
use Rattle.reader.proofs.CursorLaws.{refusal_own}
use Rattle.reader.specs.Answers.{read_refusal}
use Rattle.reader.proofs.inner.check_read.Goals as goal

pub returns-in_err-check : goal.returns-in_err-check
unfolding read_refusal
returns-in_err-check c = first_handed _ _ _ _ _ c.from_residual.ensures.1 c.in_err-check.ensures

pub returns-then-bits-gt64 : goal.returns-then-bits-gt64
unfolding read_refusal first_refusal or_else
returns-then-bits-gt64 c = rw (← c.in_ok-check.ensures, lt-ltb _ _ c.if-bits-gt64.true)

pub bits_left-requires : goal.bits_left-requires
bits_left-requires c = (refusal_own (sym c.in_ok-check.ensures)).fits

pub returns-then-bits_left-bits : goal.returns-then-bits_left-bits
unfolding read_refusal first_refusal or_else
returns-then-bits_left-bits c =
    rw (← c.in_ok-check.ensures, le-ltb _ _ c.if-bits-gt64.false, ← c.bits_left.ensures, lt-ltb _ _ c.if-bits_left-bits.true)

pub returns : goal.returns
unfolding read_refusal first_refusal or_else
returns c =
    rw (← c.in_ok-check.ensures, le-ltb _ _ c.if-bits-gt64.false, ← c.bits_left.ensures, le-ltb _ _ c.if-bits_left-bits.false)
