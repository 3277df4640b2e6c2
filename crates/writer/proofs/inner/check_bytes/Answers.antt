-- `check_bytes` meets its contract: it tests what `bytes_refusal` tests, in the same order. Assumes nothing.
use native.Mathlib.Omega.{arith}
use borrow.Author.Tests.{lt-ltb, le-ltb, ne_eqb}
use Rattle.bits.specs.Refusals.{or_else, first_refusal}
use Rattle.bits.proofs.RefusalLaws.{handed_on, number_ne}
use Rattle.packing.proofs.BelongsLaws.{refusal_belongs}
use Rattle.writer.specs.Writer.{bytes_refusal}
use Rattle.writer.proofs.AnswerLaws.{own_refusal}
use Rattle.writer.proofs.inner.check_bytes.Goals as goal

pub returns-then-n-gt-LONGEST : goal.returns-then-n-gt-LONGEST
unfolding bytes_refusal first_refusal or_else
returns-then-n-gt-LONGEST c = rw (lt-ltb _ _ c.if-n-gt-LONGEST.true)

pub returns-in_err-check : goal.returns-in_err-check
unfolding bytes_refusal first_refusal or_else
returns-in_err-check c =
    rw (
      handed_on _ _ c.from_residual.ensures.1,
      le-ltb _ _ c.if-n-gt-LONGEST.false,
      own_refusal _ c.state_in.ensures c.in_err-check.ensures,
      ne_eqb _ _ (number_ne c.in_err-check.field-0.0),
    )

pub check_room-requires : goal.check_room-requires
check_room-requires c = (refusal_belongs _ _ (own_refusal _ c.state_in.ensures c.in_ok-check.ensures), omega arith)

pub returns : goal.returns
unfolding bytes_refusal first_refusal or_else
returns c = rw (le-ltb _ _ c.if-n-gt-LONGEST.false, own_refusal _ c.state_in.ensures c.in_ok-check.ensures) c.check_room.ensures
