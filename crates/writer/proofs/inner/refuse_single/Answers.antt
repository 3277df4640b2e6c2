-- `refuse_single` meets its contract: it tests what `single_refusal` tests, in the same order. Assumes nothing.
use native.Mathlib.Omega.{arith}
use borrow.Author.Tests.{ne_eqb}
use Rattle.bits.specs.Refusals.{or_else, first_refusal}
use Rattle.bits.proofs.RefusalLaws.{handed_on, number_ne}
use Rattle.packing.proofs.BelongsLaws.{refusal_belongs}
use Rattle.writer.specs.Writer.{single_refusal}
use Rattle.writer.specs.Answers.{retired_of}
use Rattle.writer.proofs.AnswerLaws.{own_refusal}
use Rattle.writer.proofs.inner.refuse_single.Goals as goal

pub returns-in_err-check : goal.returns-in_err-check
unfolding retired_of single_refusal first_refusal or_else
returns-in_err-check c =
    rw (
      handed_on _ _ c.from_residual.ensures.1,
      own_refusal _ c.state_in.ensures c.in_err-check.ensures,
      ne_eqb _ _ (number_ne c.in_err-check.field-0.0),
    )

pub check_room-requires : goal.check_room-requires
check_room-requires c = (refusal_belongs _ _ (own_refusal _ c.state_in.ensures c.in_ok-check.ensures), omega arith)

pub returns-in_err-check_room : goal.returns-in_err-check_room
unfolding retired_of single_refusal first_refusal or_else
returns-in_err-check_room c =
    rw (
      handed_on _ _ c.from_residual-in_err-check_room.ensures.1,
      own_refusal _ c.state_in.ensures c.in_ok-check.ensures,
      ← c.in_err-check_room.ensures,
      ne_eqb _ _ (number_ne c.in_err-check_room.field-0.0),
    )

pub returns : goal.returns
unfolding retired_of single_refusal first_refusal or_else
returns c = rw (own_refusal _ c.state_in.ensures c.in_ok-check.ensures, ← c.in_ok-check_room.ensures)
