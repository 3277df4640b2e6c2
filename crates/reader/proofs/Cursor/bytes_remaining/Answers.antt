-- `bytes_remaining` meets its contract: a cursor that is not refused belongs, and its counts give the bytes left. Assumes nothing.
use mathlib.Core.Path.{refl, sym}
use Rattle.bits.specs.Refusals.{told_by}
use Rattle.bits.proofs.RefusalLaws.{handed_on, number_ne, answer_refused, answer_done}
use Rattle.reader.proofs.CursorLaws.{refusal_own}
use Rattle.reader.specs.Answers.{counted_of}
use Rattle.reader.proofs.Cursor.bytes_remaining.Goals as goal

pub returns-in_err-check : goal.returns-in_err-check
unfolding counted_of
returns-in_err-check c =
    rw (handed_on _ _ c.from_residual.ensures.1) (answer_refused c.in_err-check.ensures told_by _ _ (number_ne _))

pub bytes_left-requires : goal.bytes_left-requires
bytes_left-requires c = (refusal_own (sym c.in_ok-check.ensures)).fits

pub returns : goal.returns
unfolding counted_of
returns c = answer_done c.in_ok-check.ensures told_by _ _ refl c.bytes_left.ensures
