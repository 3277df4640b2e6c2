-- `unbuffered_bytes_remaining` meets its contract: a cursor that is not refused tells what is not yet fetched before its end. Assumes nothing.
use mathlib.Core.Path.{refl}
use Rattle.bits.specs.Refusals.{told_by}
use Rattle.bits.proofs.RefusalLaws.{handed_on, number_ne, answer_refused, answer_done}
use Rattle.reader.specs.Answers.{counted_of}
use Rattle.reader.proofs.Cursor.unbuffered_bytes_remaining.Goals as goal

pub returns-in_err-check : goal.returns-in_err-check
unfolding counted_of
returns-in_err-check c =
    rw (handed_on _ _ c.from_residual.ensures.1) (answer_refused c.in_err-check.ensures told_by _ _ (number_ne _))

pub returns : goal.returns
unfolding counted_of
returns c = answer_done c.in_ok-check.ensures told_by _ _ refl c.unfetched.ensures
