-- `lower_end` meets its contract: an end that is not refused replaces the cursor's. Assumes nothing.
use mathlib.Core.Path.{refl}
use Rattle.bits.proofs.RefusalLaws.{handed_on, number_ne, answer_refused, answer_done}
use Rattle.reader.specs.Answers.{lower_of, moved}
use Rattle.reader.proofs.Cursor.lower_end.Goals as goal

pub returns-in_err-check_lower : goal.returns-in_err-check_lower
unfolding lower_of
returns-in_err-check_lower c =
    rw (handed_on _ _ c.from_residual.ensures.1) (answer_refused c.in_err-check_lower.ensures moved _ _ (number_ne _))

pub returns : goal.returns
unfolding lower_of
returns c = answer_done c.in_ok-check_lower.ensures moved _ _ refl c.ending_at.ensures
