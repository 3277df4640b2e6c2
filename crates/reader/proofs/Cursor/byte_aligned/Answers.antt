-- `byte_aligned` meets its contract: the place is at the start of a byte where the lookahead is whole bytes. Assumes nothing.
use mathlib.Core.Path.{refl, sym}
use Rattle.bits.specs.Refusals.{told_by}
use Rattle.bits.proofs.RefusalLaws.{handed_on, number_ne, answer_refused, answer_done}
use Rattle.reader.proofs.CursorLaws.{refusal_own}
use Rattle.reader.specs.Answers.{tested_of}
use Rattle.reader.proofs.AnswerLaws.{aligned}
use Rattle.reader.proofs.Cursor.byte_aligned.Goals as goal

pub returns-in_err-check : goal.returns-in_err-check
unfolding tested_of
returns-in_err-check c =
    rw (handed_on _ _ c.from_residual.ensures.1) (answer_refused c.in_err-check.ensures told_by _ _ (number_ne _))

pub returns : goal.returns
unfolding tested_of
returns c =
    let h = refusal_own (sym c.in_ok-check.ensures) in
    answer_done c.in_ok-check.ensures told_by _ _ refl (aligned _ _ h.fits.within.behind)
