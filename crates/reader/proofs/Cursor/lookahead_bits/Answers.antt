-- `lookahead_bits` meets its contract: a cursor that is not refused tells its lookahead. Assumes nothing.
use mathlib.Core.Path.{refl, sym}
use Rattle.bits.specs.Refusals.{told_by}
use Rattle.bits.proofs.RefusalLaws.{handed_on, number_ne, answer_refused, answer_done}
use Rattle.reader.proofs.CursorLaws.{refusal_own}
use Rattle.reader.specs.Answers.{ahead_of}
use Rattle.reader.proofs.Cursor.lookahead_bits.Goals as goal

pub returns-in_err-check : goal.returns-in_err-check
unfolding ahead_of
returns-in_err-check c =
    rw (handed_on _ _ c.from_residual.ensures.1) (answer_refused c.in_err-check.ensures told_by _ _ (number_ne _))

pub ahead-requires : goal.ahead-requires
ahead-requires c = (refusal_own (sym c.in_ok-check.ensures)).fits

pub returns : goal.returns
unfolding ahead_of
returns c = answer_done c.in_ok-check.ensures told_by _ _ refl c.ahead.ensures
