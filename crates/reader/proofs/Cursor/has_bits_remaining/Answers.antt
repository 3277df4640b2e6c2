-- `has_bits_remaining` meets its contract: a cursor that is not refused belongs, and its counts give the bits left. Assumes nothing.
use mathlib.Core.Path.{refl, sym, ap}
use lib.Dec.{leb}
use Rattle.bits.specs.Refusals.{told_by}
use Rattle.bits.proofs.RefusalLaws.{handed_on, number_ne, answer_refused, answer_done}
use Rattle.reader.proofs.CursorLaws.{refusal_own}
use Rattle.reader.specs.Answers.{tested_of}
use Rattle.reader.proofs.Cursor.has_bits_remaining.Goals as goal

pub returns-in_err-check : goal.returns-in_err-check
unfolding tested_of
returns-in_err-check c =
    rw (handed_on _ _ c.from_residual.ensures.1) (answer_refused c.in_err-check.ensures told_by _ _ (number_ne _))

pub bits_left-requires : goal.bits_left-requires
bits_left-requires c = (refusal_own (sym c.in_ok-check.ensures)).fits

pub returns : goal.returns
unfolding tested_of
returns c =
    let p = ap (leb c.args.bits) c.bits_left.ensures in
    answer_done c.in_ok-check.ensures told_by _ _ refl p
