-- `bits_remaining` meets its contract: a cursor that is not refused belongs, and its counts give the bits left. Assumes nothing.
use mathlib.Core.Path.{sym, ◌∙◌}
use Rattle.bits.proofs.RefusalLaws.{answer_refused, answer_done}
use Rattle.reader.proofs.CursorLaws.{refusal_own}
use Rattle.reader.specs.Answers.{counted_of, counted}
use Rattle.reader.proofs.Cursor.bits_remaining.Goals as goal

pub returns-then-refusal-ne-DONE : goal.returns-then-refusal-ne-DONE
unfolding counted_of
returns-then-refusal-ne-DONE c = answer_refused c.refusal-refusal.ensures counted _ _ c.if-refusal-ne-DONE.true

pub bits_left-requires : goal.bits_left-requires
bits_left-requires c = (refusal_own (sym c.refusal-refusal.ensures ∙ c.if-refusal-ne-DONE.false)).fits

pub returns : goal.returns
unfolding counted_of
returns c = answer_done c.refusal-refusal.ensures counted _ _ c.if-refusal-ne-DONE.false c.bits_left.ensures
