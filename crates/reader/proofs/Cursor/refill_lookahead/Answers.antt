-- `refill_lookahead` meets its contract: the state of a cursor that is not refused is refilled. Assumes nothing.
use mathlib.Core.Path.{refl, sym, ap, ◌∙◌, subst}
use lib.ListN.{length}
use Rattle.bits.proofs.RefusalLaws.{handed_on, number_ne, answer_refused, answer_done}
use Rattle.counts.specs.Counts.{after_refill}
use Rattle.lookahead.specs.declared.State.{State}
use Rattle.lookahead.specs.State.{counts_of, state_of, Belongs}
use Rattle.reader.specs.Cursor.{with_state, cursor_at}
use Rattle.reader.proofs.CursorLaws.{own_state, refusal_own}
use Rattle.reader.specs.Answers.{refill_of, moved}
use Rattle.reader.proofs.Cursor.refill_lookahead.Goals as goal

pub returns-in_err-check : goal.returns-in_err-check
unfolding refill_of
returns-in_err-check c =
    rw (handed_on _ _ c.from_residual.ensures.1) (answer_refused c.in_err-check.ensures moved _ _ (number_ne _))

pub refill-requires : goal.refill-requires
refill-requires c =
    let a = c.args in
    subst (Belongs a.order a.src.now) (sym c.state_in.ensures)
    (own_state (refusal_own (sym c.in_ok-check.ensures)))

pub returns : goal.returns
unfolding refill_of cursor_at
returns c =
    let a = c.args in
    let t = c.refill.ensures ∙ ap (λ (t : State). state_of a.order a.src.now (after_refill (length a.src.now) (counts_of t))) c.state_in.ensures in
    let next = c.with_state.ensures ∙ ap (with_state a.self) t in
    answer_done c.in_ok-check.ensures moved _ _ refl next
