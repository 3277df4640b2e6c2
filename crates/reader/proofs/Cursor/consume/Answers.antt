-- `consume` meets its contract: where the lookahead of a cursor that belongs has the bits, its state goes on without them. Assumes nothing.
use Prim.Native.Nat.{◌≤◌}
use mathlib.Core.Path.{refl, sym, ap, ◌∙◌, subst}
use native.Mathlib.Nat.{le_trans}
use Rattle.bits.proofs.RefusalLaws.{handed_on, number_ne, answer_refused, answer_done}
use Rattle.counts.specs.Counts.{after_take}
use Rattle.lookahead.specs.declared.State.{State}
use Rattle.lookahead.specs.State.{counts_of, state_of, Belongs}
use Rattle.reader.specs.Cursor.{with_state, cursor_at}
use Rattle.reader.proofs.CursorLaws.{own_state, ahead-held}
use Rattle.reader.specs.Answers.{consume_of, moved}
use Rattle.reader.proofs.AnswerLaws.{manual_granted}
use Rattle.reader.proofs.Cursor.consume.Goals as goal

pub returns-in_err-check_manual : goal.returns-in_err-check_manual
unfolding consume_of
returns-in_err-check_manual c =
    rw (handed_on _ _ c.from_residual.ensures.1) (answer_refused c.in_err-check_manual.ensures moved _ _ (number_ne _))

pub consume-requires : goal.consume-requires
consume-requires c =
    let a = c.args in
    let (h, n) = manual_granted _ _ _ _ (sym c.in_ok-check_manual.ensures) in
    subst (λ (t : State). Belongs a.order a.src.now t × (a.count ≤ t.lookahead)) (sym c.state_in.ensures)
    (own_state h, le_trans n (ahead-held h.fits))

pub returns : goal.returns
unfolding consume_of cursor_at
returns c =
    let a = c.args in
    let t = c.consume.ensures ∙ ap (λ (t : State). state_of a.order a.src.now (after_take a.count (counts_of t))) c.state_in.ensures in
    let next = c.with_state.ensures ∙ ap (with_state a.self) t in
    answer_done c.in_ok-check_manual.ensures moved _ _ refl next
