-- `peek` meets its contract: where the lookahead of a cursor that belongs has the bits, they are the field at its place. Assumes nothing.
use Prim.Native.Nat.{◌≤◌}
use mathlib.Core.Path.{refl, sym, ap, ◌∙◌, subst}
use native.Mathlib.Nat.{le_trans}
use Rattle.bits.specs.Field.{field}
use Rattle.bits.specs.Refusals.{told_by}
use Rattle.bits.proofs.RefusalLaws.{handed_on, number_ne, answer_refused, answer_done}
use Rattle.counts.specs.Counts as C
use Rattle.lookahead.specs.declared.State.{State}
use Rattle.lookahead.specs.State.{counts_of, Belongs}
use Rattle.reader.proofs.CursorLaws.{own_state, ahead-held}
use Rattle.reader.specs.Answers.{peek_of}
use Rattle.reader.proofs.AnswerLaws.{manual_granted}
use Rattle.reader.proofs.Cursor.peek.Goals as goal

pub returns-in_err-check_manual : goal.returns-in_err-check_manual
unfolding peek_of
returns-in_err-check_manual c =
    rw (handed_on _ _ c.from_residual.ensures.1) (answer_refused c.in_err-check_manual.ensures told_by _ _ (number_ne _))

pub peek-requires : goal.peek-requires
peek-requires c =
    let a = c.args in
    let (h, n) = manual_granted _ _ _ _ (sym c.in_ok-check_manual.ensures) in
    subst (λ (t : State). Belongs a.order a.src.now t × (a.count ≤ t.lookahead)) (sym c.state_in.ensures)
    (own_state h, le_trans n (ahead-held h.fits))

pub returns : goal.returns
unfolding peek_of
returns c =
    let a = c.args in
    let p = c.peek.ensures ∙ ap (λ (t : State). field a.order a.src.now (C.place (counts_of t)) a.count) c.state_in.ensures in
    answer_done c.in_ok-check_manual.ensures told_by _ _ refl p
