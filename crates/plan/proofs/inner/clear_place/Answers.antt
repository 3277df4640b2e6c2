-- `clear_place` meets its contract: the cursor is not refused, and so its place is within the slice. Assumes nothing.
use mathlib.Core.Path.{sym, ◌∙◌}
use native.Mathlib.Omega.{arith}
use Rattle.reader.proofs.CursorLaws.{refusal_own, left_inside}
use Rattle.plan.proofs.RunLaws.{own_told}
use Rattle.plan.proofs.inner.clear_place.Goals as goal

pub place_of-place-requires : goal.place_of-place-requires
place_of-place-requires c = (refusal_own (own_told _ c.check.ensures (sym c.is_err.ensures.value ∙ c.if-is_err.false))).fits

pub stop-requires : goal.stop-requires
stop-requires c = (refusal_own (own_told _ c.check.ensures (sym c.is_err.ensures.value ∙ c.if-is_err.false))).fits

pub overflow_add-place : goal.overflow_add-place
overflow_add-place c =
    let h = (refusal_own (own_told _ c.check.ensures (sym c.is_err.ensures.value ∙ c.if-is_err.false))).fits in
    omega (arith, c.place_of-place.ensures, left_inside h, h.short)

pub overflow_add-place-2 : goal.overflow_add-place-2
overflow_add-place-2 c =
    let h = (refusal_own (own_told _ c.check.ensures (sym c.is_err.ensures.value ∙ c.if-is_err.false))).fits in
    omega (arith, c.place_of-place.ensures, left_inside h, h.short)

pub returns : goal.returns
returns c =
    let own = own_told _ c.check.ensures (sym c.is_err.ensures.value ∙ c.if-is_err.false) in
    record {
      own = own;
      at = c.place_of-place.ensures;
      steps = c.if-plan-gt256.false;
      ahead = omega (arith, c.if-stop-place.false, c.stop.ensures);
    }
