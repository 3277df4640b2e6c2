-- `check_pack` meets its contract: its tests are those of `pack_refusal`, in the same order. Assumes nothing.
use Prim.Native.Nat.{ℕ}
use mathlib.Core.Path.{◌≡◌, sym, ap, ◌∙◌}
use native.Mathlib.Omega.{arith}
use Rattle.bits.specs.Refusals.{or_else, first_refusal}
use Rattle.bits.proofs.RefusalLaws.{first_handed}
use Rattle.packing.specs.declared.State.{State}
use Rattle.packing.specs.Packing.{state_refusal}
use Rattle.packing.proofs.BelongsLaws.{refusal_belongs}
use Rattle.strip.specs.Answers.{pack_refusal}
use Rattle.strip.proofs.inner.check_pack.Goals as goal

-- the state that is tested is the writer's
tested : (len : ℕ) {n : ℕ} {t u : State} → t ≡ u → n ≡ state_refusal len t → n ≡ state_refusal len u
tested len same p = p ∙ ap (state_refusal len) same

pub returns-in_err-check : goal.returns-in_err-check
unfolding pack_refusal
returns-in_err-check c = first_handed _ _ _ _ _ c.from_residual.ensures.1 (tested _ c.state_in.ensures c.in_err-check.ensures)

pub check_room-requires : goal.check_room-requires
check_room-requires c = (refusal_belongs _ _ (sym (tested _ c.state_in.ensures c.in_ok-check.ensures)), omega arith)

pub returns-then-fits : goal.returns-then-fits
unfolding pack_refusal first_refusal or_else
returns-then-fits c =
    rw (← tested _ c.state_in.ensures c.in_ok-check.ensures, ← c.fits.ensures, c.if-fits.true) c.check_room.ensures

pub returns : goal.returns
unfolding pack_refusal first_refusal or_else
returns c = rw (← tested _ c.state_in.ensures c.in_ok-check.ensures, ← c.fits.ensures, c.if-fits.false)
