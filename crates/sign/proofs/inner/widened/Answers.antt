-- `widened` meets its contract: the bits of what `extend` makes of the field at the top of a word, moved back. Assumes nothing.
use Rattle.std.proofs.Common.{◌≡◌, ℕ, ◌-◌, ◌^◌, ℤ, ap, ◌∙◌, lt_of_le_of_lt, arith, w64, SFits, to_z, of_z}
use lib.Signed.{mag_shr, shr_z}
use mir.ValLaws.{to_z-of_z}
use Rattle.bits.specs.Signed.{signed, pattern}
use Rattle.sign.proofs.TopBitLaws.{moved_back}
use Rattle.sign.proofs.inner.widened.Goals as goal

pub returns-then-bits-eq0 : goal.returns-then-bits-eq0
unfolding signed pattern
returns-then-bits-eq0 c = rw c.if-bits-eq0.true

pub returns : goal.returns
returns c =
    let s = c in
    let k : ℕ = 64 - s.args.bits in
    let x = c.extend in
    let e : to_z w64 (of_z w64 x.result) ≡ x.result = to_z-of_z w64 x.result (record { sfits = x.type_inv }) in
    let f : SFits w64 (shr_z x.result (2 ^ k)) = record { sfits = lt_of_le_of_lt (mag_shr x.result (2 ^ k)) x.type_inv } in
    c.bits_of_signed.ensures
    ∙ ap (pattern 64) (rw e (to_z-of_z w64 (shr_z x.result (2 ^ k)) f) ∙ ap (λ (z : ℤ). shr_z z (2 ^ k)) x.ensures ∙ moved_back s.args.bits s.args.val (omega arith) s.requires.0 s.requires.1)
