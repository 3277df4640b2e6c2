-- `Writer::write_signed_bits` meets its contract: a write that is not refused puts the low bits of the number's 64, which are those
-- of the number. Assumes nothing.
use mathlib.Core.Path.{refl, ◌≡◌, sym, ap, ◌∙◌}
use Prim.Native.Nat.{ℕ, ◌%◌, ◌^◌, ◌≤◌}
use lib.IntN.{ℤ}
use lib.ListN.{length}
use mir.Syntax.{w64}
use mir.Val.{SFits, to_z, of_z}
use mir.ValLaws.{to_z-of_z}
use Rattle.bits.specs.Signed.{pattern}
use Rattle.bits.proofs.RefusalLaws.{handed_on}
use Rattle.sign.proofs.SignedLaws.{pattern_lt, pattern_low}
use Rattle.writer.specs.declared.Writer.{Writer}
use Rattle.writer.specs.Writer.{signed_refusal}
use Rattle.writer.specs.Answers.{signed_of, signed_out}
use Rattle.writer.proofs.AnswerLaws.{signed_passed, refused, answered}
use Rattle.writer.proofs.Writer.write_signed_bits.Goals as goal

-- the number plays no part in the refusal
signed_same : (len : ℕ) (w : Writer) (n : ℕ) (x y : ℤ) → signed_refusal len w n x ≡ signed_refusal len w n y
unfolding signed_refusal
signed_same len w n x y = refl

-- the low n of its 64 bits
low_is : {n low all : ℕ} {x : ℤ} → SFits w64 x → n ≤ 64 → all ≡ pattern 64 (to_z w64 (of_z w64 x)) → low ≡ all % 2 ^ n → low ≡ pattern n x
low_is {n} {x = x} r narrow p q = q ∙ ap (λ (y : ℕ). y % 2 ^ n) (p ∙ ap (pattern 64) (to_z-of_z w64 x r)) ∙ pattern_low n x narrow

pub returns-in_err-check_signed : goal.returns-in_err-check_signed
unfolding signed_of signed_out
returns-in_err-check_signed c =
    let a = c.args in
    let e = c.in_err-check_signed.ensures ∙ signed_same (length a.out.now) a.self a.bits _ a.value in
    let both = refused a.self a.out.now (handed_on _ _ c.from_residual.ensures.1) e _ _ in
    record { answer = both.0; memory = both.1 }

pub low_bits-low-requires : goal.low_bits-low-requires
low_bits-low-requires c = (signed_passed _ _ _ _ (sym c.in_ok-check_signed.ensures)).0

pub put_bits-state-requires : goal.put_bits-state-requires
put_bits-state-requires c =
    let h = signed_passed _ _ _ _ (sym c.in_ok-check_signed.ensures) in
    rw (c.state_in.ensures, low_is c.ranges.value h.0 c.bits_of_signed.ensures c.low_bits-low.ensures)
    (h.1.belongs, h.0, pattern_lt c.args.bits c.args.value, h.1.enough)

pub returns : goal.returns
unfolding signed_of signed_out
returns c =
    let a = c.args in
    let p = c.put_bits-state.ensures in
    let h = signed_passed _ _ _ _ (sym c.in_ok-check_signed.ensures) in
    let e = c.in_ok-check_signed.ensures ∙ signed_same (length a.out.now) a.self a.bits _ a.value in
    rw (← c.state_in.ensures, ← low_is c.ranges.value h.0 c.bits_of_signed.ensures c.low_bits-low.ensures)
    (let both = answered a.self a.out.now e c.writer_with.ensures p.answer p.memory in
    record { answer = both.0; memory = both.1 })
