-- `record_at` meets its contract: the last four fields are parts of the field of 31 bits behind the date. Assumes nothing.
use mathlib.Core.Path.{◌≡◌, ap, ◌∙◌}
use Prim.Native.Nat.{ℕ, ◌+◌, ◌/◌, ◌%◌, ◌^◌}
use native.Mathlib.Nat.{mod-lt}
use native.Mathlib.Omega.{arith}
use lib.Pow.{pow_pos}
use mir.Syntax.{w16, w64}
use mir.Val.{SFits, to_z, of_z}
use Rattle.bits.specs.declared.Order.TheVariants.{Big}
use Rattle.bits.proofs.FieldLaws.{field_lt}
use Rattle.bits.specs.Signed.{signed}
use Rattle.sign.proofs.SignedLaws.{narrowed}
use Rattle.strip.specs.Bits.{record_at}
use Rattle.strip.proofs.BitsLaws.{limit_in, magnitude_in, error_in, filter_in}
use Rattle.strip.proofs.inner.record_at.Goals as goal
use Rattle.strip.proofs.inner.record_at.Goals.{After-extend}

pub overflow_cast-result : goal.overflow_cast-result
overflow_cast-result c =
    let a = c.args in
    omega (arith, c.short_field-star.ensures, field_lt Big a.src.now a.place 20)

pub overflow_cast-result-2 : goal.overflow_cast-result-2
overflow_cast-result-2 c =
    let a = c.args in
    omega (arith, c.short_field-rest.ensures, field_lt Big a.src.now (a.place + 58) 31)

-- the magnitude as the machine's number of 16 bits
sixteen :
    (c : After-extend) →
    let z = to_z w64 (of_z w64 c.extend.result) in SFits w16 z × (to_z w16 (of_z w16 z) ≡ signed 16 (c.short_field-rest.result / 2 ^ 14 % 2 ^ 16))
sixteen c = narrowed w16 (c.short_field-rest.result / 2 ^ 14 % 2 ^ 16) (mod-lt _ (pow_pos 16)) (record { sfits = c.extend.type_inv }) c.extend.ensures

pub overflow_cast-result-3 : goal.overflow_cast-result-3
overflow_cast-result-3 c = (sixteen c).0

pub returns : goal.returns
unfolding record_at
returns c =
    let three = c in
    let a = three.args in
    let s = a.src.now in
    let p = a.place in
    let rest = three.short_field-rest.ensures in
    let limit = ap (λ (n : ℕ). n / 2 ^ 30) rest ∙ limit_in s p in
    let magnitude = (sixteen c).1 ∙ ap (λ (n : ℕ). signed 16 (n / 2 ^ 14 % 2 ^ 16)) rest ∙ ap (signed 16) (magnitude_in s p) in
    let error = ap (λ (n : ℕ). n / 2 ^ 4 % 2 ^ 10) rest ∙ error_in s p in
    let filter = ap (λ (n : ℕ). n % 2 ^ 4) rest ∙ filter_in s p in
    λ i. record { star = three.short_field-star.ensures i; date = three.short_field-date.ensures i; limit = limit i; magnitude = magnitude i; error = error i; filter = filter i }
