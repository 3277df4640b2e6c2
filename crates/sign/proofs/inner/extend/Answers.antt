-- `extend` meets its contract: width 64 is the word's own, and below it twice the top bit less is the signed meaning (`top_subtracted`). Assumes nothing.
use Rattle.std.proofs.Common.{◌≡◌, ℕ, ◌+◌, ◌-◌, ◌*◌, ◌%◌, ◌^◌, ◌<◌, ◌≤◌, ◌∙◌, mod-lt, lt_of_le_of_lt, mul-le-mul, arith, lit≤, lit<, pow_mono, w64}
use lib.Bits.{bit_and, and_le_l}
use mir.ValLaws.{to_z-of_z}
use Rattle.bits.specs.Signed.{signed}
use Rattle.sign.proofs.TopBitLaws.{top_subtracted}
use Rattle.sign.proofs.inner.extend.Goals as goal

-- twice a part of at most 63 bits is below 2 ^ 64
twice-lt : (w v m : ℕ) → w ≤ 63 → v < 2 ^ w → 2 * bit_and v m < 2 ^ 64
twice-lt w v m h l =
    let p : 2 ^ w ≤ 2 ^ 63 = pow_mono {j = 63} h in
    let k : 2 * v < 2 ^ 64 = omega arith in
    lt_of_le_of_lt (mul-le-mul (lit≤ tt) (and_le_l v m)) k

-- what was taken away modulo 2 ^ 64 is given back
given_back : (v t : ℕ) → v < 2 ^ 64 → t < 2 ^ 64 → ((v + (2 ^ 64 - t)) % 2 ^ 64 + t) % 2 ^ 64 ≡ v
given_back v t h l = omega arith

pub overflow_mul-top : goal.overflow_mul-top
overflow_mul-top c =
    let a = c.args in
    record { fits = twice-lt a.bits a.val _ (omega arith) c.requires.1 }

pub returns-in-0 : goal.returns-in-0
unfolding signed
returns-in-0 c = rw c.in-0.is

pub returns-in-64 : goal.returns-in-64
returns-in-64 c = to_z-of_z w64 _ (record { sfits = c.signed_of_bits.type_inv }) ∙ c.signed_of_bits.ensures ∙ rw c.in-64.is

pub returns-in_default : goal.returns-in_default
returns-in_default c =
    let a = c.args in
    let t = twice-lt a.bits a.val (1 * 2 ^ (a.bits - 1) % 2 ^ 64) (omega arith) c.requires.1 in
    to_z-of_z w64 _ (record { sfits = c.signed_of_bits-in_default.type_inv }) ∙ c.signed_of_bits-in_default.ensures
    ∙ top_subtracted a.bits a.val _ (omega arith) (omega arith) c.requires.1 (mod-lt _ (lit< tt)) (given_back a.val _ c.ranges.val.fits t)
