-- Bits turned over: all of a signed number's by -1 - z.
use Rattle.std.proofs.Common.{◌≡◌, ℕ, zero, suc, ◌-◌, ◌<◌, ◌≤◌, true, false, T, ℤ, pos, negsuc, ◌-ℤ◌, refl, ap, ◌∙◌, subst, zero-add, arith, SFits, to_z, of_z, ltb-true, le-ltb}
use lib.Signed.{mag, lt_z}
use mir.Syntax.{Width}
use mir.ValLaws.{to_z-of_z}

-- ---- all bits

-- the number of the same magnitude on the other side of -1/2
abbrev pub complement : ℤ → ℤ
complement (pos n) = negsuc n
complement (negsuc n) = pos n

minus-one_less : (z : ℤ) → negsuc 0 -ℤ z ≡ complement z
minus-one_less (pos zero) = refl
minus-one_less (pos (suc n)) = ap (λ (k : ℕ). negsuc (suc k)) (zero-add n)
minus-one_less (negsuc n) =
    let l : 1 ≤ suc n = omega arith in
    let e : suc n - 1 ≡ n = omega arith in
    simp (le-ltb (suc n) 1 l) (ap pos e)

mag_complement : (z : ℤ) → mag (complement z) ≡ mag z
mag_complement (pos n) = refl
mag_complement (negsuc n) = refl

-- -1 - z never overflows
pub complement-fits : (w : Width) (z : ℤ) → SFits w z → SFits w (negsuc 0 -ℤ z)
complement-fits w z f = rw minus-one_less (record { sfits = rw mag_complement f.sfits })

-- and is the complement, as the machine computes it
pub complement_read : (w : Width) (z : ℤ) → SFits w z → to_z w (of_z w (negsuc 0 -ℤ z)) ≡ complement z
complement_read w z f = to_z-of_z w (negsuc 0 -ℤ z) (complement-fits w z f) ∙ minus-one_less z

-- ---- the sign, by a test against 0

pub negative : (z : ℤ) → lt_z z (pos 0) ≡ true → z ≡ negsuc (mag z)
negative (pos n) h = let l : n < 0 = ltb-true n 0 h in absurd (omega arith)
negative (negsuc n) h = refl

pub nonnegative : (z : ℤ) → lt_z z (pos 0) ≡ false → z ≡ pos (mag z)
nonnegative (pos n) h = refl
nonnegative (negsuc n) h = absurd (subst T h tt)
