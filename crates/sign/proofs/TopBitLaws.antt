-- The top bit of a field, as the code takes it: by a mask, and by moving the field to the top of a word and back.
use Rattle.std.proofs.Common.{◌≡◌, ℕ, zero, suc, ◌+◌, ◌-◌, ◌*◌, ◌/◌, ◌%◌, ◌^◌, ◌<◌, ◌≤◌, ℤ, pos, negsuc, sym, ap, ◌∙◌, subst, mul-le-mul_right, add-mul, one-mul, pow-suc, sub-add_cancel, arith, pow_pos, pow_mono, pow-add, shl_lt, shl_exact}
use lib.Bits.{bit_and, and_shifted, and_block, and_comm, and_zero_r}
use lib.Pow.{pow-sub-lt, shl-shr, high}
use lib.Signed.{shr_z}
use Rattle.bits.specs.Signed.{signed}
use Rattle.bits.proofs.WordLaws.{one_shl}
use Rattle.sign.proofs.SignedLaws.{by_half, signed_low, signed_high}

-- ---- by a mask

-- a mask by its worth leaves nothing where it is clear, and the worth where it is set
top_clear : (j v : ℕ) → v < 2 ^ j → bit_and v (2 ^ j) ≡ 0
top_clear j v h = and_comm v (2 ^ j) ∙ (rw (one-mul (2 ^ j)) at (and_shifted 1 j v h))

top_set : (j v : ℕ) → 2 ^ j ≤ v → v < 2 ^ suc j → bit_and v (2 ^ j) ≡ 2 ^ j
top_set j v h l =
    let s : 2 ^ suc j ≡ 2 ^ j * 2 = pow-suc 2 j in
    let t : v - 2 ^ j < 2 ^ j = omega arith in
    let a : 1 * 2 ^ j + (v - 2 ^ j) ≡ v = omega arith in
    let b : 1 * 2 ^ j + 0 ≡ 2 ^ j = omega arith in
    (rw (a, b) at (and_block j 1 1 (v - 2 ^ j) 0 t (pow_pos j))) ∙ rw and_zero_r (omega arith)

-- r is v less twice its top bit, modulo 2 ^ 64
subtracted : (j v r : ℕ) → j ≤ 62 → v < 2 ^ suc j → r < 2 ^ 64 → (r + 2 * bit_and v (2 ^ j)) % 2 ^ 64 ≡ v → signed 64 r ≡ signed (suc j) v
subtracted j v r hj hv hr e =
    let s : 2 ^ suc j ≡ 2 ^ j * 2 = pow-suc 2 j in
    let m : 2 ^ j ≤ 2 ^ 62 = pow_mono hj in
    by_half (λ (z : ℤ). signed 64 r ≡ z) j v hv
    (λ (l : v < 2 ^ j).
    let f : (r + 2 * 0) % 2 ^ 64 ≡ v = rw (top_clear j v l) at e in
    let q : r ≡ v = omega arith in
    signed_low 63 r (omega arith) ∙ ap pos q)
    (λ (g : 2 ^ j ≤ v).
    let f : (r + 2 * 2 ^ j) % 2 ^ 64 ≡ v = rw (top_set j v g hv) at e in
    let q : 2 ^ 64 - suc r ≡ 2 ^ suc j - suc v = omega arith in
    signed_high 63 r (omega arith) hr ∙ ap negsuc q)

-- the same at a width from 1 to 63, with the top bit's worth as the code computes it
pub top_subtracted : (w v r : ℕ) → 1 ≤ w → w ≤ 63 → v < 2 ^ w → r < 2 ^ 64 → (r + 2 * bit_and v (1 * 2 ^ (w - 1) % 2 ^ 64)) % 2 ^ 64 ≡ v → signed 64 r ≡ signed w v
top_subtracted zero v r p hw hv hr e = absurd (omega arith)
top_subtracted (suc j) v r p hw hv hr e =
    let h : j ≤ 63 = omega arith in
    let o : suc j - 1 ≡ j = omega arith in
    subtracted j v r (omega arith) hv hr (rw (o, one_shl j h) at e)

-- ---- at the top of a word

-- bits moved up by k mean 2 ^ k times as much, which a shift that keeps the sign takes back
moved_up : (j k v : ℕ) → suc j + k ≡ 64 → v < 2 ^ suc j → shr_z (signed 64 (v * 2 ^ k)) (2 ^ k) ≡ signed (suc j) v
moved_up j k v e h = by_half (λ (z : ℤ). shr_z (signed 64 (v * 2 ^ k)) (2 ^ k) ≡ z) j v h lower upper
  where
    f : j + k ≡ 63
    f = omega arith

    lower : v < 2 ^ j → shr_z (signed 64 (v * 2 ^ k)) (2 ^ k) ≡ pos v
    lower l = ap (λ (z : ℤ). shr_z z (2 ^ k)) (signed_low 63 (v * 2 ^ k) (subst (λ (n : ℕ). v * 2 ^ k < 2 ^ n) f (shl_lt j k l))) ∙ ap pos (shl-shr v k)

    upper : 2 ^ j ≤ v → shr_z (signed 64 (v * 2 ^ k)) (2 ^ k) ≡ negsuc (2 ^ suc j - suc v)
    upper g =
        let d : ℕ = 2 ^ suc j - suc v in
        let p : 0 < 2 ^ k = pow_pos k in
        let s : 2 ^ 63 ≡ 2 ^ j * 2 ^ k = ap (λ (n : ℕ). 2 ^ n) (sym f) ∙ pow-add 2 j k in
        let t : 2 ^ 64 ≡ 2 ^ suc j * 2 ^ k = ap (λ (n : ℕ). 2 ^ n) (sym e) ∙ pow-add 2 (suc j) k in
        let a : 2 ^ suc j ≡ d + suc v = sym (sub-add_cancel h) in
        let b : 2 ^ 64 ≡ d * 2 ^ k + suc v * 2 ^ k = t ∙ ap (λ (n : ℕ). n * 2 ^ k) a ∙ add-mul d (suc v) (2 ^ k) in
        let u : suc v * 2 ^ k ≡ v * 2 ^ k + 2 ^ k = omega arith in
        let m : 2 ^ 64 - suc (v * 2 ^ k) ≡ d * 2 ^ k + (2 ^ k - 1) = omega arith in
        ap (λ (z : ℤ). shr_z z (2 ^ k)) (signed_high 63 (v * 2 ^ k) (subst (λ (n : ℕ). n ≤ v * 2 ^ k) (sym s) (mul-le-mul_right (2 ^ k) g)) (omega arith))
        ∙ ap (λ (n : ℕ). negsuc (n / 2 ^ k)) m ∙ ap negsuc (high d k (pow-sub-lt k (omega arith)))

-- the same at a width from 1 to 64, as the code computes it
pub moved_back : (w v : ℕ) → 1 ≤ w → w ≤ 64 → v < 2 ^ w → shr_z (signed 64 (v * 2 ^ (64 - w) % 2 ^ 64)) (2 ^ (64 - w)) ≡ signed w v
moved_back zero v p l h = absurd (omega arith)
moved_back (suc j) v p l h =
    let e : suc j + (64 - suc j) ≡ 64 = omega arith in
    let f : suc j + (64 - suc j) ≤ 64 = omega arith in
    rw (shl_exact (suc j) (64 - suc j) 64 h f) (moved_up j (64 - suc j) v e h)
