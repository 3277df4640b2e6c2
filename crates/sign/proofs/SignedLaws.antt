-- Laws of signed meanings and their bits, over the width, and the bridge to the machine's own signed numbers.
use Rattle.std.proofs.Common.{◌≡◌, ℕ, zero, suc, ◌+◌, ◌-◌, ◌*◌, ◌/◌, ◌%◌, ◌^◌, ◌<◌, ◌≤◌, Bool, true, false, cond, leb, ℤ, pos, negsuc, ◌-ℤ◌, sym, refl, ap, ◌∙◌, subst, mod-lt, mod-eq_of_lt, add-mul, pow-suc, sub-add_cancel, arith, pow_pos, pow-add, w64, SFits, to_z, of_z, le-ltb, lt-ltb, leb-false, leb-true}
use lib.Arith.{comp_comp}
use lib.Pow.{pow-sub-lt, low, mod-pow-add, mod-mod-pow}
use lib.Signed.{mag}
use mir.Syntax.{Width}
use mir.Val.{bits, hbits}
use mir.ValLaws.{bits-suc, half_full, to_z_pos, to_z-of_z, to_z-Fits}
use Rattle.bits.specs.Signed.{signed, pattern}

-- a - b, of a smaller a
difference : (a b : ℕ) → a < b → pos a -ℤ pos b ≡ negsuc (b - suc a)
difference a zero h = absurd (omega arith)
difference a (suc b) h = simp (lt-ltb a (suc b) h)

-- ---- the two halves

-- what holds of a signed meaning, by the half that the bits are in
pub by_half {ℓ} : (P : ℤ → Type ℓ) (j v : ℕ) → v < 2 ^ suc j → (v < 2 ^ j → P (pos v)) → (2 ^ j ≤ v → P (negsuc (2 ^ suc j - suc v))) → P (signed (suc j) v)
unfolding signed
by_half P j v h f g = go (leb (2 ^ j) v) refl
  where
    go : (b : Bool) → leb (2 ^ j) v ≡ b → P (cond b (pos v -ℤ pos (2 ^ suc j)) (pos v))
    go true e = subst P (sym (difference v (2 ^ suc j) h)) (g (leb-true (2 ^ j) v e))
    go false e = f (leb-false (2 ^ j) v e)

pub signed_low : (j v : ℕ) → v < 2 ^ j → signed (suc j) v ≡ pos v
signed_low j v h = let t = pow-suc 2 j in by_half (λ (z : ℤ). z ≡ pos v) j v (omega arith) (λ l. refl) (λ g. absurd (omega arith))

pub signed_high : (j v : ℕ) → 2 ^ j ≤ v → v < 2 ^ suc j → signed (suc j) v ≡ negsuc (2 ^ suc j - suc v)
signed_high j v g h = by_half (λ (z : ℤ). z ≡ negsuc (2 ^ suc j - suc v)) j v h (λ l. absurd (omega arith)) (λ g. refl)

-- the signed meaning of w bits fits w bits
pub signed-fits : (j v : ℕ) → v < 2 ^ suc j → mag (signed (suc j) v) < 2 ^ j
signed-fits j v h =
    let t = pow-suc 2 j in
    by_half (λ (z : ℤ). mag z < 2 ^ j) j v h (λ l. l) (λ g. omega arith)

-- ---- there and back

pub pattern_lt : (w : ℕ) (z : ℤ) → pattern w z < 2 ^ w
unfolding pattern
pattern_lt w (pos n) = mod-lt n (pow_pos w)
pattern_lt w (negsuc n) = pow-sub-lt w (omega arith)

-- bits come back from their signed meaning
pub pattern-signed : (w v : ℕ) → v < 2 ^ w → pattern w (signed w v) ≡ v
unfolding pattern signed
pattern-signed zero v h = omega arith
pattern-signed (suc j) v h =
    by_half (λ (z : ℤ). pattern (suc j) z ≡ v) j v h
    (λ l. mod-eq_of_lt h)
    (λ g. ap (λ (n : ℕ). 2 ^ suc j - suc n) (mod-eq_of_lt (pow-sub-lt (suc j) (omega arith))) ∙ comp_comp h)

-- a number that fits comes back from its bits
pub signed-pattern : (j : ℕ) (z : ℤ) → mag z < 2 ^ j → signed (suc j) (pattern (suc j) z) ≡ z
unfolding pattern
signed-pattern j (pos n) h =
    let t = pow-suc 2 j in
    ap (signed (suc j)) (mod-eq_of_lt (omega arith)) ∙ signed_low j n h
signed-pattern j (negsuc n) h =
    let t = pow-suc 2 j in
    let l : n < 2 ^ suc j = omega arith in
    ap (λ (m : ℕ). signed (suc j) (2 ^ suc j - suc m)) (mod-eq_of_lt l)
    ∙ signed_high j (2 ^ suc j - suc n) (omega arith) (omega arith) ∙ ap negsuc (comp_comp l)

-- ---- low bits

-- the k low digits of the complement of j + k digits
low_complement : (n j k : ℕ) → (2 ^ (j + k) - suc (n % 2 ^ (j + k))) % 2 ^ k ≡ 2 ^ k - suc (n % 2 ^ k)
low_complement n j k =
    let q : ℕ = n / 2 ^ k % 2 ^ j in
    let r : ℕ = n % 2 ^ k in
    let d : ℕ = 2 ^ j - suc q in
    let hq : q < 2 ^ j = mod-lt (n / 2 ^ k) (pow_pos j) in
    let hr : r < 2 ^ k = mod-lt n (pow_pos k) in
    let s : 2 ^ (j + k) ≡ d * 2 ^ k + suc q * 2 ^ k = pow-add 2 j k ∙ ap (λ (m : ℕ). m * 2 ^ k) (sym (sub-add_cancel hq)) ∙ add-mul d (suc q) (2 ^ k) in
    let t : suc q * 2 ^ k ≡ q * 2 ^ k + 2 ^ k = omega arith in
    let e : 2 ^ (j + k) - suc (n % 2 ^ (j + k)) ≡ d * 2 ^ k + (2 ^ k - suc r) = omega (arith, mod-pow-add n j k) in
    ap (λ (m : ℕ). m % 2 ^ k) e ∙ low d k (pow-sub-lt k (omega arith))

-- fewer of the bits of a signed number
fewer : (j w : ℕ) (z : ℤ) → pattern (j + w) z % 2 ^ w ≡ pattern w z
unfolding pattern
fewer j w (pos n) = mod-mod-pow n j w
fewer j w (negsuc n) = low_complement n j w

-- the low bits of a word are the number's bits at the lesser width
pub pattern_low : (w : ℕ) (z : ℤ) → w ≤ 64 → pattern 64 z % 2 ^ w ≡ pattern w z
pattern_low w z h = subst (λ (k : ℕ). pattern k z % 2 ^ w ≡ pattern w z) (sub-add_cancel h) (fewer (64 - w) w z)

-- ---- the machine's numbers

-- as the machine reads bits as signed, and writes a signed number's bits
pub signed_to_z : (w : Width) (x : ℕ) → x < 2 ^ bits w → signed (bits w) x ≡ to_z w x
signed_to_z w x h =
    let e = bits-suc w in
    ap (λ (k : ℕ). signed k x) e
    ∙ by_half (λ (z : ℤ). z ≡ to_z w x) (hbits w) x (subst (λ (k : ℕ). x < 2 ^ k) e h)
    (λ l. sym (to_z_pos w x l))
    (λ g. rw (le-ltb x (2 ^ hbits w) g, ← e))

pub pattern_of_z : (w : Width) (z : ℤ) → SFits w z → pattern (bits w) z ≡ of_z w z
unfolding pattern
pattern_of_z w (pos n) f = mod-eq_of_lt (half_full w f.sfits)
pattern_of_z w (negsuc n) f = ap (λ (m : ℕ). 2 ^ bits w - suc m) (mod-eq_of_lt (half_full w f.sfits))

-- the signed meaning of w bits, computed at 64 bits and cast to the type of w bits: the cast is defined and loses nothing
pub narrowed : (w : Width) (v : ℕ) {z : ℤ} → v < 2 ^ bits w → SFits w64 z → z ≡ signed (bits w) v → SFits w (to_z w64 (of_z w64 z)) × (to_z w (of_z w (to_z w64 (of_z w64 z))) ≡ signed (bits w) v)
narrowed w v {z} h f e =
    let n : SFits w z = subst (λ (x : ℤ). SFits w x) (sym (e ∙ signed_to_z w v h)) (to_z-Fits w v (record { fits = h })) in
    rw (to_z-of_z w64 z f) (n, to_z-of_z w z n ∙ e)
