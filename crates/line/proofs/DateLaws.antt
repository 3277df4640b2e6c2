-- Laws of the date rule: nothing but these opens it.
use Rattle.std.proofs.Common.{◌≡◌, ℕ, suc, ◌+◌, ◌-◌, ◌*◌, ◌/◌, ◌^◌, ◌<◌, ◌≤◌, ltb, ◌↔◌, sym, ap, ◌∙◌, subst, zero-lt-suc, mul_assoc, mul_comm, add-mul, mul-le-mul_left, pow-suc, mul-suc, mul_left_comm, arith, pow-add, ltb-false, ltb-true}
use native.Mathlib.Nat.{one-le-pow, mul-div-le, lt-mul-div-succ, div-eq_of_lt-le, mul-add-div, add-mul-div_right, mul-div-mul_left, div-div-eq-div-mul}
use Rattle.bits.proofs.TestLaws.{by_test}
use Rattle.line.specs.Date.{day, units_of, Nearest}

-- a power of ten is no zero
pub ten_some : (n : ℕ) → 0 < 10 ^ n
ten_some n = one-le-pow n 10 (zero-lt-suc 9)

-- m / k, and no other number u, has k u ≤ m < k (u + 1)
quotient : (m k u : ℕ) → 0 < k → ((k * u ≤ m) × (m < k * (u + 1))) ↔ (u ≡ m / k)
quotient m k u some = (
  λ h. sym (div-eq_of_lt-le k (subst (λ (x : ℕ). x ≤ m) (mul_comm k u) h.0) (subst (λ (x : ℕ). m < x) (mul_comm k (u + 1)) h.1)),
  λ e. subst (λ (x : ℕ). (k * x ≤ m) × (m < k * (x + 1))) (sym e) (mul-div-le m k, lt-mul-div-succ m some),
)

-- the units, and no other number, are nearest to the digits together
pub units_nearest : (w v d u : ℕ) → 5 ≤ d → Nearest (w * 10 ^ d + v) (10 ^ (d - 5)) u ↔ (u ≡ units_of w v d)
unfolding units_of
units_nearest w v d u h =
    let p = 10 ^ (d - 5) in
    let some = ten_some (d - 5) in
    let e : 5 + (d - 5) ≡ d = omega arith in
    subst (λ (x : ℕ). Nearest (w * 10 ^ x + v) p u ↔ (u ≡ units_of w v d)) e (quotient _ (2 * p) u (omega arith))

-- what is nearest to the smaller of two, n of p and m of q to a unit, is not above what is nearest to the other
pub nearest_order : (n p u m q v : ℕ) → 0 < p → Nearest n p u → Nearest m q v → n * q ≤ m * p → u ≤ v
nearest_order n p u m q v some a b le =
    by_test (ltb v u)
    (λ t.
    let c = mul-le-mul_left (p * q) (ltb-true v u t) in
    let d = mul-le-mul_left q a.0 in
    let e = mul-le-mul_left p b.1 in
    let above : q * (2 * p * u) ≡ 2 * (p * q * u) = mul_left_comm q (2 * p) u ∙ mul_assoc 2 p (q * u) ∙ ap (λ (x : ℕ). 2 * x) (sym (mul_assoc p q u)) in
    let first : q * (2 * n + p) ≡ 2 * (n * q) + p * q = mul_comm q (2 * n + p) ∙ add-mul (2 * n) p q ∙ ap (λ (x : ℕ). x + p * q) (mul_assoc 2 n q) in
    let second : p * suc (2 * m + q) ≡ 2 * (m * p) + p * q + p =
    mul-suc p (2 * m + q) ∙ ap (λ (x : ℕ). x + p) (mul_comm p (2 * m + q) ∙ add-mul (2 * m) q p ∙ omega (arith, mul_assoc 2 m p, mul_comm q p)) in
    let below : p * (2 * q * (v + 1)) ≡ 2 * (p * q * suc v) =
    mul_left_comm p (2 * q) (v + 1) ∙ mul_assoc 2 q (p * (v + 1)) ∙ ap (λ (x : ℕ). 2 * x) (mul_left_comm q p (v + 1) ∙ sym (mul_assoc p q (v + 1)) ∙ ap (λ (x : ℕ). p * q * x) (omega arith)) in
    absurd (omega arith))
    (λ t. ltb-false v u t)

-- days apart from decimals
units_split : (w v d : ℕ) → let p = 10 ^ (d - 5) in units_of w v d ≡ day * w + (2 * v + p) / (2 * p)
unfolding units_of
units_split w v d =
    let p = 10 ^ (d - 5) in
    let some = ten_some (d - 5) in
    let days : w * 10 ^ (5 + (d - 5)) ≡ day * (w * p) = ap (λ (x : ℕ). w * x) (pow-add 10 5 (d - 5)) ∙ mul_left_comm w day p in
    let back : 2 * p * (day * w) ≡ day * (2 * (w * p)) = mul_left_comm (2 * p) day w ∙ ap (λ (x : ℕ). day * x) (mul_assoc 2 p w ∙ ap (λ (x : ℕ). 2 * x) (mul_comm p w)) in
    let e : 2 * (w * 10 ^ (5 + (d - 5)) + v) + p ≡ 2 * p * (day * w) + (2 * v + p) = omega arith in
    ap (λ (x : ℕ). x / (2 * p)) e ∙ mul-add-div (omega arith) (day * w) (2 * v + p)

-- five decimals are units
pub units_five : (w v d : ℕ) → d ≤ 5 → units_of w v d ≡ day * w + v
units_five w v d h =
    let z : d - 5 ≡ 0 = omega arith in
    let e : (2 * v + 1) / 2 ≡ v = omega arith in
    units_split w v d ∙ ap (λ (n : ℕ). day * w + (2 * v + 10 ^ n) / (2 * 10 ^ n)) z ∙ ap (λ (n : ℕ). day * w + n) e

-- decimals only add to the days
pub units_days : (w v d : ℕ) → day * w ≤ units_of w v d
units_days w v d = let e = units_split w v d in omega arith

-- a unit is ten of what the sixth decimal counts
unit_ten : (d : ℕ) → 6 ≤ d → 10 ^ (d - 5) ≡ 10 ^ (d - 6) * 10
unit_ten d h = let s : d - 5 ≡ suc (d - 6) = omega arith in ap (λ (x : ℕ). 10 ^ x) s ∙ pow-suc 10 (d - 6)

-- more decimals: half a unit more, and what is behind the fifth cut off
pub units_half : (w v d : ℕ) → 6 ≤ d → let p = 10 ^ (d - 5) in units_of w v d ≡ day * w + (v + p / 2) / p
units_half w v d h =
    let p = 10 ^ (d - 5) in
    let q = unit_ten d h in
    let twice : 2 * v + p ≡ 2 * (v + p / 2) = omega arith in
    units_split w v d ∙ ap (λ (x : ℕ). day * w + x) (ap (λ (x : ℕ). x / (2 * p)) twice ∙ mul-div-mul_left (v + p / 2) p (zero-lt-suc 1))

-- so the first six are enough: five more of the last of them, and it is cut off
pub units_six : (w v d : ℕ) → 6 ≤ d → units_of w v d ≡ day * w + (v / 10 ^ (d - 6) + 5) / 10
units_six w v d h =
    let q = 10 ^ (d - 6) in
    let half : q * 10 / 2 ≡ 5 * q = omega arith in
    units_half w v d h
    ∙ ap (λ (x : ℕ). day * w + (v + x / 2) / x) (unit_ten d h)
    ∙ ap (λ (x : ℕ). day * w + (v + x) / (q * 10)) half
    ∙ ap (λ (x : ℕ). day * w + x) (sym (div-div-eq-div-mul (v + 5 * q) q 10) ∙ ap (λ (x : ℕ). x / 10) (add-mul-div_right v 5 (ten_some (d - 6))))
