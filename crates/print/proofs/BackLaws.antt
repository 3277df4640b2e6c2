-- Digits read and spelled again are the same digits: so many of them, or as many as their number takes where they are a whole part.
use Prim.Native.Nat.{ℕ, suc, ◌+◌, ◌-◌, ◌*◌, ◌/◌, ◌%◌, ◌^◌, ◌<◌, ◌≤◌}
use mathlib.Core.Path.{◌≡◌, sym, ap, ◌∙◌}
use mathlib.Core.List.{List, [], ◌∷◌, ◌++◌, append-nil, append_assoc}
use lib.ListN.{length}
use native.Mathlib.Nat.{mul-le-mul_right}
use native.Mathlib.Numerals.{lt_of_le_of_ne}
use native.Mathlib.Omega.{arith}
use Rattle.digits.specs.Digits.{zero_digit, Digits, none, digit, value_from, value_of, Whole}
use Rattle.digits.proofs.RunLaws.{value_lt, value_least}
use Rattle.print.specs.Print.{digits_of, places, whole_of}
use Rattle.print.proofs.DigitLaws.{places_some, places-more, places_are}

-- digits behind a number, and k digits of that number in front of them
digits_behind : {s : List ℕ} (k a : ℕ) → Digits s → digits_of (length s + k) (value_from a s) ≡ digits_of k a ++ s
unfolding value_from digits_of
digits_behind k a none = let z : 0 + k ≡ k = omega arith in ap (λ (n : ℕ). digits_of n a) z ∙ sym (append-nil (digits_of k a))
digits_behind k a (digit {b} {s} l h d) =
    let n = 10 * a + (b - zero_digit) in
    let z : suc (length s) + k ≡ length s + suc k = omega arith in
    let e : n / 10 ≡ a = omega arith in
    let f : zero_digit + n % 10 ≡ b = omega arith in
    ap (λ (m : ℕ). digits_of m (value_from n s)) z
    ∙ digits_behind (suc k) n d
    ∙ (λ i. (digits_of k (e i) ++ f i ∷ []) ++ s)
    ∙ append_assoc (digits_of k a) (b ∷ []) s

-- the digits of the number that so many digits spell are those digits
pub digits_back : {s : List ℕ} → Digits s → digits_of (length s) (value_of s) ≡ s
unfolding digits_of
digits_back {s} d = let z : length s ≡ length s + 0 = omega arith in ap (λ (n : ℕ). digits_of n (value_of s)) z ∙ digits_behind 0 0 d

-- a whole part of more digits than one does not begin with 0
whole_least : (b : ℕ) (s : List ℕ) → Whole (b ∷ s) → 1 ≤ length s → 10 ^ length s ≤ value_of (b ∷ s)
unfolding value_from
whole_least b s w n = by w.digits
  where
    by : Digits (b ∷ s) → 10 ^ length s ≤ value_from (10 * 0 + (b - zero_digit)) s
    by (digit l k d) =
        let m : zero_digit < b = lt_of_le_of_ne l (λ e. let z = w.lead (sym e) in omega arith) in
        let x : 1 ≤ 10 * 0 + (b - zero_digit) = omega arith in
        let y : 1 * 10 ^ length s ≤ (10 * 0 + (b - zero_digit)) * 10 ^ length s = mul-le-mul_right (10 ^ length s) x in
        let v = value_least s (10 * 0 + (b - zero_digit)) in
        omega (arith, y, v)

-- so it has as many digits as its number takes
whole-places : (s : List ℕ) → Whole s → value_of s < 10 ^ 10 → length s ≡ places (value_of s)
whole-places [] w h = let l = w.some in absurd (omega arith)
whole-places (b ∷ []) w h = let v = value_lt 0 w.digits in places_are 1 _ (omega arith) (omega arith) (places_some 9 _)
whole-places (b ∷ c ∷ s) w h =
    let v = value_lt 0 w.digits in
    let m = (places-more (length (c ∷ s)) _ h (whole_least b (c ∷ s) w (omega arith))).0 in
    places_are _ _ (omega arith) (omega arith) (omega arith)

-- and so its number is spelled as that whole part
pub whole_back : {s : List ℕ} → Whole s → value_of s < 10 ^ 10 → whole_of (value_of s) ≡ s
whole_back {s} w h = ap (λ (n : ℕ). digits_of n (value_of s)) (sym (whole-places s w h)) ∙ digits_back w.digits
