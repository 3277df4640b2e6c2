-- Laws of spelled numbers: they are whole parts and decimals, and spell the number.
use Prim.Native.Nat.{ℕ, zero, suc, max, ◌+◌, ◌*◌, ◌/◌, ◌%◌, ◌^◌, ◌<◌, ◌≤◌}
use mathlib.Core.Path.{◌≡◌, refl, sym, ap, ◌∙◌}
use mathlib.Core.Bool.{Bool, true, false, cond}
use mathlib.Core.List.{List, [], ◌∷◌, ◌++◌}
use lib.ListN.{length, get_or, length-append, get_or-append}
use lib.Dec.{leb, ltb}
use native.Mathlib.Omega.{arith}
use native.Mathlib.Nat.{pow-succ', pow-le-pow_right, one-le-pow, zero-lt-suc}
use borrow.Author.Tests.{leb-true, leb-false, ltb-true, ltb-false, lt-ltb}
use Rattle.bits.proofs.TestLaws.{by_test}
use Rattle.digits.specs.Digits.{zero_digit, Digits, none, digit, value_from, value_of, Whole, Decimals}
use Rattle.digits.proofs.RunLaws.{value_behind}
use Rattle.print.specs.Print.{digits_of, places_in, places, whole_of}

-- ---- the last k digits

digits_append : {a b : List ℕ} → Digits a → Digits b → Digits (a ++ b)
digits_append none d = d
digits_append (digit h k c) d = digit h k (digits_append c d)

digits_digits : (k n : ℕ) → Digits (digits_of k n)
unfolding digits_of
digits_digits zero n = none
digits_digits (suc k) n = digits_append (digits_digits k (n / 10)) (digit (omega arith) (omega arith) none)

pub digits_length : (k n : ℕ) → length (digits_of k n) ≡ k
unfolding digits_of
digits_length zero n = refl
digits_length (suc k) n =
    let e = length-append (digits_of k (n / 10)) ((zero_digit + n % 10) ∷ []) in
    let i = digits_length k (n / 10) in
    omega arith

-- k digits spell a number below 10 ^ k
pub digits_value : (k n : ℕ) → n < 10 ^ k → value_of (digits_of k n) ≡ n
unfolding value_from digits_of
digits_value zero n h = omega arith
digits_value (suc k) n h =
    let p : 10 ^ suc k ≡ 10 * 10 ^ k = pow-succ' 10 k in
    let i = digits_value k (n / 10) (omega arith) in
    let v = value_behind (digits_of k (n / 10)) ((zero_digit + n % 10) ∷ []) 0 in
    omega arith

-- k digits are k decimals, and so from fewer to more of them
pub digits_decimals : {low high : ℕ} (k n : ℕ) → low ≤ k → k ≤ high → Decimals low high (digits_of k n)
digits_decimals k n h l = let e = digits_length k n in record { digits = digits_digits k n; enough = omega arith; few = omega arith }

-- ---- how many digits

pub places_some : (f n : ℕ) → 1 ≤ places_in f n
unfolding places_in
places_some zero n = omega arith
places_some (suc f) n = by (ltb n 10)
  where
    by : (t : Bool) → 1 ≤ cond t 1 (suc (places_in f (n / 10)))
    by true = omega arith
    by false = omega arith

places_hold : (f n : ℕ) → n < 10 ^ suc f → n < 10 ^ places_in f n
unfolding places_in
places_hold zero n h = h
places_hold (suc f) n h = by (λ k. places_hold f (n / 10) k) (ltb n 10) refl
  where
    by : (n / 10 < 10 ^ suc f → n / 10 < 10 ^ places_in f (n / 10)) → (t : Bool) → ltb n 10 ≡ t → n < 10 ^ cond t 1 (suc (places_in f (n / 10)))
    by ih true e = ltb-true _ _ e
    by ih false e =
        let p : 10 ^ suc (suc f) ≡ 10 * 10 ^ suc f = pow-succ' 10 (suc f) in
        let q : 10 ^ suc (places_in f (n / 10)) ≡ 10 * 10 ^ places_in f (n / 10) = pow-succ' 10 (places_in f (n / 10)) in
        let i = ih (omega arith) in
        omega arith

-- a number below 10 ^ (k + 1) takes at most k + 1 digits
pub places_few : (k f n : ℕ) → n < 10 ^ suc k → places_in f n ≤ suc k
unfolding places_in
places_few k zero n h = omega arith
places_few zero (suc f) n h = let e = lt-ltb n 10 h in rw e (omega arith)
places_few (suc k) (suc f) n h = by (λ l. places_few k f (n / 10) l) (ltb n 10)
  where
    by : (n / 10 < 10 ^ suc k → places_in f (n / 10) ≤ suc k) → (t : Bool) → cond t 1 (suc (places_in f (n / 10))) ≤ suc (suc k)
    by ih true = omega arith
    by ih false =
        let p : 10 ^ suc (suc k) ≡ 10 * 10 ^ suc k = pow-succ' 10 (suc k) in
        let i = ih (omega arith) in
        omega arith

-- from 10 ^ k on it takes more than k
places_many : (k f n : ℕ) → 10 ^ k ≤ n → k ≤ f → suc k ≤ places_in f n
unfolding places_in
places_many zero f n h l = places_some f n
places_many (suc k) zero n h l = absurd (omega arith)
places_many (suc k) (suc f) n h l = by (λ x y. places_many k f (n / 10) x y) (ltb n 10) refl
  where
    by : (10 ^ k ≤ n / 10 → k ≤ f → suc k ≤ places_in f (n / 10)) → (t : Bool) → ltb n 10 ≡ t → suc (suc k) ≤ cond t 1 (suc (places_in f (n / 10)))
    by ih true e =
        let p : 10 ^ suc k ≡ 10 * 10 ^ k = pow-succ' 10 k in
        let q : 1 ≤ 10 ^ k = one-le-pow k 10 (zero-lt-suc 9) in
        let m = ltb-true n 10 e in
        absurd (omega arith)
    by ih false e =
        let p : 10 ^ suc k ≡ 10 * 10 ^ k = pow-succ' 10 k in
        let i = ih (omega arith) (omega arith) in
        omega arith

-- so k digits are the number's, once it is below 10 ^ k and took as many
pub places_are : (k n : ℕ) → 1 ≤ k → n < 10 ^ k → k ≤ places n → k ≡ places n
places_are zero n h l m = absurd (omega arith)
places_are (suc k) n h l m = let f = places_few k 9 n l in omega arith

-- and it takes more, at most ten, where it is not
pub places-more : (k n : ℕ) → n < 10 ^ 10 → 10 ^ k ≤ n → (k + 1 ≤ places n) × (k ≤ 9)
places-more k n h l =
    by_test (leb k 9)
    (λ e.
    let f = leb-true k 9 e in
    let m = places_many k 9 n l f in
    (omega arith, f))
    (λ e. let p : 10 ^ 10 ≤ 10 ^ k = pow-le-pow_right (zero-lt-suc 9) (leb-false k 9 e) in absurd (omega arith))

-- the power of ten at or below a number tells how many it takes; 0 takes as many as 1
pub places_log : (k n : ℕ) → n < 10 ^ 10 → 10 ^ k ≤ max n 1 → max n 1 < 10 * 10 ^ k → k + 1 ≡ places n
places_log k n h l m =
    let p : 10 ^ suc k ≡ 10 * 10 ^ k = pow-succ' 10 k in
    let below : n < 10 ^ suc k = omega arith in
    let many : suc k ≤ places n =
    by_test (ltb 0 n)
    (λ e. let some = ltb-true 0 n e in let q = (places-more k n h (omega arith)).0 in omega arith)
    (λ e. let none = ltb-false 0 n e in by k (places_some 9 n) (omega arith)) in
    let q = places_are (suc k) n (omega arith) below many in
    omega arith
  where
    by : (k : ℕ) → 1 ≤ places n → 10 ^ k ≤ 1 → suc k ≤ places n
    by zero s l = s
    by (suc k) s l =
        let p : 10 ^ suc k ≡ 10 * 10 ^ k = pow-succ' 10 k in
        let q : 1 ≤ 10 ^ k = one-le-pow k 10 (zero-lt-suc 9) in
        absurd (omega arith)

-- ---- whole parts

-- the first of the fewest digits of a number above 0 is not 0
lead_of : (f n : ℕ) → n < 10 ^ suc f → 1 ≤ n → get_or (digits_of (places_in f n) n) 0 0 ≡ zero_digit → ⊥
unfolding places_in digits_of
lead_of zero n h k e = omega arith
lead_of (suc f) n h k e₀ = by (λ x y z. lead_of f (n / 10) x y z) (ltb n 10) refl e₀
  where
    by : (n / 10 < 10 ^ suc f → 1 ≤ n / 10 → get_or (digits_of (places_in f (n / 10)) (n / 10)) 0 0 ≡ zero_digit → ⊥)
        → (t : Bool) → ltb n 10 ≡ t → get_or (digits_of (cond t 1 (suc (places_in f (n / 10)))) n) 0 0 ≡ zero_digit → ⊥
    by ih true u e = let l = ltb-true n 10 u in omega arith
    by ih false u e =
        let l = ltb-false n 10 u in
        let p : 10 ^ suc (suc f) ≡ 10 * 10 ^ suc f = pow-succ' 10 (suc f) in
        let s = places_some f (n / 10) in
        let d = digits_length (places_in f (n / 10)) (n / 10) in
        let g = get_or-append (digits_of (places_in f (n / 10)) (n / 10)) ((zero_digit + n % 10) ∷ []) 0 0 (omega arith) in
        ih (omega arith) (omega arith) (sym g ∙ e)

module _ (n : ℕ) (h : n < 10 ^ 10) where
  -- the digits of a number are a whole part
  pub whole_digits : Whole (whole_of n)
  unfolding places_in
  whole_digits =
      let d = digits_length (places n) n in
      let s = places_some 9 n in
      record {
        digits = digits_digits (places n) n;
        some = omega arith;
        lead = λ e. by_test (ltb 0 n) (λ u. absurd (lead_of 9 n h (ltb-true 0 n u) e))
            (λ u. let z : n ≡ 0 = omega (arith, ltb-false 0 n u) in d ∙ ap places z);
      }

  -- and spell it
  pub whole_value : value_of (whole_of n) ≡ n
  whole_value = digits_value (places n) n (places_hold 9 n h)
