-- Laws of runs of digits and of their values.
use Prim.Native.Nat.{ℕ, suc, ◌+◌, ◌-◌, ◌*◌, ◌^◌, ◌<◌, ◌≤◌}
use mathlib.Core.Path.{◌≡◌, refl, sym, ap, ◌∙◌, subst}
use mathlib.Core.Bool.{Bool, true, false, cond, and-eq-true_iff}
use mathlib.Core.List.{List, [], ◌∷◌, ◌++◌}
use lib.ListN.{length, get_or, drop}
use lib.Dec.{leb}
use native.Mathlib.Omega.{arith}
use native.Mathlib.Nat.{add-mul, mul-le-mul_right, mul_assoc, mul_left_comm, pow-succ', pow-le-pow_right, zero-lt-suc}
use borrow.Author.Tests.{le-leb, leb-true}
use Rattle.digits.specs.Digits.{Digits, none, digit, zero_digit, nine_digit, value_from, value_of}
use Rattle.digits.specs.Reading.{is_digit, run, after, most, sat}

-- ---- values

-- a bounded number in front changes no bounded value
pub sat_from : (s : List ℕ) (a : ℕ) → sat (value_from (sat a) s) ≡ sat (value_from a s)
unfolding value_from
sat_from [] a = omega arith
sat_from (b ∷ s) a =
    let e : sat (10 * sat a + (b - zero_digit)) ≡ sat (10 * a + (b - zero_digit)) = omega arith in
    sym (sat_from s (10 * sat a + (b - zero_digit))) ∙ ap (λ (n : ℕ). sat (value_from n s)) e ∙ sat_from s (10 * a + (b - zero_digit))

-- n digits spell less than 10 ^ n
pub value_lt : {s : List ℕ} (a : ℕ) → Digits s → value_from a s < suc a * 10 ^ length s
unfolding value_from
value_lt a none = omega arith
value_lt a (digit {b} {s} h k d) =
    let i = value_lt (10 * a + (b - zero_digit)) d in
    let x : suc (10 * a + (b - zero_digit)) ≤ suc a * 10 = omega arith in
    let m = mul-le-mul_right (10 ^ length s) x in
    let p : 10 ^ suc (length s) ≡ 10 * 10 ^ length s = pow-succ' 10 (length s) in
    let e : suc a * 10 * 10 ^ length s ≡ suc a * 10 ^ suc (length s) = mul_assoc (suc a) 10 (10 ^ length s) ∙ ap (λ (n : ℕ). suc a * n) (sym p) in
    subst (λ (n : ℕ). value_from (10 * a + (b - zero_digit)) s < n) e (omega arith)

-- behind a number they move it by their places, and add what they spell
pub value_from_lem : (s : List ℕ) (a : ℕ) → value_from a s ≡ a * 10 ^ length s + value_of s
unfolding value_from
value_from_lem [] a = omega arith
value_from_lem (b ∷ s) a =
    let t = 10 ^ length s in
    let x = b - zero_digit in
    let y : 10 * 0 + x ≡ x = omega arith in
    let i = value_from_lem s (10 * a + x) in
    let j = value_from_lem s (10 * 0 + x) ∙ ap (λ (n : ℕ). n * t + value_of s) y in
    let p : a * 10 ^ suc (length s) ≡ 10 * a * t = ap (λ (n : ℕ). a * n) (pow-succ' 10 (length s)) ∙ mul_left_comm a 10 t ∙ sym (mul_assoc 10 a t) in
    let e = add-mul (10 * a) x t in
    omega arith

-- so they spell no less than it, moved by their places
pub value_least : (s : List ℕ) (a : ℕ) → a * 10 ^ length s ≤ value_from a s
value_least s a = let e = value_from_lem s a in omega arith

pub value_behind : (s t : List ℕ) (a : ℕ) → value_from a (s ++ t) ≡ value_from (value_from a s) t
unfolding value_from
value_behind [] t a = refl
value_behind (b ∷ s) t a = value_behind s t (10 * a + (b - zero_digit))

-- digits together
pub value_append : (s t : List ℕ) → value_of (s ++ t) ≡ value_of s * 10 ^ length t + value_of t
value_append s t = value_behind s t 0 ∙ value_from_lem t (value_of s)

-- twelve digits or fewer are below the bound
pub value_most : {s : List ℕ} → Digits s → length s ≤ 12 → value_of s < most
value_most {s} d h =
    let v = value_lt 0 d in
    let p : 10 ^ length s ≤ 10 ^ 12 = pow-le-pow_right (zero-lt-suc 9) h in
    omega arith

-- ---- runs

digit_is : (b : ℕ) → zero_digit ≤ b → b ≤ nine_digit → is_digit b ≡ true
digit_is b h k = (and-eq-true_iff (leb zero_digit b) _).1 (le-leb _ _ h, le-leb _ _ k)

pub is_digit_lem : (b : ℕ) → is_digit b ≡ true → (zero_digit ≤ b) × (b ≤ nine_digit)
is_digit_lem b e = let t = (and-eq-true_iff (leb zero_digit b) _).0 e in (leb-true _ _ t.0, leb-true _ _ t.1)

-- a text is its run and what follows
pub run-after : (s : List ℕ) → s ≡ run s ++ after s
unfolding run after
run-after [] = refl
run-after (b ∷ s) = by (run-after s) (is_digit b)
  where
    by : s ≡ run s ++ after s → (t : Bool) → b ∷ s ≡ cond t (b ∷ run s) [] ++ cond t (after s) (b ∷ s)
    by ih true = ap (λ (l : List ℕ). b ∷ l) ih
    by ih false = refl

pub run_digits : (s : List ℕ) → Digits (run s)
unfolding run
run_digits [] = none
run_digits (b ∷ s) = by (run_digits s) (is_digit b) refl
  where
    by : Digits (run s) → (t : Bool) → is_digit b ≡ t → Digits (cond t (b ∷ run s) [])
    by ih true e = let d = is_digit_lem b e in digit d.0 d.1 ih
    by ih false e = none

-- the first digit of a run is the text's first byte
pub run-first : (s : List ℕ) → 1 ≤ length (run s) → get_or (run s) 0 0 ≡ get_or s 0 0
unfolding run
run-first [] h = refl
run-first (b ∷ s) h = by (is_digit b) h
  where
    by : (t : Bool) → 1 ≤ length (cond t (b ∷ run s) []) → get_or (cond t (b ∷ run s) []) 0 0 ≡ b
    by true k = refl
    by false k = absurd (omega arith)

-- digits in front of another byte are the run, and that byte is the first behind it
module _ (c : ℕ) (s : List ℕ) (e : is_digit c ≡ false) where
  pub run_of : {ds : List ℕ} → Digits ds → run (ds ++ c ∷ s) ≡ ds
  unfolding run
  run_of none = rw e
  run_of (digit {b} h k d) = rw (digit_is b h k) (ap (λ (l : List ℕ). b ∷ l) (run_of d))

  pub after_of : {ds : List ℕ} → Digits ds → after (ds ++ c ∷ s) ≡ c ∷ s
  unfolding after
  after_of none = rw e
  after_of (digit {b} h k d) = rw (digit_is b h k) (after_of d)

-- so digits up to the same byte are the same, and what is behind it too
pub split_same : {ds es : List ℕ} (c : ℕ) (s t : List ℕ) → is_digit c ≡ false → Digits ds → Digits es → ds ++ c ∷ s ≡ es ++ c ∷ t → (ds ≡ es) × (s ≡ t)
split_same c s t e d f h = (
  sym (run_of c s e d) ∙ ap run h ∙ run_of c t e f,
  ap (λ (l : List ℕ). drop 1 l) (sym (after_of c s e d) ∙ ap after h ∙ after_of c t e f),
)
