-- What callers cite of whole parts and decimals: what was spelled is read, and what is read was spelled.
use Prim.Native.Nat.{ℕ, ◌<◌, ◌≤◌}
use mathlib.Core.Path.{◌≡◌, refl, ap, ◌∙◌}
use mathlib.Core.Bool.{Bool, true, false, cond, ◌&&◌, and-eq-true_iff}
use mathlib.Core.List.{List, [], ◌∷◌, ◌++◌}
use lib.ListN.{length, get_or, drop}
use lib.Dec.{eqb, leb}
use native.Mathlib.Omega.{arith}
use borrow.Author.Tests.{eqb-true, eqb-false, eq-eqb, leb-true, le-leb}
use Rattle.digits.specs.Digits.{zero_digit, Digits, value_of, Whole, Decimals}
use Rattle.digits.specs.Reading.{is_digit, run, after, starts, most, sat, Part, part, bad, closed, is_whole, is_decimals, whole_at, decimals_at}
use Rattle.digits.proofs.RunLaws.{run-after, run_digits, run_of, after_of, value_most}

-- ---- the reader's tests are the grammar's

whole_test : {ds : List ℕ} → Whole ds → is_whole ds ≡ true
whole_test {ds} w = by (eqb (get_or ds 0 0) zero_digit) refl
  where
    by : (t : Bool) → eqb (get_or ds 0 0) zero_digit ≡ t → cond t (eqb (length ds) 1) (leb 1 (length ds)) ≡ true
    by true e = eq-eqb _ _ (w.lead (eqb-true _ _ e))
    by false e = le-leb _ _ w.some

test_whole : (ds : List ℕ) → Digits ds → is_whole ds ≡ true → Whole ds
test_whole ds d e₀ = by (eqb (get_or ds 0 0) zero_digit) refl e₀
  where
    by : (t : Bool) → eqb (get_or ds 0 0) zero_digit ≡ t → cond t (eqb (length ds) 1) (leb 1 (length ds)) ≡ true → Whole ds
    by true e f = let n : length ds ≡ 1 = eqb-true _ _ f in record { digits = d; some = omega arith; lead = λ z. n }
    by false e f = record { digits = d; some = leb-true _ _ f; lead = λ z. absurd (eqb-false _ _ e z) }

decimals_test : {ds : List ℕ} (low high : ℕ) → Decimals low high ds → is_decimals low high ds ≡ true
decimals_test {ds} low high d = (and-eq-true_iff (leb low (length ds)) _).1 (le-leb _ _ d.enough, le-leb _ _ d.few)

test_decimals : (low high : ℕ) (ds : List ℕ) → Digits ds → is_decimals low high ds ≡ true → Decimals low high ds
test_decimals low high ds d e =
    let t = (and-eq-true_iff (leb low (length ds)) _).0 e in
    record { digits = d; enough = leb-true _ _ t.0; few = leb-true _ _ t.1 }

-- ---- spelled, then read

module _ {ds : List ℕ} (end : ℕ) (s : List ℕ) (n : is_digit end ≡ false) where
  closed_of : (f : List ℕ → Bool) → Digits ds → f ds ≡ true → value_of ds < most
      → closed (f (run (ds ++ end ∷ s))) end (ds ++ end ∷ s) ≡ part (value_of ds) (length ds) s
  unfolding closed
  closed_of f d e h =
      let v : sat (value_of ds) ≡ value_of ds = omega arith in
      rw (run_of end s n d, after_of end s n d, e, eq-eqb end end refl, v)

  -- a whole part below the bound, and the byte that ends it, are read as its value
  pub whole_reads : Whole ds → value_of ds < most → whole_at end (ds ++ end ∷ s) ≡ part (value_of ds) (length ds) s
  unfolding whole_at
  whole_reads w h = closed_of is_whole w.digits (whole_test w) h

  -- and so are decimals, twelve at most
  pub decimals_reads : (low high : ℕ) → high ≤ 12 → Decimals low high ds → decimals_at low high end (ds ++ end ∷ s) ≡ part (value_of ds) (length ds) s
  unfolding decimals_at
  decimals_reads low high h d =
      let k = d.few in
      closed_of (is_decimals low high) d.digits (decimals_test low high d) (value_most d.digits (omega arith))

-- ---- read, so spelled

-- a part that was read, as it was spelled
pub record Spelled (P : List ℕ → Type 0) (end : ℕ) (s : List ℕ) (p : Part) : Type 0 where
  pub ds : List ℕ
  pub is : P ds
  pub text : s ≡ ds ++ end ∷ p.rest
  pub value : p.value ≡ value_of ds
  pub count : p.count ≡ length ds

-- a text that begins with a byte
pub starts_is : (c : ℕ) (s : List ℕ) → starts c s ≡ true → s ≡ c ∷ drop 1 s
starts_is c [] e = absurd (let z : ◌≡◌ {A = ℕ} 0 1 = cc in omega arith)
starts_is c (b ∷ s) e = ap (λ (n : ℕ). n ∷ s) (eqb-true b c e)

of_closed : (P : List ℕ → Type 0) (f : List ℕ → Bool) → ((ds : List ℕ) → Digits ds → f ds ≡ true → P ds) → (end : ℕ) (s : List ℕ)
    → (closed (f (run s)) end s).value < most → Spelled P end s (closed (f (run s)) end s)
unfolding closed
of_closed P f is end s h = by (f (run s) && starts end (after s)) refl h
  where
    by : (t : Bool) → (f (run s) && starts end (after s)) ≡ t
        → (cond t (part (sat (value_of (run s))) (length (run s)) (drop 1 (after s))) bad).value < most
        → Spelled P end s (cond t (part (sat (value_of (run s))) (length (run s)) (drop 1 (after s))) bad)
    by true e k =
        let t = (and-eq-true_iff (f (run s)) _).0 e in
        record {
          ds = run s;
          is = is (run s) (run_digits s) t.0;
          text = run-after s ∙ ap (λ (l : List ℕ). run s ++ l) (starts_is end (after s) t.1);
          value = omega arith;
          count = refl;
        }
    by false e k = absurd (omega arith)

-- a value below the bound was spelled as a whole part
pub read_whole : (end : ℕ) (s : List ℕ) → (whole_at end s).value < most → Spelled Whole end s (whole_at end s)
unfolding whole_at
read_whole end s h = of_closed Whole is_whole test_whole end s h

-- or as decimals
pub read_decimals : (low high end : ℕ) (s : List ℕ) → (decimals_at low high end s).value < most → Spelled (Decimals low high) end s (decimals_at low high end s)
unfolding decimals_at
read_decimals low high end s h = of_closed (Decimals low high) (is_decimals low high) (test_decimals low high) end s h

-- ---- bounds

closed_small : (ok : Bool) (end : ℕ) (s : List ℕ) → (closed ok end s).value ≤ most
unfolding closed
closed_small ok end s = by (ok && starts end (after s))
  where
    by : (t : Bool) → (cond t (part (sat (value_of (run s))) (length (run s)) (drop 1 (after s))) bad).value ≤ most
    by true = omega arith
    by false = omega arith

pub whole_small : (end : ℕ) (s : List ℕ) → (whole_at end s).value ≤ most
unfolding whole_at
whole_small end s = closed_small _ end s

-- decimals as they are read: a bounded value, at most `high` digits, and no digit where at most twelve reach the bound
pub record Few (high : ℕ) (p : Part) : Type 0 where
  pub value : p.value ≤ most
  pub count : p.count ≤ high
  pub none : high ≤ 12 → most ≤ p.value → p.count ≡ 0

pub decimals_few : (low high end : ℕ) (s : List ℕ) → Few high (decimals_at low high end s)
unfolding decimals_at closed
decimals_few low high end s = by (is_decimals low high (run s)) (starts end (after s)) refl
  where
    by : (t u : Bool) → is_decimals low high (run s) ≡ t → Few high (cond (t && u) (part (sat (value_of (run s))) (length (run s)) (drop 1 (after s))) bad)
    by true true e =
        let d = test_decimals low high (run s) (run_digits s) e in
        let k = d.few in
        record {
          value = omega arith;
          count = k;
          none = λ h l. let v = value_most d.digits (omega arith) in omega arith;
        }
    by true false e = record { value = omega arith; count = omega arith; none = λ h l. refl }
    by false u e = record { value = omega arith; count = omega arith; none = λ h l. refl }
