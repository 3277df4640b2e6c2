-- A good line with five date decimals is the line of its record: each of its parts is what its number is spelled as.
use Prim.Native.Nat.{ℕ, zero, suc, ◌/◌, ◌%◌, ◌^◌, ◌<◌, ◌≤◌}
use mathlib.Core.Path.{◌≡◌, refl, sym, ap, ◌∙◌}
use mathlib.Core.Bool.{Bool, true, false}
use mathlib.Core.List.{List, ◌++◌}
use lib.ListN.{length}
use lib.IntN.{nat_abs}
use native.Mathlib.Omega.{arith}
use borrow.Author.Tests.{le-ltb}
use Rattle.digits.specs.Digits.{Digits, value_of, Whole, Decimals}
use Rattle.digits.proofs.RunLaws.{value_lt}
use Rattle.line.specs.Date.{day}
use Rattle.line.proofs.DateLaws.{units_five}
use Rattle.line.specs.Grammar.{Parts, spelled, thousandths, magnitude_of, signed_by, meant, Good}
use Rattle.print.specs.Print.{digits_of, whole_of}
use Rattle.print.proofs.BackLaws.{digits_back, whole_back}
use Rattle.listing.specs.Listing.{is_negative, parts_of, line_of}
use Rattle.listing.proofs.TripLaws.{size_small, line_append}

-- ---- a sign and a size as a magnitude

size_is : (b : Bool) (n : ℕ) → nat_abs (signed_by b n) ≡ n
size_is true zero = refl
size_is true (suc n) = refl
size_is false n = refl

sign_is : (b : Bool) (n : ℕ) → (b ≡ true → 1 ≤ n) → is_negative (signed_by b n) ≡ b
sign_is true zero h = let l = h refl in absurd (omega arith)
sign_is true (suc n) h = refl
sign_is false n h = le-ltb n 0 (omega arith)

-- ---- the parts of a number

whole_same : {w : List ℕ} (n : ℕ) → Whole w → n ≡ value_of w → n < 10 ^ 10 → whole_of n ≡ w
whole_same n h e l = ap whole_of e ∙ whole_back h (omega arith)

decimals_lt : {d : List ℕ} (k : ℕ) → Digits d → length d ≡ k → value_of d < 10 ^ k
decimals_lt {d} k h e = let v = value_lt 0 h in let p : 10 ^ length d ≡ 10 ^ k = ap (λ (m : ℕ). 10 ^ m) e in omega arith

decimals_same : {d : List ℕ} (k n : ℕ) → Digits d → length d ≡ k → n ≡ value_of d → digits_of k n ≡ d
decimals_same k n h e f = ap (λ (m : ℕ). digits_of m n) (sym e) ∙ ap (digits_of _) f ∙ digits_back h

module _ {w d : List ℕ} (n : ℕ) (h : Whole w) (k : Decimals 3 3 d) (e : n ≡ thousandths (value_of w) (value_of d)) where
  three : length d ≡ 3
  three = omega (arith, k.enough, k.few)

  thousands_same : n < 100000 → whole_of (n / 1000) ≡ w
  thousands_same l = let v = decimals_lt 3 k.digits three in whole_same (n / 1000) h (omega arith) (omega arith)

  thousandths_same : digits_of 3 (n % 1000) ≡ d
  thousandths_same = let v = decimals_lt 3 k.digits three in decimals_same 3 (n % 1000) k.digits three (omega arith)

-- ---- the parts of a line

module _ (p : Parts) (g : Good p) (five : length p.day_decimals ≡ 5) where
  pub parts_back : parts_of (meant p) ≡ p
  unfolding parts_of meant
  parts_back =
      let f = g.fits in
      let h₁ = f.star in
      let h₂ = f.date in
      let h₃ = f.limit in
      let h₄ = size_small (signed_by p.negative (magnitude_of p)) f.magnitude in
      let h₅ = f.error in
      let h₆ = f.filter in
      let date = (meant p).date in
      let error = (meant p).error in
      let size = nat_abs (meant p).magnitude in
      let s = size_is p.negative (magnitude_of p) in
      let u = units_five (value_of p.days) (value_of p.day_decimals) (length p.day_decimals) (omega arith) in
      let v = decimals_lt 5 g.day_decimals.digits five in
      let e₁ = whole_same (meant p).star g.star refl (omega arith) in
      let e₂ = whole_same (date / day) g.days (omega arith) (omega arith) in
      let e₃ = decimals_same 5 (date % day) g.day_decimals.digits five (omega arith) in
      let e₄ = whole_same (meant p).limit g.limit refl (omega arith) in
      let e₅ = sign_is p.negative (magnitude_of p) g.not_minus_zero in
      let e₆ = thousands_same size g.magnitude g.magnitude_decimals s (omega arith) in
      let e₇ = thousandths_same size g.magnitude g.magnitude_decimals s in
      let e₈ = thousands_same error g.error g.error_decimals refl (omega arith) in
      let e₉ = thousandths_same error g.error g.error_decimals refl in
      let e₀ = whole_same (meant p).filter g.filter refl (omega arith) in
      λ i. record {
        star = e₁ i;
        days = e₂ i;
        day_decimals = e₃ i;
        limit = e₄ i;
        negative = e₅ i;
        magnitude = e₆ i;
        magnitude_decimals = e₇ i;
        error = e₈ i;
        error_decimals = e₉ i;
        filter = e₀ i;
      }

  -- so the line is its record's
  pub line_back : (s : List ℕ) → spelled p s ≡ line_of (meant p) ++ s
  line_back s = ap (λ (q : Parts). spelled q s) (sym parts_back) ∙ sym (line_append (meant p) s)
