-- The parts of a record's line are good and name the record; so the line is read, also with a text behind it.
use Prim.Native.Nat.{ℕ, ◌/◌, ◌%◌, ◌<◌, ◌≤◌}
use mathlib.Core.Path.{◌≡◌, refl, sym, ap, ◌∙◌, subst}
use mathlib.Core.Bool.{true}
use mathlib.Core.List.{List, ◌++◌}
use lib.ListN.{length}
use lib.IntN.{ℤ, pos, negsuc, nat_abs}
use lib.Signed.{mag}
use native.Mathlib.Omega.{arith}
use borrow.Author.Tests.{le-ltb, ltb-true}
use Rattle.record.specs.declared.Record.{Record}
use Rattle.record.specs.Record.{depth, Fits}
use Rattle.digits.specs.Digits.{value_of}
use Rattle.line.specs.Date.{day, units_of}
use Rattle.line.proofs.DateLaws.{units_five}
use Rattle.line.specs.Grammar.{spelled, thousandths, signed_by, meant, Good}
use Rattle.line.proofs.GrammarLaws.{spelled-append}
use Rattle.line.specs.Reading.{begins, first_of, behind}
use Rattle.line.proofs.SpelledLaws.{begins-spelled, first-spelled, behind-spelled}
use Rattle.print.specs.Print.{digits_of, whole_of}
use Rattle.print.proofs.DigitLaws.{digits_length, digits_value, digits_decimals, whole_digits, whole_value}
use Rattle.listing.specs.Listing.{is_negative, parts_of, line_of}

-- ---- a magnitude as a sign and a size

pub size_small : (z : ℤ) → mag z < depth → nat_abs z ≤ depth
size_small (pos n) h = omega arith
size_small (negsuc n) h = omega arith

signed-size : (z : ℤ) → signed_by (is_negative z) (nat_abs z) ≡ z
signed-size (pos n) = let h : 0 ≤ n = omega arith in rw (le-ltb n 0 h)
signed-size (negsuc n) = refl

minus_some : (z : ℤ) → is_negative z ≡ true → 1 ≤ nat_abs z
minus_some (pos n) e = let h = ltb-true n 0 e in absurd (omega arith)
minus_some (negsuc n) e = omega arith

-- ---- the parts of a record's line

-- thousandths, apart and together
thousandths_are : (n : ℕ) → n < 100000 → thousandths (value_of (whole_of (n / 1000))) (value_of (digits_of 3 (n % 1000))) ≡ n
thousandths_are n h =
    let a = whole_value (n / 1000) (omega arith) in
    let b = digits_value 3 (n % 1000) (omega arith) in
    omega arith

module _ (r : Record) (f : Fits r) where
  star_is : value_of (whole_of r.star) ≡ r.star
  star_is = let h = f.star in whole_value r.star (omega arith)

  date_is : units_of (value_of (whole_of (r.date / day))) (value_of (digits_of 5 (r.date % day))) (length (digits_of 5 (r.date % day))) ≡ r.date
  date_is =
      let h = f.date in
      let a = whole_value (r.date / day) (omega arith) in
      let b = digits_value 5 (r.date % day) (omega arith) in
      let c = digits_length 5 (r.date % day) in
      let u = units_five (value_of (whole_of (r.date / day))) (value_of (digits_of 5 (r.date % day))) (length (digits_of 5 (r.date % day))) (omega arith) in
      omega arith

  limit_is : value_of (whole_of r.limit) ≡ r.limit
  limit_is = let h = f.limit in whole_value r.limit (omega arith)

  magnitude_is : thousandths (value_of (whole_of (nat_abs r.magnitude / 1000))) (value_of (digits_of 3 (nat_abs r.magnitude % 1000))) ≡ nat_abs r.magnitude
  magnitude_is = let h = size_small r.magnitude f.magnitude in thousandths_are (nat_abs r.magnitude) (omega arith)

  error_is : thousandths (value_of (whole_of (r.error / 1000))) (value_of (digits_of 3 (r.error % 1000))) ≡ r.error
  error_is = let h = f.error in thousandths_are r.error (omega arith)

  filter_is : value_of (whole_of r.filter) ≡ r.filter
  filter_is = let h = f.filter in whole_value r.filter (omega arith)

  -- they name the record
  pub parts_mean : meant (parts_of r) ≡ r
  unfolding meant parts_of
  parts_mean = λ i. record {
    star = star_is i;
    date = date_is i;
    limit = limit_is i;
    magnitude = (ap (signed_by (is_negative r.magnitude)) magnitude_is ∙ signed-size r.magnitude) i;
    error = error_is i;
    filter = filter_is i;
  }

  -- and are good
  pub parts_good : Good (parts_of r)
  unfolding parts_of
  parts_good =
      let h₁ = f.star in
      let h₂ = f.date in
      let h₃ = f.limit in
      let h₄ = size_small r.magnitude f.magnitude in
      let h₅ = f.error in
      let h₆ = f.filter in
      let m = magnitude_is in
      record {
        star = whole_digits r.star (omega arith);
        days = whole_digits (r.date / day) (omega arith);
        day_decimals = digits_decimals 5 (r.date % day) (omega arith) (omega arith);
        limit = whole_digits r.limit (omega arith);
        magnitude = whole_digits (nat_abs r.magnitude / 1000) (omega arith);
        magnitude_decimals = digits_decimals 3 (nat_abs r.magnitude % 1000) (omega arith) (omega arith);
        error = whole_digits (r.error / 1000) (omega arith);
        error_decimals = digits_decimals 3 (r.error % 1000) (omega arith) (omega arith);
        filter = whole_digits r.filter (omega arith);
        not_minus_zero = λ e. let x = minus_some r.magnitude e in omega arith;
        fits = subst (λ (q : Record). Fits q) (sym parts_mean) f;
      }

-- ---- a line at the front of a text

pub line_append : (r : Record) (s : List ℕ) → line_of r ++ s ≡ spelled (parts_of r) s
unfolding line_of
line_append r s = spelled-append (parts_of r) s

module _ (r : Record) (f : Fits r) (s : List ℕ) where
  -- a text that begins with a record's line begins with a line
  pub line_begins : begins (line_of r ++ s) ≡ true
  line_begins = ap begins (line_append r s) ∙ begins-spelled (parts_of r) s (parts_good r f)

  -- whose record is that one
  pub line_first : first_of (line_of r ++ s) ≡ r
  line_first = ap first_of (line_append r s) ∙ first-spelled (parts_of r) s (parts_good r f) ∙ parts_mean r f

  -- and behind which the text goes on
  pub line_behind : behind (line_of r ++ s) ≡ s
  line_behind = ap behind (line_append r s) ∙ behind-spelled (parts_of r) s (parts_good r f)
