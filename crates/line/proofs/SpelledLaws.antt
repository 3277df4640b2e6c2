-- Spelled, then read: of a line of the grammar at the front of a text, the record is the one that it names, and the rest is what follows.
use Rattle.std.proofs.Common.{◌≡◌, ℕ, ◌<◌, ◌≤◌, Bool, true, false, List, ◌∷◌, ◌++◌, length, refl, ap, ◌∙◌, arith, ne_eqb}
use Rattle.record.proofs.FitLaws.{true-fits}
use Rattle.digits.specs.Digits.{comma, point, minus, newline, Digits, none, digit, value_of, Whole, Decimals}
use Rattle.digits.specs.Reading.{most, Part, part, starts, whole_at}
use Rattle.digits.proofs.PartLaws.{whole_reads, decimals_reads}
use Rattle.line.specs.Date.{units_of}
use Rattle.line.proofs.DateLaws.{units_days}
use Rattle.line.specs.Grammar.{Parts, sign, spelled, thousandths, magnitude_of, meant, Good}
use Rattle.line.specs.Reading.{date_at, thousandths_at, complement, magnitude_at, Six, six_at, begins, first_of, behind}
use Rattle.line.proofs.MagnitudeLaws.{size_small, complement-signed}

-- ---- numbers with decimals

no_minus : {x : List ℕ} (s : List ℕ) → Digits x → 1 ≤ length x → starts minus (x ++ s) ≡ false
no_minus s none n = absurd (omega arith)
no_minus s (digit {b} i j d) n = ne_eqb b minus (λ e. omega arith)

module _ {w d : List ℕ} (s : List ℕ) (h : Whole w) (l : value_of w < most) where
  date_reads : Decimals 5 12 d → date_at (w ++ point ∷ (d ++ comma ∷ s)) ≡ part (units_of (value_of w) (value_of d) (length d)) 0 s
  unfolding date_at
  date_reads k = rw (whole_reads point (d ++ comma ∷ s) refl h l, decimals_reads comma s refl 5 12 (omega arith) k)

  thousandths_reads : Decimals 3 3 d → thousandths_at (w ++ point ∷ (d ++ comma ∷ s)) ≡ part (thousandths (value_of w) (value_of d)) 0 s
  unfolding thousandths_at
  thousandths_reads k = rw (whole_reads point (d ++ comma ∷ s) refl h l, decimals_reads comma s refl 3 3 (omega arith) k)

  magnitude_reads : (b : Bool) → Decimals 3 3 d
      → magnitude_at (sign b (w ++ point ∷ (d ++ comma ∷ s))) ≡ part (complement b (thousandths (value_of w) (value_of d))) 0 s
  unfolding magnitude_at
  magnitude_reads true k = rw (thousandths_reads k)
  magnitude_reads false k = rw (no_minus (point ∷ (d ++ comma ∷ s)) h.digits h.some, thousandths_reads k)

-- ---- the whole line

-- the numbers that good parts spell, with a text behind them
abbrev six_of : Parts → List ℕ → Six
six_of p s =
    record {
      star = value_of p.star;
      date = units_of (value_of p.days) (value_of p.day_decimals) (length p.day_decimals);
      limit = value_of p.limit;
      magnitude = complement p.negative (magnitude_of p);
      error = thousandths (value_of p.error) (value_of p.error_decimals);
      filter = value_of p.filter;
      rest = s;
    }

module _ (p : Parts) (s : List ℕ) (g : Good p) where
  abbrev t₅ : List ℕ
  t₅ = p.filter ++ newline ∷ s

  abbrev t₄ : List ℕ
  t₄ = p.error ++ point ∷ (p.error_decimals ++ comma ∷ t₅)

  abbrev t₃ : List ℕ
  t₃ = sign p.negative (p.magnitude ++ point ∷ (p.magnitude_decimals ++ comma ∷ t₄))

  abbrev t₂ : List ℕ
  t₂ = p.limit ++ comma ∷ t₃

  abbrev t₁ : List ℕ
  t₁ = p.days ++ point ∷ (p.day_decimals ++ comma ∷ t₂)

  six_spelled : six_at (spelled p s) ≡ six_of p s
  unfolding six_at spelled meant
  six_spelled =
      let f = g.fits in
      let rest : Part → List ℕ = λ x. x.rest in
      let u = units_days (value_of p.days) (value_of p.day_decimals) (length p.day_decimals) in
      let m = size_small p.negative (magnitude_of p) f.magnitude in
      let e₁ = whole_reads comma t₁ refl g.star (let h = f.star in omega arith) in
      let e₂ = ap date_at (ap rest e₁) ∙ date_reads t₂ g.days (let h = f.date in omega arith) g.day_decimals in
      let e₃ = ap (whole_at comma) (ap rest e₂) ∙ whole_reads comma t₃ refl g.limit (let h = f.limit in omega arith) in
      let e₄ = ap magnitude_at (ap rest e₃) ∙ magnitude_reads t₄ g.magnitude (omega arith) p.negative g.magnitude_decimals in
      let e₅ = ap thousandths_at (ap rest e₄) ∙ thousandths_reads t₅ g.error (let h = f.error in omega arith) g.error_decimals in
      let e₆ = ap (whole_at newline) (ap rest e₅) ∙ whole_reads newline s refl g.filter (let h = f.filter in omega arith) in
      λ i. record {
        star = (e₁ i).value;
        date = (e₂ i).value;
        limit = (e₃ i).value;
        magnitude = (e₄ i).value;
        error = (e₅ i).value;
        filter = (e₆ i).value;
        rest = (e₆ i).rest;
      }

  -- the record of a text that begins with good parts is the one that they name
  pub first-spelled : first_of (spelled p s) ≡ meant p
  unfolding meant
  first-spelled = rw (six_spelled, complement-signed p.negative (magnitude_of p) g.not_minus_zero g.fits.magnitude)

  -- so it begins with a line
  pub begins-spelled : begins (spelled p s) ≡ true
  begins-spelled = rw first-spelled (true-fits (meant p) g.fits)

  -- and behind which the text goes on
  pub behind-spelled : behind (spelled p s) ≡ s
  behind-spelled = ap (λ (x : Six). x.rest) six_spelled
