-- Read, so spelled: a text that begins with a line begins with good parts.
use Rattle.std.proofs.Common.{◌≡◌, ℕ, ◌<◌, true, List, ◌∷◌, ◌++◌, length, ap, ◌∙◌, arith}
use Rattle.record.specs.Record.{Fits}
use Rattle.record.proofs.FitLaws.{fits-true}
use Rattle.digits.specs.Digits.{comma, point, newline, Whole}
use Rattle.digits.specs.Reading.{whole_at}
use Rattle.digits.proofs.PartLaws.{Spelled, read_whole}
use Rattle.line.specs.Date.{units_of}
use Rattle.line.specs.Grammar.{Parts, sign, spelled, thousandths, meant, Good}
use Rattle.line.specs.Reading.{date_at, thousandths_at, magnitude_at, six_at, begins, first_of, behind}
use Rattle.line.proofs.GrammarLaws.{spelled_longer}
use Rattle.line.proofs.NumberLaws.{Fixed, Signed, read_date, read_thousandths, read_magnitude}

-- a text that begins with a line, as good parts and the text behind them
pub record Begins (s : List ℕ) : Type 0 where
  pub parts : Parts
  pub good : Good parts
  pub text : s ≡ spelled parts (behind s)

module _ (s : List ℕ) where
  -- the texts behind the first five numbers
  abbrev t₁ : List ℕ
  t₁ = (whole_at comma s).rest

  abbrev t₂ : List ℕ
  t₂ = (date_at t₁).rest

  abbrev t₃ : List ℕ
  t₃ = (whole_at comma t₂).rest

  abbrev t₄ : List ℕ
  t₄ = (magnitude_at t₃).rest

  abbrev t₅ : List ℕ
  t₅ = (thousandths_at t₄).rest

  -- the six numbers as they were spelled
  record Numbers : Type 0 where
    star : Spelled Whole comma s (whole_at comma s)
    date : Fixed 5 12 units_of t₁ (date_at t₁)
    limit : Spelled Whole comma t₂ (whole_at comma t₂)
    magnitude : Signed t₃ (magnitude_at t₃)
    error : Fixed 3 3 (λ w d n. thousandths w d) t₄ (thousandths_at t₄)
    filter : Spelled Whole newline t₅ (whole_at newline t₅)

  numbers : Fits (first_of s) → Numbers
  unfolding six_at
  numbers f =
      record {
        star = read_whole comma s (let h = f.star in omega arith);
        date = read_date t₁ f.date;
        limit = read_whole comma t₂ (let h = f.limit in omega arith);
        magnitude = read_magnitude t₃ f.magnitude;
        error = read_thousandths t₄ (let h = f.error in omega arith);
        filter = read_whole newline t₅ (let h = f.filter in omega arith);
      }

  -- the parts that they make fit, are good, and spell the text
  abbrev spelling : Numbers → Parts
  spelling n =
      record {
        star = n.star.ds;
        days = n.date.w;
        day_decimals = n.date.d;
        limit = n.limit.ds;
        negative = n.magnitude.negative;
        magnitude = n.magnitude.w;
        magnitude_decimals = n.magnitude.d;
        error = n.error.w;
        error_decimals = n.error.d;
        filter = n.filter.ds;
      }

  spelling_fits : Fits (first_of s) → (n : Numbers) → Fits (meant (spelling n))
  unfolding six_at meant
  spelling_fits f n =
      record {
        star = rw n.star.value at f.star;
        date = rw n.date.is at f.date;
        limit = rw n.limit.value at f.limit;
        magnitude = n.magnitude.fits;
        error = rw n.error.is at f.error;
        filter = rw n.filter.value at f.filter;
      }

  spelling_good : (n : Numbers) → Fits (meant (spelling n)) → Good (spelling n)
  spelling_good n f =
      record {
        star = n.star.is;
        days = n.date.whole;
        day_decimals = n.date.decimals;
        limit = n.limit.is;
        magnitude = n.magnitude.whole;
        magnitude_decimals = n.magnitude.decimals;
        error = n.error.whole;
        error_decimals = n.error.decimals;
        filter = n.filter.is;
        not_minus_zero = n.magnitude.not_minus_zero;
        fits = f;
      }

  spelling_text : (n : Numbers) → s ≡ spelled (spelling n) (behind s)
  unfolding six_at spelled
  spelling_text n =
      n.star.text ∙ ap (λ (l : List ℕ). n.star.ds ++ comma ∷ l)
      (n.date.text ∙ ap (λ (l : List ℕ). n.date.w ++ point ∷ (n.date.d ++ comma ∷ l))
      (n.limit.text ∙ ap (λ (l : List ℕ). n.limit.ds ++ comma ∷ l)
      (n.magnitude.text ∙ ap (λ (l : List ℕ). sign n.magnitude.negative (n.magnitude.w ++ point ∷ (n.magnitude.d ++ comma ∷ l)))
      (n.error.text ∙ ap (λ (l : List ℕ). n.error.w ++ point ∷ (n.error.d ++ comma ∷ l)) n.filter.text))))

  pub begins_good : begins s ≡ true → Begins s
  begins_good e =
      let f = fits-true (first_of s) e in
      let n = numbers f in
      record { parts = spelling n; good = spelling_good n (spelling_fits f n); text = spelling_text n }

-- the text behind its first line is shorter
pub behind_shorter : (s : List ℕ) → begins s ≡ true → length (behind s) < length s
behind_shorter s e =
    let b = begins_good s e in
    let l = spelled_longer b.parts (behind s) in
    let t = ap length b.text in
    omega arith
