-- Laws of records that fit their fields: the test and the statement, and the magnitude as a number of 64 bits.
use Rattle.std.proofs.Common.{◌≡◌, ℕ, suc, ◌+◌, ◌-◌, ◌%◌, ◌^◌, ◌<◌, true, ltb, ℤ, sym, ◌∙◌, arith, ltb-false, ltb-true, lt-ltb}
use lib.Signed.{mag}
use Rattle.bits.specs.Signed.{signed}
use Rattle.bits.proofs.TestLaws.{both, by_test}
use Rattle.sign.proofs.SignedLaws.{by_half}
use Rattle.record.specs.declared.Record.{Record}
use Rattle.record.specs.declared.inner.Numbers.{Numbers}
use Rattle.record.specs.Record.{magnitude_bits, depth, fits, Fits, named, InFields}

-- two tests that hold together are equal
same_test : {a b c d : ℕ} → (a < b → c < d) → (c < d → a < b) → ltb a b ≡ ltb c d
same_test {a} {b} {c} {d} f g =
    by_test (ltb c d) (λ q. lt-ltb a b (g (ltb-true c d q)) ∙ sym q)
    (λ q. by_test (ltb a b) (λ p. absurd (omega (arith, f (ltb-true a b p), ltb-false c d q))) (λ p. p ∙ sym q))

module _ (r : Record) where
  pub fits-true : fits r ≡ true → Fits r
  unfolding fits
  fits-true e =
      let (star, e₁) = both e in
      let (date, e₂) = both e₁ in
      let (limit, e₃) = both e₂ in
      let (error, e₄) = both e₃ in
      let (filter, magnitude) = both e₄ in
      record {
        star = ltb-true _ _ star;
        date = ltb-true _ _ date;
        limit = ltb-true _ _ limit;
        magnitude = ltb-true _ _ magnitude;
        error = ltb-true _ _ error;
        filter = ltb-true _ _ filter;
      }

  pub true-fits : Fits r → fits r ≡ true
  unfolding fits
  true-fits h =
      simp (lt-ltb _ _ h.star, lt-ltb _ _ h.date, lt-ltb _ _ h.limit, lt-ltb _ _ h.magnitude, lt-ltb _ _ h.error, lt-ltb _ _ h.filter)

-- the bounds of numbers that fit
pub in_fields : (six : Numbers) → fits (named six) ≡ true → InFields six
in_fields six e = let f = fits-true (named six) e in (f.star, f.date, f.limit, f.magnitude, f.error, f.filter)

-- which numbers of 64 bits fit 16 as signed ones: the lowest and the highest, which the code brings together
pub sixteen_fit : (m : ℕ) → m < 2 ^ 64 → ltb ((m + depth) % 2 ^ 64) (2 ^ magnitude_bits) ≡ ltb (mag (signed 64 m)) depth
sixteen_fit m h =
    by_half (λ (z : ℤ). ltb ((m + depth) % 2 ^ 64) (2 ^ magnitude_bits) ≡ ltb (mag z) depth) 63 m h
    (λ l. same_test {a = (m + depth) % 2 ^ 64} {b = 2 ^ magnitude_bits} {c = m} {d = depth} (λ a. omega arith) (λ b. omega arith))
    (λ l. same_test {a = (m + depth) % 2 ^ 64} {b = 2 ^ magnitude_bits} {c = 2 ^ 64 - suc m} {d = depth} (λ a. omega arith) (λ b. omega arith))
