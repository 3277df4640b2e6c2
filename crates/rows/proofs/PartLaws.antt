-- The columns of a row out of the three words that the code loads.
use mathlib.Core.Path.{◌≡◌, refl, sym, ap, ◌∙◌}
use mathlib.Core.Bool.{Bool, true, ◌&&◌, ◌||◌}
use mathlib.Core.List.{List}
use Prim.Native.Nat.{ℕ, suc, ◌+◌, ◌*◌, ◌/◌, ◌%◌, ◌^◌, ◌<◌, ◌≤◌}
use native.Mathlib.Omega.{arith}
use native.Mathlib.Nat.{lt_of_lt_of_le}
use lib.Dec.{eqb, ltb}
use lib.Pow.{pow_mono}
use lib.Signed.{mag}
use borrow.Author.Tests.{ltb-true}
use Rattle.bits.specs.declared.Order.TheVariants.{Big}
use Rattle.bits.specs.Field.{field}
use Rattle.bits.proofs.FieldLaws.{field_lt, field-first, field-rest}
use Rattle.bits.specs.Word.{first, rest}
use Rattle.bits.specs.Signed.{signed}
use Rattle.record.specs.Record.{star_bits, date_bits, error_bits, filter_bits}
use Rattle.sign.proofs.SignedLaws.{signed_low}
use Rattle.rows.specs.Row.{columns_at, in_range, within, letter_t, letter_f}
use Rattle.rows.proofs.ColumnLaws.{parts, within_signed}

-- whether the columns' bits, as numbers from 0, are those of a record
abbrev pub good_numbers : ℕ → ℕ → ℕ → ℕ → ℕ → Bool
good_numbers star date letter error filter =
    ltb star (2 ^ star_bits) && (ltb date (2 ^ date_bits) && ((eqb letter letter_t || eqb letter letter_f) && (ltb error (2 ^ error_bits) && ltb filter (2 ^ filter_bits))))

-- a signed number that is from 0 to 2 ^ w - 1 is its bits
low : (w j v : ℕ) → w ≤ j → v < 2 ^ suc j → within w (signed (suc j) v) ≡ true → mag (signed (suc j) v) ≡ v
low w j v l h e =
    let u : v < 2 ^ w = ltb-true v (2 ^ w) (sym (within_signed w j v l h) ∙ e) in
    ap mag (signed_low j v (lt_of_lt_of_le u (pow_mono l)))

module _ (s : List ℕ) (p : ℕ) where
  pub good_numbers_lem : good_numbers (field Big s p 32) (field Big s (p + 32) 64) (field Big s (p + 96) 8) (field Big s (p + 120) 16) (field Big s (p + 136) 8) ≡ in_range (columns_at s p)
  unfolding in_range columns_at
  good_numbers_lem =
      sym (rw (within_signed star_bits 31 (field Big s p 32) (omega arith) (field_lt Big s p 32), within_signed date_bits 63 (field Big s (p + 32) 64) (omega arith) (field_lt Big s (p + 32) 64), within_signed error_bits 15 (field Big s (p + 120) 16) (omega arith) (field_lt Big s (p + 120) 16)))

  -- the numbers of a row that says a record are its bits, none negative
  pub plain_columns : in_range (columns_at s p) ≡ true → (mag (signed 32 (field Big s p 32)) ≡ field Big s p 32) × (mag (signed 64 (field Big s (p + 32) 64)) ≡ field Big s (p + 32) 64) × (mag (signed 16 (field Big s (p + 120) 16)) ≡ field Big s (p + 120) 16)
  unfolding columns_at
  plain_columns good =
      let h = parts (columns_at s p) good in (
        low star_bits 31 (field Big s p 32) (omega arith) (field_lt Big s p 32) h.0,
        low date_bits 63 (field Big s (p + 32) 64) (omega arith) (field_lt Big s (p + 32) 64) h.1,
        low error_bits 15 (field Big s (p + 120) 16) (omega arith) (field_lt Big s (p + 120) 16) h.3,
      )

module _ (s : List ℕ) (at : ℕ) where
  star_in : field Big s (8 * at) 64 / 2 ^ 32 ≡ field Big s (8 * at) 32
  unfolding first
  star_in = field-first Big s (8 * at) 32 32

  date_in : field Big s (8 * (at + 4)) 64 ≡ field Big s (8 * at + 32) 64
  date_in = let e : 8 * (at + 4) ≡ 8 * at + 32 = omega arith in ap (λ (q : ℕ). field Big s q 64) e

  -- w bits of the last word, behind a others and before b
  part_in : (a w b p : ℕ) → a + w + b ≡ 64 → 8 * (at + 10) + a ≡ p → field Big s (8 * (at + 10)) 64 / 2 ^ b % 2 ^ w ≡ field Big s p w
  unfolding first rest
  part_in a w b p e f =
      ap (λ (n : ℕ). field Big s (8 * (at + 10)) n / 2 ^ b % 2 ^ w) (sym e)
      ∙ ap (λ (n : ℕ). n % 2 ^ w) (field-first Big s (8 * (at + 10)) (a + w) b)
      ∙ field-rest Big s (8 * (at + 10)) a w ∙ ap (λ (q : ℕ). field Big s q w) f

  filter_in : field Big s (8 * (at + 10)) 64 % 2 ^ 8 ≡ field Big s (8 * at + 136) 8
  unfolding rest
  filter_in =
      let e : 8 * (at + 10) + 56 ≡ 8 * at + 136 = omega arith in
      field-rest Big s (8 * (at + 10)) 56 8 ∙ ap (λ (q : ℕ). field Big s q 8) e

  -- what the three words have
  pub record Words (high date low : ℕ) : Type 0 where
    pub star : high / 2 ^ 32 ≡ field Big s (8 * at) 32
    pub date' : date ≡ field Big s (8 * at + 32) 64
    pub letter : low / 2 ^ 40 % 2 ^ 8 ≡ field Big s (8 * at + 96) 8
    pub magnitude : low / 2 ^ 24 % 2 ^ 16 ≡ field Big s (8 * at + 104) 16
    pub error : low / 2 ^ 8 % 2 ^ 16 ≡ field Big s (8 * at + 120) 16
    pub filter : low % 2 ^ 8 ≡ field Big s (8 * at + 136) 8

  pub three_words : {high date low : ℕ} → high ≡ field Big s (8 * at) 64 → date ≡ field Big s (8 * (at + 4)) 64 → low ≡ field Big s (8 * (at + 10)) 64 → Words high date low
  three_words h d l =
      record {
        star = ap (λ (n : ℕ). n / 2 ^ 32) h ∙ star_in;
        date' = d ∙ date_in;
        letter = ap (λ (n : ℕ). n / 2 ^ 40 % 2 ^ 8) l ∙ part_in 16 8 40 (8 * at + 96) refl (omega arith);
        magnitude = ap (λ (n : ℕ). n / 2 ^ 24 % 2 ^ 16) l ∙ part_in 24 16 24 (8 * at + 104) refl (omega arith);
        error = ap (λ (n : ℕ). n / 2 ^ 8 % 2 ^ 16) l ∙ part_in 40 16 8 (8 * at + 120) refl (omega arith);
        filter = ap (λ (n : ℕ). n % 2 ^ 8) l ∙ filter_in;
      }
