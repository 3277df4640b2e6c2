-- Laws of columns: those that say a record are the record's, and the bits of a row are where its columns are.
use mathlib.Core.Path.{◌≡◌, refl, sym, ap, ◌∙◌}
use mathlib.Core.Bool.{Bool, true, false, cond, ◌||◌}
use mathlib.Core.List.{List}
use Prim.Native.Nat.{ℕ, zero, suc, ◌+◌, ◌^◌, ◌<◌, ◌≤◌}
use native.Mathlib.Nat.{le_trans, lt_of_lt_of_le}
use native.Mathlib.Omega.{arith}
use lib.Dec.{eqb, ltb}
use lib.IntN.{ℤ, pos, negsuc}
use lib.Signed.{mag}
use lib.Pow.{pow_mono}
use borrow.Author.Tests.{lt-ltb, le-ltb, ltb-true, eqb-true}
use Rattle.bits.specs.declared.Order.TheVariants.{Big}
use Rattle.bits.specs.Field.{join, field}
use Rattle.bits.proofs.FieldLaws.{field_lt, field_split, head_is, tail_is}
use Rattle.bits.proofs.TestLaws.{both}
use Rattle.bits.proofs.JoinLaws.{join-lt}
use Rattle.bits.specs.Signed.{signed, pattern}
use Rattle.sign.proofs.SignedLaws.{by_half, signed-fits, pattern_lt, pattern-signed, signed-pattern}
use Rattle.record.specs.declared.Record.{Record}
use Rattle.record.specs.Record.{Fits, star_bits, date_bits, error_bits, filter_bits}
use Rattle.rows.specs.Row.{Columns, columns_at, letter, columns_of, bits_of_columns, within, in_range, record_said, letter_t, letter_f, row_bits}

-- ---- numbers from 0

pub within-true : (w : ℕ) (z : ℤ) → within w z ≡ true → (pos (mag z) ≡ z) × (mag z < 2 ^ w)
unfolding within
within-true w (pos n) e = (refl, ltb-true _ _ e)
within-true w (negsuc n) e = let z : ◌≡◌ {A = ℕ} 0 1 = cc in absurd (omega arith)

pub within_pos : (w n : ℕ) → n < 2 ^ w → within w (pos n) ≡ true
unfolding within
within_pos w n h = lt-ltb n (2 ^ w) h

-- a negative number's bits are above all numbers of fewer bits
pub within_signed : (w j v : ℕ) → w ≤ j → v < 2 ^ suc j → within w (signed (suc j) v) ≡ ltb v (2 ^ w)
unfolding within
within_signed w j v l h =
    by_half (λ (z : ℤ). within w z ≡ ltb v (2 ^ w)) j v h (λ m. refl) (λ g. sym (le-ltb v (2 ^ w) (le_trans (pow_mono l) g)))

-- ---- letters

pub letter-lt : (l : ℕ) → letter l < 2 ^ 8
unfolding letter
letter-lt l = by (eqb l 1)
  where
    by : (t : Bool) → cond t letter_t letter_f < 2 ^ 8
    by true = omega arith
    by false = omega arith

pub letter_good : (l : ℕ) → (eqb (letter l) letter_t || eqb (letter l) letter_f) ≡ true
unfolding letter
letter_good l = by (eqb l 1)
  where
    by : (t : Bool) → (eqb (cond t letter_t letter_f) letter_t || eqb (cond t letter_t letter_f) letter_f) ≡ true
    by true = refl
    by false = refl

pub letter-back : (l : ℕ) → l < 2 → cond (eqb (letter l) letter_t) 1 0 ≡ l
unfolding letter
letter-back zero h = refl
letter-back (suc zero) h = refl
letter-back (suc (suc l)) h = absurd (omega arith)

pub letter_of : (b : ℕ) → (eqb b letter_t || eqb b letter_f) ≡ true → letter (cond (eqb b letter_t) 1 0) ≡ b
unfolding letter
letter_of b e = by (eqb b letter_t) refl e
  where
    by : (t : Bool) → eqb b letter_t ≡ t → (t || eqb b letter_f) ≡ true → cond (eqb (cond t 1 0) 1) letter_t letter_f ≡ b
    by true p e = sym (eqb-true b letter_t p)
    by false p e = sym (eqb-true b letter_f e)

-- ---- columns and records

-- the columns of a record that fits say it
module _ (r : Record) (fit : Fits r) where
  pub columns_good : in_range (columns_of r) ≡ true
  unfolding in_range columns_of
  columns_good = simp (within_pos star_bits r.star fit.star, within_pos date_bits r.date fit.date, letter_good r.limit, within_pos error_bits r.error fit.error, lt-ltb _ _ fit.filter)

  pub columns_record : record_said (columns_of r) ≡ r
  unfolding record_said columns_of
  columns_record = λ i. record { star = r.star; date = r.date; limit = letter-back r.limit fit.limit i; magnitude = r.magnitude; error = r.error; filter = r.filter }

-- columns in range are those of the record that they say, which fits
module _ (c : Columns) (good : in_range c ≡ true) where
  pub parts : (within star_bits c.star ≡ true) × (within date_bits c.date ≡ true) × ((eqb c.limit letter_t || eqb c.limit letter_f) ≡ true) × (within error_bits c.error ≡ true) × (ltb c.filter (2 ^ filter_bits) ≡ true)
  unfolding in_range
  parts =
      let (a, e₁) = both good in
      let (b, e₂) = both e₁ in
      let (d, e₃) = both e₂ in
      let (e, f) = both e₃ in
      (a, b, d, e, f)

  pub record_columns : columns_of (record_said c) ≡ c
  unfolding columns_of record_said
  record_columns =
      let star = (within-true star_bits c.star parts.0).0 in
      let date = (within-true date_bits c.date parts.1).0 in
      let error = (within-true error_bits c.error parts.3).0 in
      let limit = letter_of c.limit parts.2 in
      λ i. record { star = star i; date = date i; limit = limit i; magnitude = c.magnitude; error = error i; filter = c.filter }

  limit_lt : (t : Bool) → cond t 1 0 < 2
  limit_lt true = omega arith
  limit_lt false = omega arith

  pub record_fits : mag c.magnitude < 2 ^ 15 → Fits (record_said c)
  unfolding record_said
  record_fits h =
      record {
        star = (within-true star_bits c.star parts.0).1;
        date = (within-true date_bits c.date parts.1).1;
        limit = limit_lt (eqb c.limit letter_t);
        magnitude = h;
        error = (within-true error_bits c.error parts.3).1;
        filter = ltb-true _ _ parts.4;
      }

-- ---- the bits of a row

-- columns whose numbers fit the types of the standard
pub record Typed (c : Columns) : Type 0 where
  pub star : mag c.star < 2 ^ 31
  pub date : mag c.date < 2 ^ 63
  pub limit : c.limit < 2 ^ 8
  pub magnitude : mag c.magnitude < 2 ^ 15
  pub error : mag c.error < 2 ^ 15
  pub filter : c.filter < 2 ^ 8

pub record_typed : (r : Record) → Fits r → Typed (columns_of r)
unfolding columns_of
record_typed r fit =
    record {
      star = lt_of_lt_of_le fit.star (omega arith);
      date = lt_of_lt_of_le fit.date (omega arith);
      limit = letter-lt r.limit;
      magnitude = fit.magnitude;
      error = lt_of_lt_of_le fit.error (omega arith);
      filter = lt_of_lt_of_le fit.filter (omega arith);
    }

pub columns_typed : (s : List ℕ) (p : ℕ) → Typed (columns_at s p)
unfolding columns_at
columns_typed s p =
    record {
      star = signed-fits 31 _ (field_lt Big s p 32);
      date = signed-fits 63 _ (field_lt Big s (p + 32) 64);
      limit = field_lt Big s (p + 96) 8;
      magnitude = signed-fits 15 _ (field_lt Big s (p + 104) 16);
      error = signed-fits 15 _ (field_lt Big s (p + 120) 16);
      filter = field_lt Big s (p + 136) 8;
    }

module _ (c : Columns) (h : Typed c) where
  abbrev up_to96 : ℕ
  up_to96 = join Big 32 64 (pattern 32 c.star) (pattern 64 c.date)

  abbrev up_to104 : ℕ
  up_to104 = join Big 96 8 up_to96 c.limit

  abbrev up_to120 : ℕ
  up_to120 = join Big 104 16 up_to104 (pattern 16 c.magnitude)

  abbrev up_to136 : ℕ
  up_to136 = join Big 120 16 up_to120 (pattern 16 c.error)

  up_to96_lt : up_to96 < 2 ^ 96
  up_to96_lt = join-lt Big 32 64 (pattern_lt 32 c.star) (pattern_lt 64 c.date)

  up_to104_lt : up_to104 < 2 ^ 104
  up_to104_lt = join-lt Big 96 8 up_to96_lt h.limit

  up_to120_lt : up_to120 < 2 ^ 120
  up_to120_lt = join-lt Big 104 16 up_to104_lt (pattern_lt 16 c.magnitude)

  up_to136_lt : up_to136 < 2 ^ 136
  up_to136_lt = join-lt Big 120 16 up_to120_lt (pattern_lt 16 c.error)

  pub columns_lt : bits_of_columns c < 2 ^ row_bits
  unfolding bits_of_columns
  columns_lt = join-lt Big 136 8 up_to136_lt h.filter

  -- where they stand, the columns are found
  pub columns_found : (s : List ℕ) (p : ℕ) → field Big s p row_bits ≡ bits_of_columns c → columns_at s p ≡ c
  unfolding bits_of_columns columns_at
  columns_found s p e =
      let e136 : field Big s p 136 ≡ up_to136 = head_is Big s p 136 8 up_to136_lt h.filter e in
      let e120 : field Big s p 120 ≡ up_to120 = head_is Big s p 120 16 up_to120_lt (pattern_lt 16 c.error) e136 in
      let e104 : field Big s p 104 ≡ up_to104 = head_is Big s p 104 16 up_to104_lt (pattern_lt 16 c.magnitude) e120 in
      let e96 : field Big s p 96 ≡ up_to96 = head_is Big s p 96 8 up_to96_lt h.limit e104 in
      let star = ap (signed 32) (head_is Big s p 32 64 (pattern_lt 32 c.star) (pattern_lt 64 c.date) e96) ∙ signed-pattern 31 c.star h.star in
      let date = ap (signed 64) (tail_is Big s p 32 64 (pattern_lt 32 c.star) (pattern_lt 64 c.date) e96) ∙ signed-pattern 63 c.date h.date in
      let limit = tail_is Big s p 96 8 up_to96_lt h.limit e104 in
      let magnitude = ap (signed 16) (tail_is Big s p 104 16 up_to104_lt (pattern_lt 16 c.magnitude) e120) ∙ signed-pattern 15 c.magnitude h.magnitude in
      let error = ap (signed 16) (tail_is Big s p 120 16 up_to120_lt (pattern_lt 16 c.error) e136) ∙ signed-pattern 15 c.error h.error in
      let filter = tail_is Big s p 136 8 up_to136_lt h.filter e in
      λ i. record { star = star i; date = date i; limit = limit i; magnitude = magnitude i; error = error i; filter = filter i }

-- the bits of the columns found at a place are the bits there
pub found_columns : (s : List ℕ) (p : ℕ) → bits_of_columns (columns_at s p) ≡ field Big s p row_bits
unfolding bits_of_columns columns_at
found_columns s p =
    rw (
      pattern-signed 32 (field Big s p 32) (field_lt Big s p 32),
      pattern-signed 64 (field Big s (p + 32) 64) (field_lt Big s (p + 32) 64),
      pattern-signed 16 (field Big s (p + 104) 16) (field_lt Big s (p + 104) 16),
      pattern-signed 16 (field Big s (p + 120) 16) (field_lt Big s (p + 120) 16),
    )
    (sym (rw (field_split Big s p 136 8, field_split Big s p 120 16, field_split Big s p 104 16, field_split Big s p 96 8, field_split Big s p 32 64)))
