-- The FITS row of a record: a row of a binary table of the FITS Standard 4.0 with the columns J, K, L, I, I, B.
use Rattle.std.specs.Prelude.{ℕ, ◌+◌, ◌^◌, Bool, false, cond, ◌&&◌, ◌||◌, List, eqb, ltb, ℤ, pos, negsuc}
use Rattle.std.specs.Int.Signed.{mag}
use Rattle.bits.specs.declared.Order.TheVariants.{Big}
use Rattle.bits.specs.Field.{join, field}
use Rattle.bits.specs.Signed.{signed, pattern}
use Rattle.packing.specs.Packing.{bytes_of}
use Rattle.record.specs.declared.Record.{Record}
use Rattle.record.specs.Record.{star_bits, date_bits, error_bits, filter_bits}

-- how many bytes a row has, and how many bits
abbrev pub row_length : ℕ
row_length = 18

abbrev pub row_bits : ℕ
row_bits = 144

-- the letters of a column L
abbrev pub letter_t : ℕ
letter_t = 84

abbrev pub letter_f : ℕ
letter_f = 70

-- ---- what a row says

-- the numbers of the six columns, L by its byte
pub record Columns : Type 0 where
  pub star : ℤ
  pub date : ℤ
  pub limit : ℕ
  pub magnitude : ℤ
  pub error : ℤ
  pub filter : ℕ

-- the columns J, K, L, I, I, B of the row at place p: big endian, in two's complement but for the bytes L and B
unfoldable pub columns_at : List ℕ → ℕ → Columns
columns_at s p =
    record {
      star = signed 32 (field Big s p 32);
      date = signed 64 (field Big s (p + 32) 64);
      limit = field Big s (p + 96) 8;
      magnitude = signed 16 (field Big s (p + 104) 16);
      error = signed 16 (field Big s (p + 120) 16);
      filter = field Big s (p + 136) 8;
    }

-- ---- from a record to its row

-- T for limit 1, else F
unfoldable pub letter : ℕ → ℕ
letter l = cond (eqb l 1) letter_t letter_f

-- the columns of a record
unfoldable pub columns_of : Record → Columns
columns_of r =
    record {
      star = pos r.star;
      date = pos r.date;
      limit = letter r.limit;
      magnitude = r.magnitude;
      error = pos r.error;
      filter = r.filter;
    }

-- the 144 bits of a row as one number, the first column most significant
unfoldable pub bits_of_columns : Columns → ℕ
bits_of_columns c =
    join Big 136 8
    (join Big 120 16
    (join Big 104 16
    (join Big 96 8
    (join Big 32 64 (pattern 32 c.star) (pattern 64 c.date))
    c.limit)
    (pattern 16 c.magnitude))
    (pattern 16 c.error))
    c.filter

-- the 18 bytes of a record's row
unfoldable pub row_bytes : Record → List ℕ
row_bytes r = bytes_of Big row_length 0 (bits_of_columns (columns_of r))

-- ---- from a row to its record

-- whether a number is from 0 to 2 ^ w - 1
unfoldable pub within : ℕ → ℤ → Bool
within w (pos n) = ltb n (2 ^ w)
within w (negsuc n) = false

-- whether columns say a record: a letter, and numbers within the record's widths; a magnitude, of 16 bits itself, always is
unfoldable pub in_range : Columns → Bool
in_range c =
    within star_bits c.star
    && (within date_bits c.date
    && ((eqb c.limit letter_t || eqb c.limit letter_f)
    && (within error_bits c.error && ltb c.filter (2 ^ filter_bits))))

-- the record that columns say
unfoldable pub record_said : Columns → Record
record_said c =
    record {
      star = mag c.star;
      date = mag c.date;
      limit = cond (eqb c.limit letter_t) 1 0;
      magnitude = c.magnitude;
      error = mag c.error;
      filter = c.filter;
    }
