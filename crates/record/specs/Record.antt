-- The fields of a strip record.
use Rattle.std.specs.Prelude.{ℕ, ◌^◌, ◌<◌, Bool, ◌&&◌, pos, nat_lt}
use Rattle.std.specs.Int.Signed.{mag}
use Rattle.bits.specs.Signed.{signed}
use Rattle.record.specs.declared.Record.{Record}
use Rattle.record.specs.declared.inner.Numbers.{Numbers}

-- the widths of star, date, limit, magnitude, error and filter, and of a whole record
abbrev pub star_bits : ℕ
star_bits = 20

abbrev pub date_bits : ℕ
date_bits = 38

abbrev pub limit_bits : ℕ
limit_bits = 1

abbrev pub magnitude_bits : ℕ
magnitude_bits = 16

abbrev pub error_bits : ℕ
error_bits = 10

abbrev pub filter_bits : ℕ
filter_bits = 4

abbrev pub record_bits : ℕ
record_bits = 89

-- how far below zero magnitudes go
abbrev pub depth : ℕ
depth = 2 ^ 15

-- whether a record's numbers fit their fields
unfoldable pub fits : Record → Bool
fits r =
    nat_lt r.star (2 ^ star_bits)
    && (nat_lt r.date (2 ^ date_bits)
    && (nat_lt r.limit (2 ^ limit_bits)
    && (nat_lt r.error (2 ^ error_bits) && (nat_lt r.filter (2 ^ filter_bits) && nat_lt (mag r.magnitude) depth))))

-- the same as a statement
pub record Fits (r : Record) : Type 0 where
  pub star : r.star < 2 ^ star_bits
  pub date : r.date < 2 ^ date_bits
  pub limit : r.limit < 2 ^ limit_bits
  pub magnitude : mag r.magnitude < depth
  pub error : r.error < 2 ^ error_bits
  pub filter : r.filter < 2 ^ filter_bits

-- the record that six numbers name, the magnitude's in two's complement of 64 bits
abbrev pub record_of : ℕ → ℕ → ℕ → ℕ → ℕ → ℕ → Record
record_of a b c d e f = record { star = a; date = b; limit = c; magnitude = signed 64 d; error = e; filter = f }

-- the record that numbers name
abbrev pub named : Numbers → Record
named six = record_of six.star six.date six.limit six.magnitude six.error six.filter

-- numbers that fit, each with its bound
abbrev pub InFields : Numbers → Type 0
InFields six =
    (six.star < 2 ^ star_bits) × (six.date < 2 ^ date_bits) × (six.limit < 2 ^ limit_bits) × (mag (signed 64 six.magnitude) < depth)
    × (six.error < 2 ^ error_bits) × (six.filter < 2 ^ filter_bits)

-- the record of zeros, which stands where there is none
abbrev pub no_record : Record
no_record = record { star = 0; date = 0; limit = 0; magnitude = pos 0; error = 0; filter = 0 }
