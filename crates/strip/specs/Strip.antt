-- Strips: records one behind the other and zeros up to a byte; and lists of numbers, six a record.
use Rattle.std.specs.Prelude.{ℕ, zero, suc, ◌+◌, ◌-◌, ◌*◌, ◌/◌, ◌%◌, Bool, true, cond, ◌&&◌, List, [], ◌∷◌, ◌++◌, length, get_or, drop, eqb, ltb}
use Rattle.bits.specs.declared.Order.TheVariants.{Big}
use Rattle.bits.specs.Field.{join, field}
use Rattle.bits.specs.Signed.{pattern}
use Rattle.packing.specs.Packing.{bytes_of}
use Rattle.record.specs.declared.Record.{Record}
use Rattle.record.specs.Record.{fits, record_of, record_bits}
use Rattle.strip.specs.Bits.{bits_of, record_at}

-- ---- lists of numbers

-- the six numbers of a record, the magnitude as its 64-bit two's complement
abbrev pub numbers_of : Record → List ℕ
numbers_of r = r.star ∷ r.date ∷ r.limit ∷ pattern 64 r.magnitude ∷ r.error ∷ r.filter ∷ []

unfoldable pub all_numbers : List Record → List ℕ
all_numbers [] = []
all_numbers (r ∷ rs) = numbers_of r ++ all_numbers rs

-- the record that the first six numbers name
abbrev pub record_in : List ℕ → Record
record_in ns = record_of (get_or ns 0 0) (get_or ns 1 0) (get_or ns 2 0) (get_or ns 3 0) (get_or ns 4 0) (get_or ns 5 0)

-- the records that numbers name, n of them or as many as there are whole ones
unfoldable pub records_in : ℕ → List ℕ → List Record
records_in zero ns = []
records_in (suc n) ns = cond (ltb (length ns) 6) [] (record_in ns ∷ records_in n (drop 6 ns))

-- whether every record's numbers fit their fields
unfoldable pub all_fit : List Record → Bool
all_fit [] = true
all_fit (r ∷ rs) = fits r && all_fit rs

-- ---- packing

-- the bits of records, one behind the other, as one number
unfoldable pub joined : List Record → ℕ
joined [] = 0
joined (r ∷ rs) = join Big record_bits (record_bits * length rs) (bits_of r) (joined rs)

-- how many bytes the strip of n records has
abbrev pub strip_length : ℕ → ℕ
strip_length n = (record_bits * n + 7) / 8

-- how many zeros stand behind n records, up to a byte
abbrev pub strip_padding : ℕ → ℕ
strip_padding n = 8 * strip_length n - record_bits * n

-- the strip of records: the bytes of their bits, and of the zeros behind them
unfoldable pub strip_bytes : List Record → List ℕ
strip_bytes rs = bytes_of Big (strip_length (length rs)) 0 (join Big (record_bits * length rs) (strip_padding (length rs)) (joined rs) 0)

-- ---- reading

-- how many records a strip has: reading stops when under 89 bits remain
abbrev pub count_of : List ℕ → ℕ
count_of s = 8 * length s / record_bits

-- n records from place p on
unfoldable pub records_from : List ℕ → ℕ → ℕ → List Record
records_from s p zero = []
records_from s p (suc n) = record_at s p ∷ records_from s (p + record_bits) n

-- the records of a strip
abbrev pub records_of : List ℕ → List Record
records_of s = records_from s 0 (count_of s)

-- whether the bits behind the last record are under eight, and all zero
unfoldable pub tail_good : List ℕ → Bool
tail_good s = ltb (8 * length s % record_bits) 8 && eqb (field Big s (record_bits * count_of s) (8 * length s % record_bits)) 0
