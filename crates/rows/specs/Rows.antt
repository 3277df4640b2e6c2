-- Rows one behind the other: those of a strip's records, and the strip of the records that rows say.
use Rattle.std.specs.Prelude.{ℕ, zero, suc, Option, Some, None, ◌+◌, ◌/◌, ◌%◌, Bool, cond, List, [], ◌∷◌, ◌++◌, length, eqb}
use Rattle.record.specs.declared.Record.{Record}
use Rattle.strip.specs.Strip.{strip_bytes, records_of, tail_good}
use Rattle.rows.specs.Row.{columns_at, row_bytes, in_range, record_said, row_length, row_bits}

-- ---- from a strip

-- the rows of records
unfoldable pub rows_bytes : List Record → List ℕ
rows_bytes [] = []
rows_bytes (r ∷ rs) = row_bytes r ++ rows_bytes rs

-- the rows of a strip: those of its records, and none where its tail is bad
unfoldable pub strip_rows : List ℕ → List ℕ
strip_rows s = cond (tail_good s) (rows_bytes (records_of s)) []

-- ---- to a strip

-- how many whole rows there are
abbrev pub row_count : List ℕ → ℕ
row_count s = length s / row_length

-- whether the last row is whole
unfoldable pub rows_whole : List ℕ → Bool
rows_whole s = eqb (length s % row_length) 0

-- the records that n rows from place p on say
unfoldable pub records_in_rows : List ℕ → ℕ → ℕ → List Record
records_in_rows s p zero = []
records_in_rows s p (suc n) = record_said (columns_at s p) ∷ records_in_rows s (p + row_bits) n

-- the records that rows say
abbrev pub records_of_rows : List ℕ → List Record
records_of_rows s = records_in_rows s 0 (row_count s)

-- the number of the first of n rows from place p on that says no record, the row at p being number k; 0 where each says one
unfoldable pub bad_from : List ℕ → ℕ → ℕ → ℕ → ℕ
bad_from s p k zero = 0
bad_from s p k (suc n) = cond (in_range (columns_at s p)) (bad_from s (p + row_bits) (suc k) n) k

-- a number from 1 as the code has it: none for 0
abbrev pub named : ℕ → Option ℕ
named k = cond (eqb k 0) None (Some k)

-- the number of the first row that says no record, from 1; 0 where each says one
abbrev pub first_bad : List ℕ → ℕ
first_bad s = bad_from s 0 1 (row_count s)

-- the strip of rows: that of their records, and none where the last row is cut
unfoldable pub rows_strip : List ℕ → List ℕ
rows_strip s = cond (rows_whole s) (strip_bytes (records_of_rows s)) []
