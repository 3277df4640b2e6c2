-- What the calls on rows answer, and what lent memory holds afterwards, on every input.
use Rattle.std.specs.Prelude.{ℕ, Option, Some, None, Result, Ok, Err, ◌*◌, Bool, true, false, not, cond, List, [], ◌∷◌, ◌++◌, length, eqb, ltb, codes, decimal}
use Rattle.std.proofs.lemmas.List.Edits.{sets}
use Rattle.bits.specs.declared.Refusal.{Refusal}
use Rattle.bits.specs.Refusals.{number, refusal_said, longest, done, too_long, too_large, no_room, too_few, bad_row, ◌⟶◌, first_refusal, if_done, Told}
use Rattle.record.specs.declared.Record.{Record}
use Rattle.record.specs.Record.{fits, no_record}
use Rattle.strip.specs.Strip.{strip_length, count_of, tail_good}
use Rattle.rows.specs.declared.PackError.{PackError}
use Rattle.rows.specs.declared.PackError.TheVariants as why
use Rattle.rows.specs.Row.{columns_at, row_bytes, in_range, record_said, row_length}
use Rattle.rows.specs.Rows.{strip_rows, row_count, rows_whole, first_bad, rows_strip}

-- ---- what is told: the number of a refusal or done, and what there is with it

-- of a strip's rows: their length, and whether the strip's tail is good
pub record Rows : Type 0 where
  pub refusal : ℕ
  pub length : ℕ
  pub tail_good : Bool

-- of the strip of rows: with 11 the number of the first bad row from 1, else 0; its length, and whether the last row is whole
pub record Packed : Type 0 where
  pub refusal : ℕ
  pub row : ℕ
  pub length : ℕ
  pub tail_good : Bool

-- of the test of rows: with 11 the number of the first bad row from 1, else 0
pub record Found : Type 0 where
  pub refusal : ℕ
  pub row : ℕ

-- the outcome of writing a strip's rows: no length where its tail is bad
abbrev pub rows_told : Result (Option ℕ) Refusal → Rows
rows_told (Ok (Some n)) = record { refusal = done; length = n; tail_good = true }
rows_told (Ok None) = record { refusal = done; length = 0; tail_good = false }
rows_told (Err e) = record { refusal = number e; length = 0; tail_good = false }

-- the number of a refusal to pack, and the row with it
abbrev pub error_number : PackError → ℕ
error_number (why.Refused e) = number e
error_number (why.BadRow k) = bad_row

abbrev pub error_row : PackError → ℕ
error_row (why.Refused e) = 0
error_row (why.BadRow k) = k

-- what an error says of itself
abbrev pub error_said : PackError → List ℕ
error_said (why.Refused e) = refusal_said e
error_said (why.BadRow k) = codes "row " ++ (decimal k ++ codes " says no record")

-- the outcome of testing rows
abbrev pub found_told : Result Unit PackError → Found
found_told (Ok x) = record { refusal = done; row = 0 }
found_told (Err e) = record { refusal = error_number e; row = error_row e }

-- the outcome of packing rows: no length where the last row is cut
abbrev pub packed_told : Result (Option ℕ) PackError → Packed
packed_told (Ok (Some n)) = record { refusal = done; row = 0; length = n; tail_good = true }
packed_told (Ok None) = record { refusal = done; row = 0; length = 0; tail_good = false }
packed_told (Err e) = record { refusal = error_number e; row = error_row e; length = 0; tail_good = false }

-- ---- one record

-- 1, then 4 for a number that does not fit its field, then 8 for fewer than 18 bytes
unfoldable pub row_refusal : ℕ → Record → ℕ
row_refusal len r =
    first_refusal
    (ltb longest len ⟶ too_long
    ∷ not (fits r) ⟶ too_large
    ∷ ltb len row_length ⟶ no_room
    ∷ [])

-- the row at the front of the output, the rest untouched
unfoldable pub row_out : List ℕ → Record → List ℕ
row_out s r = if_done (row_refusal (length s) r) (sets s 0 (row_bytes r)) s

-- 1, then 9 for fewer than 18 bytes, then 11 for a row that says no record
unfoldable pub read_refusal : List ℕ → ℕ
read_refusal s =
    first_refusal
    (ltb longest (length s) ⟶ too_long
    ∷ ltb (length s) row_length ⟶ too_few
    ∷ not (in_range (columns_at s 0)) ⟶ bad_row
    ∷ [])

-- the record that the first row says
unfoldable pub read_of : List ℕ → Told Record
read_of s =
    if_done (read_refusal s)
    (record { refusal = done; value = record_said (columns_at s 0) })
    (record { refusal = read_refusal s; value = no_record })

-- ---- whole strips

-- 1 for either slice, then 8 where the output lacks room for a row of every record
unfoldable pub rows_refusal : List ℕ → ℕ → ℕ
rows_refusal s len =
    first_refusal
    (ltb longest (length s) ⟶ too_long
    ∷ ltb longest len ⟶ too_long
    ∷ ltb len (row_length * count_of s) ⟶ no_room
    ∷ [])

-- the length of the rows, and whether the tail is good
unfoldable pub rows_of : List ℕ → ℕ → Rows
rows_of s len =
    if_done (rows_refusal s len)
    (record { refusal = done; length = length (strip_rows s); tail_good = tail_good s })
    (record { refusal = rows_refusal s len; length = 0; tail_good = false })

-- the rows at the front of the output, the rest untouched
unfoldable pub rows_out : List ℕ → List ℕ → List ℕ
rows_out s out = if_done (rows_refusal s (length out)) (sets out 0 (strip_rows s)) out

-- 1 for either slice, then 8 where the output lacks room for the strip of the whole rows, then 11 for a row that says no record
unfoldable pub pack_refusal : List ℕ → ℕ → ℕ
pack_refusal s len =
    first_refusal
    (ltb longest (length s) ⟶ too_long
    ∷ ltb longest len ⟶ too_long
    ∷ ltb len (strip_length (row_count s)) ⟶ no_room
    ∷ not (eqb (first_bad s) 0) ⟶ bad_row
    ∷ [])

-- with 11 the number of the first bad row
abbrev pub found_of : List ℕ → ℕ → Found
found_of s len = record { refusal = pack_refusal s len; row = cond (eqb (pack_refusal s len) bad_row) (first_bad s) 0 }

-- the length of the strip, and whether the last row is whole; with 11 the number of the first bad row
unfoldable pub packed_of : List ℕ → ℕ → Packed
packed_of s len =
    if_done (pack_refusal s len)
    (record { refusal = done; row = 0; length = length (rows_strip s); tail_good = rows_whole s })
    (record { refusal = pack_refusal s len; row = cond (eqb (pack_refusal s len) bad_row) (first_bad s) 0; length = 0; tail_good = false })

-- the strip at the front of the output, the rest untouched
unfoldable pub packed_out : List ℕ → List ℕ → List ℕ
packed_out s out = if_done (pack_refusal s (length out)) (sets out 0 (rows_strip s)) out
