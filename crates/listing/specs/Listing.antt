-- The line of a record, and what write_line answers.
use Rattle.std.specs.Prelude.{ℕ, ◌+◌, ◌/◌, ◌%◌, Bool, cond, not, List, [], ◌∷◌, length, ltb, ℤ, pos, nat_abs, Result, Ok, Err}
use Rattle.std.proofs.lemmas.List.Edits.{sets}
use Rattle.std.specs.Int.Signed.{lt_z}
use Rattle.bits.specs.declared.Refusal.{Refusal}
use Rattle.bits.specs.Refusals.{longest, done, number, too_long, too_large, no_room, ◌⟶◌, first_refusal, if_done, LengthTold}
use Rattle.record.specs.declared.Record.{Record}
use Rattle.record.specs.Record.{fits}
use Rattle.line.specs.Date.{day}
use Rattle.line.specs.Grammar.{Parts, spelled}
use Rattle.print.specs.Print.{digits_of, places, whole_of}

-- whether a number is below zero
abbrev pub is_negative : ℤ → Bool
is_negative z = lt_z z (pos 0)

-- the parts of a record's line: five date decimals, three of magnitude and error
unfoldable pub parts_of : Record → Parts
parts_of r =
    record {
      star = whole_of r.star;
      days = whole_of (r.date / day);
      day_decimals = digits_of 5 (r.date % day);
      limit = whole_of r.limit;
      negative = is_negative r.magnitude;
      magnitude = whole_of (nat_abs r.magnitude / 1000);
      magnitude_decimals = digits_of 3 (nat_abs r.magnitude % 1000);
      error = whole_of (r.error / 1000);
      error_decimals = digits_of 3 (r.error % 1000);
      filter = whole_of r.filter;
    }

-- a record's line
unfoldable pub line_of : Record → List ℕ
line_of r = spelled (parts_of r) []

-- how many bytes a magnitude takes before its point
abbrev pub magnitude_size : ℤ → ℕ
magnitude_size z = cond (is_negative z) 1 0 + places (nat_abs z / 1000)

-- how many bytes a record's line takes: its whole parts, and eleven decimals, three points, five commas and a newline
abbrev pub size_of : Record → ℕ
size_of r =
    places r.star + places (r.date / day) + places r.limit + magnitude_size r.magnitude + places (r.error / 1000) + places r.filter
    + 20

-- 1 for an output past the limit, 4 for a number too large for its field, 8 for no room
unfoldable pub write_refusal : Record → ℕ → ℕ
write_refusal r room =
    first_refusal
    (ltb longest room ⟶ too_long
    ∷ not (fits r) ⟶ too_large
    ∷ ltb room (length (line_of r)) ⟶ no_room
    ∷ [])

-- write_line: the refusal number, and the line's length or 0
unfoldable pub write_line : Record → ℕ → LengthTold
write_line r room =
    record {
      refusal = write_refusal r room;
      length = if_done (write_refusal r room) (length (line_of r)) 0;
    }

-- the output: the line at its front, the rest untouched; all of it untouched with a refusal
unfoldable pub write_out : Record → List ℕ → List ℕ
write_out r out = if_done (write_refusal r (length out)) (sets out 0 (line_of r)) out
