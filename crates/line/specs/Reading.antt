-- How a line is read: its six numbers from the front of a text, each with the byte that ends it.
use Rattle.std.specs.Prelude.{◌≡◌, ℕ, ◌+◌, ◌-◌, ◌%◌, ◌^◌, ◌<◌, ◌≤◌, Bool, true, false, cond, not, ◌&&◌, List, [], ◌∷◌, length, drop, nat_le, nat_lt, Some, None, Result, Ok, Err}
use Rattle.bits.specs.declared.Refusal.{Refusal}
use Rattle.bits.specs.Refusals.{longest, done, too_long, bad_line, number, ◌⟶◌, first_refusal, if_done, Told, told_by}
use Rattle.record.specs.declared.Record.{Record}
use Rattle.record.specs.Record.{depth, fits, record_of, no_record}
use Rattle.digits.specs.Digits.{comma, point, minus, newline}
use Rattle.digits.specs.Reading.{Part, part, most, starts, whole_at, decimals_at}
use Rattle.line.specs.declared.inner.LineAt.{LineAt}
use Rattle.line.specs.Date.{units_of}
use Rattle.line.specs.Grammar.{thousandths}

-- the date at the front of a text, in units
unfoldable pub date_at : List ℕ → Part
date_at s =
    let w : Part = whole_at point s in
    let d : Part = decimals_at 5 12 comma w.rest in
    part (units_of w.value d.value d.count) 0 d.rest

-- the number with three decimals at the front of a text, in thousandths
unfoldable pub thousandths_at : List ℕ → Part
thousandths_at s =
    let w : Part = whole_at point s in
    let d : Part = decimals_at 3 3 comma w.rest in
    part (thousandths w.value d.value) 0 d.rest

-- n thousandths, with a minus or without, in two's complement of 64 bits; minus zero, and what lies too far below zero, fits nowhere
unfoldable pub complement : Bool → ℕ → ℕ
complement false n = n
complement true n = cond (nat_le 1 n && nat_le n depth) (2 ^ 64 - n) most

-- the magnitude at the front of a text, in two's complement of 64 bits
unfoldable pub magnitude_at : List ℕ → Part
magnitude_at s =
    let b : Bool = starts minus s in
    let m : Part = thousandths_at (cond b (drop 1 s) s) in
    part (complement b m.value) 0 m.rest

-- six numbers as they are read, and the text behind them
pub record Six : Type 0 where
  pub star : ℕ
  pub date : ℕ
  pub limit : ℕ
  pub magnitude : ℕ
  pub error : ℕ
  pub filter : ℕ
  pub rest : List ℕ

-- the six numbers at the front of a text
unfoldable pub six_at : List ℕ → Six
six_at s =
    let a : Part = whole_at comma s in
    let b : Part = date_at a.rest in
    let c : Part = whole_at comma b.rest in
    let d : Part = magnitude_at c.rest in
    let e : Part = thousandths_at d.rest in
    let f : Part = whole_at newline e.rest in
    record {
      star = a.value;
      date = b.value;
      limit = c.value;
      magnitude = d.value;
      error = e.value;
      filter = f.value;
      rest = f.rest;
    }

-- the record of a text's first line
abbrev pub first_of : List ℕ → Record
first_of s = let x : Six = six_at s in record_of x.star x.date x.limit x.magnitude x.error x.filter

-- whether a text begins with a line
abbrev pub begins : List ℕ → Bool
begins s = fits (first_of s)

-- the text behind its first line
abbrev pub behind : List ℕ → List ℕ
behind s = (six_at s).rest

-- whether there is no text
abbrev pub is_nil : List ℕ → Bool
is_nil [] = true
is_nil (b ∷ s) = false

abbrev pub line_read : ℕ → Record → Told Record
line_read e r = told_by e r

-- 1 past the limit, 7 for a text that is not one line
unfoldable pub line_refusal : List ℕ → ℕ
line_refusal s = first_refusal (nat_lt longest (length s) ⟶ too_long ∷ not (begins s && is_nil (behind s)) ⟶ bad_line ∷ [])

-- what read_line answers
unfoldable pub read_line : List ℕ → Told Record
read_line s = line_read (line_refusal s) (if_done (line_refusal s) (first_of s) no_record)

-- a magnitude as its distance from the least, as the code carries it until it is tested
abbrev pub from_least : Part → Part
from_least p = part ((p.value + depth) % 2 ^ 64) 0 p.rest

-- line_at: the record of the line at a place, if one begins there, and the place of the text behind it, which lies further on
pub record LineStands (s : List ℕ) (at : ℕ) (r : LineAt) : Type 0 where
  pub names : r.«record» ≡ cond (begins (drop at s)) (Some (first_of (drop at s))) None
  pub rest : drop r.next s ≡ behind (drop at s)
  pub within : r.next ≤ length s
  pub further : begins (drop at s) ≡ true → at < r.next
