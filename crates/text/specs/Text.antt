-- Whole texts: a header line and a line a record.
use Rattle.std.specs.Prelude.{ℕ, zero, suc, ◌+◌, Bool, true, false, cond, ◌&&◌, List, [], ◌∷◌, ◌++◌, length, drop, eqb}
use Rattle.digits.specs.Digits.{ascii, newline}
use Rattle.record.specs.declared.Record.{Record}
use Rattle.line.specs.Reading.{begins, first_of, behind, is_nil}
use Rattle.listing.specs.Listing.{line_of}
use Rattle.strip.specs.Strip.{records_of, tail_good}

-- the header line
unfoldable pub header : List ℕ
header = ascii "star,date,limit,mag,err,filter" ++ newline ∷ []

-- the last line of a strip whose tail is bad
unfoldable pub bad_tail : List ℕ
bad_tail = ascii "bad tail" ++ newline ∷ []

-- ---- listing

-- the lines of records
unfoldable pub listed : List Record → List ℕ
listed [] = []
listed (r ∷ rs) = line_of r ++ listed rs

-- the text of a strip: the header, a line a record, and `bad tail` where the tail is bad
abbrev pub text_of : List ℕ → List ℕ
text_of s = header ++ (listed (records_of s) ++ cond (tail_good s) [] bad_tail)

-- ---- packing

-- whether a text starts with these bytes
unfoldable pub headed : List ℕ → List ℕ → Bool
headed [] s = true
headed (h ∷ hs) [] = false
headed (h ∷ hs) (b ∷ s) = eqb b h && headed hs s

-- the records of the lines before the first bad one, and whether there is none
pub record Lines : Type 0 where
  pub records : List Record
  pub good : Bool

abbrev pub more : Record → Lines → Lines
more r l = record { records = r ∷ l.records; good = l.good }

abbrev pub stopped : Bool → Lines
stopped b = record { records = []; good = b }

-- the lines of a text, read from the front, each from where the last one ended; at most n of them
unfoldable pub lines_in : ℕ → List ℕ → Lines
lines_in zero s = stopped (is_nil s)
lines_in (suc n) s = cond (is_nil s) (stopped true) (cond (begins s) (more (first_of s) (lines_in n (behind s))) (stopped false))

-- all of them: a line has at least a byte
abbrev pub lines_of : List ℕ → Lines
lines_of s = lines_in (length s) s

-- the lines behind the header
abbrev pub body_of : List ℕ → Lines
body_of t = lines_of (drop (length header) t)

-- the number of the first bad line, the header being line 1
abbrev pub bad_line_of : List ℕ → ℕ
bad_line_of t = cond (headed header t) (length (body_of t).records + 2) 1
