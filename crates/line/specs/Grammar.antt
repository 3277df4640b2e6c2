-- The grammar of a line: its parts as they are spelled, the text that they make, the record that they name, and which are good.
use Rattle.std.specs.Prelude.{◌≡◌, ℕ, ◌+◌, ◌-◌, ◌*◌, ◌^◌, ◌≤◌, Bool, true, cond, List, [], ◌∷◌, ◌++◌, length, ℤ, pos, neg_ℤ}
use Rattle.record.specs.declared.Record.{Record}
use Rattle.record.specs.Record.{Fits}
use Rattle.digits.specs.Digits.{comma, point, minus, newline, value_of, Whole, Decimals}
use Rattle.line.specs.Date.{units_of}

-- the parts of a line: lists of digits, and whether a minus stands before the magnitude
pub record Parts : Type 0 where
  pub star : List ℕ
  pub days : List ℕ
  pub day_decimals : List ℕ
  pub limit : List ℕ
  pub negative : Bool
  pub magnitude : List ℕ
  pub magnitude_decimals : List ℕ
  pub error : List ℕ
  pub error_decimals : List ℕ
  pub filter : List ℕ

-- a text behind a minus, or as it is
abbrev pub sign : Bool → List ℕ → List ℕ
sign b s = cond b (minus ∷ s) s

-- the line: six numbers joined by commas, then a newline; a text s behind it
unfoldable pub spelled : Parts → List ℕ → List ℕ
spelled p s =
    p.star ++ comma ∷ (p.days ++ point ∷ (p.day_decimals ++ comma ∷ (p.limit ++ comma ∷ sign p.negative
    (p.magnitude ++ point ∷ (p.magnitude_decimals ++ comma ∷ (p.error ++ point ∷ (p.error_decimals ++ comma ∷
    (p.filter ++ newline ∷ s))))))))

-- thousandths, of a whole part and the number that three decimals spell
abbrev pub thousandths : ℕ → ℕ → ℕ
thousandths w v = 1000 * w + v

-- the magnitude without its sign
abbrev pub magnitude_of : Parts → ℕ
magnitude_of p = thousandths (value_of p.magnitude) (value_of p.magnitude_decimals)

-- a number, below zero behind a minus
abbrev pub signed_by : Bool → ℕ → ℤ
signed_by b n = cond b (neg_ℤ (pos n)) (pos n)

-- the record that the parts name
unfoldable pub meant : Parts → Record
meant p =
    record {
      star = value_of p.star;
      date = units_of (value_of p.days) (value_of p.day_decimals) (length p.day_decimals);
      limit = value_of p.limit;
      magnitude = signed_by p.negative (magnitude_of p);
      error = thousandths (value_of p.error) (value_of p.error_decimals);
      filter = value_of p.filter;
    }

-- what the parts say with the date as it is spelled, to the last decimal, in units of 10^-12 day
abbrev pub unrounded : Parts → Record
unrounded p =
    record {
      star = (meant p).star;
      date = value_of (p.days ++ p.day_decimals) * 10 ^ (12 - length p.day_decimals);
      limit = (meant p).limit;
      magnitude = (meant p).magnitude;
      error = (meant p).error;
      filter = (meant p).filter;
    }

-- good parts: whole parts have no needless leading zero, the date has five to twelve decimals, magnitude and error have three, a minus is
-- never on zero, and values fit their fields
pub record Good (p : Parts) : Type 0 where
  pub star : Whole p.star
  pub days : Whole p.days
  pub day_decimals : Decimals 5 12 p.day_decimals
  pub limit : Whole p.limit
  pub magnitude : Whole p.magnitude
  pub magnitude_decimals : Decimals 3 3 p.magnitude_decimals
  pub error : Whole p.error
  pub error_decimals : Decimals 3 3 p.error_decimals
  pub filter : Whole p.filter
  pub not_minus_zero : p.negative ≡ true → 1 ≤ magnitude_of p
  pub fits : Fits (meant p)

-- a text is a line that names a record
pub record Line (s : List ℕ) (r : Record) : Type 0 where
  pub parts : Parts
  pub good : Good parts
  pub text : s ≡ spelled parts []
  pub names : r ≡ meant parts
