-- Lines on both sides of each rule: texts, and what read_line answers of them. One table, one statement, by computation.
use Rattle.std.proofs.Common.{◌≡◌, ℕ, List, [], ◌∷◌, map, ℤ, pos, neg_ℤ, refl}
use Prim.Native.String.{String}
use Rattle.bits.specs.Refusals.{done, bad_line, or_else, first_refusal, Told}
use Rattle.bits.specs.Signed.{signed}
use Rattle.record.specs.declared.Record.{Record}
use Rattle.record.specs.Record.{fits, no_record}
use Rattle.digits.specs.Digits.{ascii, value_from}
use Rattle.digits.specs.Reading.{run, after, closed, whole_at, decimals_at}
use Rattle.line.specs.Date.{units_of}
use Rattle.line.specs.Reading.{date_at, thousandths_at, complement, magnitude_at, six_at, line_read, line_refusal, read_line}

-- a text, and what is expected of it
pub record Row : Type 0 where
  pub text : String
  pub answer : (Told Record)

-- a text that is a line of a record
infix 90 ◌names◌
abbrev pub ◌names◌ : String → Record → Row
t names r = record { text = t; answer = line_read done r }

-- a text that is no line
abbrev pub refused : String → Row
refused t = record { text = t; answer = line_read bad_line no_record }

-- star, date, limit, magnitude, error, filter
abbrev pub six : ℕ → ℕ → ℕ → ℤ → ℕ → ℕ → Record
six a b c d e f = record { star = a; date = b; limit = c; magnitude = d; error = e; filter = f }

-- a number below zero
abbrev pub below : ℕ → ℤ
below n = neg_ℤ (pos n)

-- the table
abbrev pub table : List Row
table =
    "5,2460523.64817,0,-1.440,0.012,3\n" names six 5 246052364817 0 (below 1440) 12 3
    -- the six numbers joined by commas, then a newline
    ∷ refused ""
    ∷ refused "\n"
    ∷ refused "5,2460523.64817,0,-1.440,0.012,3"
    ∷ refused "5,2460523.64817,0,-1.440,0.012,3\r\n"
    ∷ refused "5,2460523.64817,0,-1.440,0.012,3\n\n"
    ∷ refused "5,2460523.64817,0,-1.440,0.012,3\n5"
    ∷ refused "5,2460523.64817,0,-1.440,0.012,3,\n"
    ∷ refused "5,2460523.64817,0,-1.440,0.012\n"
    ∷ refused "5,2460523.64817,0,-1.440,0.012,\n"
    ∷ refused "5;2460523.64817,0,-1.440,0.012,3\n"
    ∷ refused " 5,2460523.64817,0,-1.440,0.012,3\n"
    ∷ refused "5 ,2460523.64817,0,-1.440,0.012,3\n"
    ∷ refused "/,2460523.64817,0,-1.440,0.012,3\n"
    ∷ refused ":,2460523.64817,0,-1.440,0.012,3\n"
    -- whole parts have no needless leading zero
    ∷ "0,0.00000,0,0.000,0.000,0\n" names no_record
    ∷ "10,9.00000,1,10.000,1.000,10\n" names six 10 900000 1 (pos 10000) 1000 10
    ∷ refused ",2460523.64817,0,-1.440,0.012,3\n"
    ∷ refused "05,2460523.64817,0,-1.440,0.012,3\n"
    ∷ refused "00,2460523.64817,0,-1.440,0.012,3\n"
    ∷ refused "5,.64817,0,-1.440,0.012,3\n"
    ∷ refused "5,02460523.64817,0,-1.440,0.012,3\n"
    ∷ refused "5,2460523.64817,00,-1.440,0.012,3\n"
    ∷ refused "5,2460523.64817,0,-01.440,0.012,3\n"
    ∷ refused "5,2460523.64817,0,-.440,0.012,3\n"
    ∷ refused "5,2460523.64817,0,-1.440,00.012,3\n"
    ∷ refused "5,2460523.64817,0,-1.440,0.012,03\n"
    -- magnitude and error have three decimals
    ∷ refused "5,2460523.64817,0,-1,0.012,3\n"
    ∷ refused "5,2460523.64817,0,-1.44,0.012,3\n"
    ∷ refused "5,2460523.64817,0,-1.4400,0.012,3\n"
    ∷ refused "5,2460523.64817,0,-1.440,0.01,3\n"
    ∷ refused "5,2460523.64817,0,-1.440,0.0120,3\n"
    -- only magnitude may have a minus, never on zero
    ∷ "5,2460523.64817,0,1.440,0.012,3\n" names six 5 246052364817 0 (pos 1440) 12 3
    ∷ "5,2460523.64817,0,-0.001,0.012,3\n" names six 5 246052364817 0 (below 1) 12 3
    ∷ "5,2460523.64817,0,0.000,0.012,3\n" names six 5 246052364817 0 (pos 0) 12 3
    ∷ refused "5,2460523.64817,0,-0.000,0.012,3\n"
    ∷ refused "5,2460523.64817,0,--1.440,0.012,3\n"
    ∷ refused "5,2460523.64817,0,+1.440,0.012,3\n"
    ∷ refused "-5,2460523.64817,0,-1.440,0.012,3\n"
    ∷ refused "5,-2460523.64817,0,-1.440,0.012,3\n"
    ∷ refused "5,2460523.64817,-0,-1.440,0.012,3\n"
    ∷ refused "5,2460523.64817,0,-1.440,-0.012,3\n"
    ∷ refused "5,2460523.64817,0,-1.440,0.012,-3\n"
    -- the date has 5 to 12 decimals, and is the nearest unit, halves upward
    ∷ refused "5,2460523.6481,0,-1.440,0.012,3\n"
    ∷ "5,2460523.648174,0,-1.440,0.012,3\n" names six 5 246052364817 0 (below 1440) 12 3
    ∷ "5,2460523.648174999999,0,-1.440,0.012,3\n" names six 5 246052364817 0 (below 1440) 12 3
    ∷ "5,2460523.648175,0,-1.440,0.012,3\n" names six 5 246052364818 0 (below 1440) 12 3
    ∷ "5,2460523.648175000000,0,-1.440,0.012,3\n" names six 5 246052364818 0 (below 1440) 12 3
    ∷ "5,2460523.999996,0,-1.440,0.012,3\n" names six 5 246052400000 0 (below 1440) 12 3
    ∷ "5,0.999994999999,0,-1.440,0.012,3\n" names six 5 99999 0 (below 1440) 12 3
    ∷ "5,0.999995,0,-1.440,0.012,3\n" names six 5 100000 0 (below 1440) 12 3
    ∷ refused "5,2460523.6481700000000,0,-1.440,0.012,3\n"
    -- values fit their fields
    ∷ "1048575,2748779.06943,1,32.767,1.023,15\n" names six 1048575 274877906943 1 (pos 32767) 1023 15
    ∷ "5,2748779.069434999999,0,-32.768,0.012,3\n" names six 5 274877906943 0 (below 32768) 12 3
    ∷ refused "1048576,2460523.64817,0,-1.440,0.012,3\n"
    ∷ refused "18446744073709551621,2460523.64817,0,-1.440,0.012,3\n"
    ∷ refused "5,2748779.06944,0,-1.440,0.012,3\n"
    ∷ refused "5,2748779.069435,0,-1.440,0.012,3\n"
    ∷ refused "5,2748779.069439999999,0,-1.440,0.012,3\n"
    ∷ refused "5,2460523.64817,2,-1.440,0.012,3\n"
    ∷ refused "5,2460523.64817,0,32.768,0.012,3\n"
    ∷ refused "5,2460523.64817,0,-32.769,0.012,3\n"
    ∷ refused "5,2460523.64817,0,-1.440,1.024,3\n"
    ∷ refused "5,2460523.64817,0,-1.440,0.012,16\n"
    ∷ []

-- every text of the table is answered as expected
pub table_holds : map (λ (r : Row). read_line (ascii r.text)) table ≡ map (λ (r : Row). r.answer) table
unfolding ascii value_from run after closed whole_at decimals_at units_of date_at thousandths_at complement magnitude_at signed six_at fits first_refusal or_else line_refusal read_line
table_holds = refl
