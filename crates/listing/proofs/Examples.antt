-- Records on both sides of each rule of listing: what write_line answers, and the line. One table, one statement, by computation.
use Prim.Native.Nat.{ℕ, ◌+◌, ◌^◌}
use Prim.Native.String.{String}
use mathlib.Core.Path.{◌≡◌, refl}
use mathlib.Core.List.{List, [], ◌∷◌, map}
use lib.IntN.{pos}
use Rattle.bits.specs.Refusals.{longest, done, too_long, too_large, no_room, or_else, first_refusal, if_done, LengthTold}
use Rattle.record.specs.declared.Record.{Record}
use Rattle.record.specs.Record.{fits, no_record}
use Rattle.digits.specs.Digits.{ascii}
use Rattle.line.specs.Grammar.{spelled}
use Rattle.line.proofs.Examples.{six, below}
use Rattle.print.specs.Print.{digits_of, places_in}
use Rattle.listing.specs.Listing.{parts_of, line_of, write_refusal, write_line}

-- a record, how many bytes the output has, and what is expected: refusal number, length and line
pub record Row : Type 0 where
  pub of : Record
  pub room : ℕ
  pub refusal : ℕ
  pub length : ℕ
  pub text : String

-- a line that is written, of n bytes
abbrev pub writes : Record → ℕ → ℕ → String → Row
writes r room n t = record { of = r; room = room; refusal = done; length = n; text = t }

-- a refusal
abbrev pub refuses : Record → ℕ → ℕ → Row
refuses r room e = record { of = r; room = room; refusal = e; length = 0; text = "" }

-- what the definitions answer: refusal number, length, and the line if there is no refusal
unfoldable pub told : Row → List ℕ
told row =
    let w : LengthTold = write_line row.of row.room in
    w.refusal ∷ w.length ∷ if_done w.refusal (line_of row.of) []

-- the table
abbrev pub table : List Row
table =
    writes (six 5 246052364817 0 (below 1440) 12 3) 33 33 "5,2460523.64817,0,-1.440,0.012,3\n"
    -- whole parts have no needless leading zero; decimals keep theirs
    ∷ writes no_record 26 26 "0,0.00000,0,0.000,0.000,0\n"
    ∷ writes (six 10 100001 1 (pos 10) 1000 10) 99 28 "10,1.00001,1,0.010,1.000,10\n"
    -- a minus only below zero
    ∷ writes (six 5 246052364817 0 (below 1) 12 3) 33 33 "5,2460523.64817,0,-0.001,0.012,3\n"
    ∷ writes (six 5 246052364817 0 (pos 1) 12 3) 33 32 "5,2460523.64817,0,0.001,0.012,3\n"
    -- the longest line, and room one short
    ∷ writes (six 1048575 274877906943 1 (below 32768) 1023 15) 41 41 "1048575,2748779.06943,1,-32.768,1.023,15\n"
    ∷ refuses (six 1048575 274877906943 1 (below 32768) 1023 15) 40 no_room
    ∷ refuses no_record 25 no_room
    ∷ refuses no_record 0 no_room
    -- the limit
    ∷ writes no_record longest 26 "0,0.00000,0,0.000,0.000,0\n"
    ∷ refuses no_record (longest + 1) too_long
    -- numbers too large for their fields; the lowest refusal is given
    ∷ refuses (six (2 ^ 20) 0 0 (pos 0) 0 0) 99 too_large
    ∷ refuses (six 0 (2 ^ 38) 0 (pos 0) 0 0) 99 too_large
    ∷ refuses (six 0 0 2 (pos 0) 0 0) 99 too_large
    ∷ refuses (six 0 0 0 (pos 0) 1024 0) 99 too_large
    ∷ refuses (six 0 0 0 (pos 0) 0 16) 99 too_large
    ∷ refuses (six 0 0 0 (pos 0) 0 16) 0 too_large
    ∷ refuses (six 0 0 0 (pos 0) 0 16) (longest + 1) too_long
    ∷ []

-- every record of the table is listed as expected
pub table_holds : map told table ≡ map (λ (row : Row). row.refusal ∷ row.length ∷ ascii row.text) table
unfolding told ascii write_line write_refusal first_refusal or_else fits line_of parts_of spelled digits_of places_in
table_holds = refl
