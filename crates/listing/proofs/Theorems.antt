-- The theorems on listing: a listed line is read as the record, has five date decimals, and takes at most 41 bytes.
use Prim.Native.Nat.{◌≤◌}
use mathlib.Core.Path.{◌≡◌, refl, sym}
use lib.ListN.{length}
use native.Mathlib.Omega.{arith}
use Rattle.bits.specs.Refusals.{done}
use Rattle.record.specs.declared.Record.{Record}
use Rattle.record.specs.Record.{Fits}
use Rattle.line.specs.Grammar.{Line}
use Rattle.line.specs.Reading.{line_read, read_line}
use Rattle.line.proofs.Theorems.{acceptable}
use Rattle.print.proofs.DigitLaws.{digits_length}
use Rattle.listing.specs.Listing.{parts_of, line_of, size_of}
use Rattle.listing.proofs.TripLaws.{parts_mean, parts_good}
use Rattle.listing.proofs.PieceLaws.{line_length, size_few}

-- listed: the line of a record that fits is a line of the grammar, and names that record
pub listed : (r : Record) → Fits r → Line (line_of r) r
unfolding line_of
listed r f = record { parts = parts_of r; good = parts_good r f; text = refl; names = sym (parts_mean r f) }

-- line-room: a line takes exactly `size_of` bytes, and those are 41 at most
pub line_room : (r : Record) → Fits r → (length (line_of r) ≡ size_of r) × (size_of r ≤ 41)
line_room r f = (line_length r, size_few r f)

-- five-decimals: a listed date has five decimals
pub five_decimals : (r : Record) → length (parts_of r).day_decimals ≡ 5
unfolding parts_of
five_decimals r = digits_length 5 _

-- round_trip: reading the line of a record that fits gives the record back
pub round_trip : (r : Record) → Fits r → read_line (line_of r) ≡ line_read done r
round_trip r f = let l = line_room r f in let a = l.0 in let b = l.1 in acceptable (omega arith) (listed r f)
