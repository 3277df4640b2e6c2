-- What packing and reading records and strips answer, and what lent memory holds afterwards, on every input.
use Rattle.reader.specs.Answers.{ReadTold}
use Rattle.std.specs.Prelude.{ℕ, Result, Ok, Err, ◌+◌, ◌*◌, Bool, false, not, List, [], ◌∷◌, length, ltb}
use Rattle.std.proofs.lemmas.List.Edits.{sets}
use Rattle.bits.specs.declared.Order.TheVariants.{Big}
use Rattle.bits.specs.declared.Refusal.{Refusal}
use Rattle.bits.specs.Refusals.{number, longest, done, too_long, too_large, no_room, too_few, ◌⟶◌, first_refusal, if_done, LengthTold}
use Rattle.packing.specs.Packing.{put, put_out}
use Rattle.reader.specs.declared.Cursor.{Cursor}
use Rattle.reader.specs.declared.Read.{Read}
use Rattle.reader.specs.Cursor.{place, bits_left, gone_to, cursor_refusal}
use Rattle.writer.specs.declared.Writer.{Writer}
use Rattle.writer.specs.Writer.{state_in, writer_refusal, room_refusal}
use Rattle.writer.specs.Answers.{Wrote, wrote}
use Rattle.record.specs.declared.Record.{Record}
use Rattle.record.specs.Record.{fits, no_record, record_bits}
use Rattle.strip.specs.declared.StripRead.{StripRead}
use Rattle.strip.specs.Bits.{bits_of, record_at}
use Rattle.strip.specs.Strip.{records_in, all_fit, all_numbers, strip_length, strip_bytes, count_of, records_of, tail_good}

-- ---- what is told: the number of a refusal or done, and what there is with it

-- of a strip that is read: how many records there are, and whether its tail is good
pub record StripTold : Type 0 where
  pub refusal : ℕ
  pub count : ℕ
  pub tail_good : Bool

-- the outcome of reading a strip
abbrev pub strip_told : Result StripRead Refusal → StripTold
strip_told (Ok r) = record { refusal = done; count = r.count; tail_good = r.tail_good }
strip_told (Err e) = record { refusal = number e; count = 0; tail_good = false }

-- ---- one record

-- 1 and 2, then 4 for a number that does not fit its field, then 8 for no room for 89 bits
unfoldable pub pack_refusal : ℕ → Writer → Record → ℕ
pack_refusal len w r =
    first_refusal
    (writer_refusal len w
    ∷ not (fits r) ⟶ too_large
    ∷ room_refusal len w record_bits
    ∷ [])

unfoldable pub pack_of : ℕ → Writer → Record → Wrote
pack_of len w r = wrote (pack_refusal len w r) w (put Big (state_in w) record_bits (bits_of r))

unfoldable pub pack_out : List ℕ → Writer → Record → List ℕ
pack_out s w r = if_done (pack_refusal (length s) w r) (put_out Big s (state_in w) record_bits (bits_of r)) s

-- 1 and 2, then 9 where under 89 bits are left
unfoldable pub read_refusal : List ℕ → Cursor → ℕ
read_refusal s c = first_refusal (cursor_refusal Big s c ∷ ltb (bits_left s c) record_bits ⟶ too_few ∷ [])

-- the record at the place, and the cursor behind it with the fewest bits held
unfoldable pub read_of : List ℕ → Cursor → ReadTold Record
read_of s c =
    if_done (read_refusal s c)
    (record { refusal = done; value = record_at s (place c); cursor = gone_to Big s c (place c + record_bits) })
    (record { refusal = read_refusal s c; value = no_record; cursor = c })

-- ---- whole strips

-- 1, then 4 for a number of the n records that does not fit its field, then 8 for too few numbers or too short an output
unfoldable pub strip_refusal : List ℕ → ℕ → ℕ → ℕ
strip_refusal ns n len =
    first_refusal
    (ltb longest len ⟶ too_long
    ∷ not (all_fit (records_in n ns)) ⟶ too_large
    ∷ ltb (length ns) (6 * n) ⟶ no_room
    ∷ ltb len (strip_length n) ⟶ no_room
    ∷ [])

unfoldable pub strip_of : List ℕ → ℕ → ℕ → LengthTold
strip_of ns n len =
    record {
      refusal = strip_refusal ns n len;
      length = if_done (strip_refusal ns n len) (strip_length n) 0;
    }

-- the strip at the front of the output, the rest untouched
unfoldable pub packed_out : List ℕ → ℕ → List ℕ → List ℕ
packed_out ns n s = if_done (strip_refusal ns n (length s)) (sets s 0 (strip_bytes (records_in n ns))) s

-- 1, then 8 where the list lacks room for every record
unfoldable pub list_refusal : List ℕ → ℕ → ℕ
list_refusal s room = first_refusal (ltb longest (length s) ⟶ too_long ∷ ltb room (6 * count_of s) ⟶ no_room ∷ [])

unfoldable pub list_of : List ℕ → ℕ → StripTold
list_of s room =
    if_done (list_refusal s room)
    (record { refusal = done; count = count_of s; tail_good = tail_good s })
    (record { refusal = list_refusal s room; count = 0; tail_good = false })

-- the numbers of the records at the front of the list, the rest untouched
unfoldable pub list_out : List ℕ → List ℕ → List ℕ
list_out s ns = if_done (list_refusal s (length ns)) (sets ns 0 (all_numbers (records_of s))) ns
