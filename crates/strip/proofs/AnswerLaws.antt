-- Laws of answers: what a call that is done has tested, and what it leaves.
use mathlib.Core.Path.{◌≡◌, refl, subst}
use mathlib.Core.Bool.{true}
use mathlib.Core.List.{List}
use Prim.Native.Nat.{ℕ, ◌+◌, ◌*◌, ◌≤◌}
use native.Mathlib.Omega.{arith}
use lib.ListN.{length}
use lib.Seq.{sets}
use borrow.Author.Tests.{le-ltb, eq-eqb}
use Rattle.reader.specs.Answers.{ReadTold}
use Rattle.bits.specs.declared.Order.TheVariants.{Big}
use Rattle.bits.specs.Refusals.{longest, done, or_else, first_refusal, LengthTold}
use Rattle.bits.proofs.RefusalLaws.{passed, test_held, at_most, if_done_lem}
use Rattle.packing.specs.declared.State.{State}
use Rattle.packing.specs.Packing.{Belongs, put, put_out}
use Rattle.packing.proofs.BelongsLaws.{refusal_belongs, belongs_refusal}
use Rattle.reader.specs.declared.Cursor.{Cursor}
use Rattle.reader.specs.Cursor.{place, bits_left, gone_to, cursor_refusal, Fits, Own}
use Rattle.reader.proofs.CursorLaws.{refusal_own, own_done, left_inside, left_stop, gone_own}
use Rattle.writer.specs.declared.Writer.{Writer}
use Rattle.writer.specs.Writer.{state_in, writer_with, bits_written, padding}
use Rattle.writer.specs.Answers.{flush_out}
use Rattle.writer.proofs.WriteLaws.{Stored, put_stored}
use Rattle.record.specs.declared.Record.{Record}
use Rattle.record.specs.Record.{fits, record_bits}
use Rattle.record.proofs.FitLaws.{fits-true}
use Rattle.strip.specs.Bits.{bits_of}
use Rattle.strip.specs.Strip.{all_numbers, records_in, all_fit, strip_length, strip_bytes, count_of, records_of, tail_good}
use Rattle.strip.specs.Answers.{pack_refusal, pack_of, pack_out, read_refusal, read_of, strip_refusal, strip_of, packed_out, list_refusal, list_of, list_out}
use Rattle.strip.proofs.BitsLaws.{bits-lt}

-- an answer of two parts
abbrev pub packed : ℕ → ℕ → LengthTold
packed e n = record { refusal = e; length = n }

-- a record that is packed fits, and has room
pub pack_passed : (len : ℕ) (w : Writer) (r : Record) → pack_refusal len w r ≡ done → Belongs len (state_in w) × (bits_written w + record_bits ≤ 8 * len) × (fits r ≡ true)
unfolding pack_refusal
pack_passed len w r z =
    let (of, (fit, room)) = passed _ z in
    (refusal_belongs len (state_in w) of, at_most _ _ _ room, test_held _ _ fit)

-- a record is read from a cursor that belongs, with bits enough left
read_granted : (s : List ℕ) (c : Cursor) → read_refusal s c ≡ done → Own Big s c × (record_bits ≤ bits_left s c)
unfolding read_refusal
read_granted s c z = let (own, enough) = passed _ z in (refusal_own own, at_most _ _ _ enough)

-- so it is there
pub read_passed : (s : List ℕ) (c : Cursor) → read_refusal s c ≡ done → Fits s c × (place c + record_bits ≤ 8 * length s)
read_passed s c z = let (h, l) = read_granted s c z in (h.fits, omega (arith, l, left_inside h.fits))

-- and the cursor behind it belongs
pub record_gone : (s : List ℕ) (c : Cursor) → read_refusal s c ≡ done → Own Big s (gone_to Big s c (place c + record_bits))
record_gone s c z = let (h, l) = read_granted s c z in gone_own Big s c h (omega (arith, l, left_stop h.fits))

pub record_belongs : (s : List ℕ) (c : Cursor) → read_refusal s c ≡ done → cursor_refusal Big s (read_of s c).cursor ≡ done
unfolding read_of
record_belongs s c z = subst (λ (r : ReadTold Record). cursor_refusal Big s r.cursor ≡ done) (if_done_lem refl _ _ z) (own_done (record_gone s c z))

-- records that are packed fit, their numbers are there, and the strip has room
pub strip_passed : (ns : List ℕ) (n len : ℕ) → strip_refusal ns n len ≡ done → (6 * n ≤ length ns) × (strip_length n ≤ len) × (len ≤ longest) × (all_fit (records_in n ns) ≡ true)
unfolding strip_refusal
strip_passed ns n len z =
    let (short, (fit, (there, room))) = passed _ z in
    (at_most _ _ _ there, at_most _ _ _ room, at_most _ _ _ short, test_held _ _ fit)

-- a strip that is read is short, and the list has room for its records
pub list_passed : (s : List ℕ) (room : ℕ) → list_refusal s room ≡ done → (length s ≤ longest) × (6 * count_of s ≤ room)
unfolding list_refusal
list_passed s room z = let (short, enough) = passed _ z in (at_most _ _ _ short, at_most _ _ _ enough)

-- ---- what a call that is done leaves

-- a record's bits are stored
pub pack_stored : (s : List ℕ) (w : Writer) (r : Record) → pack_refusal (length s) w r ≡ done → Stored Big s w record_bits (bits_of r) (pack_out s w r) (pack_of (length s) w r)
unfolding pack_of pack_out
pack_stored s w r z =
    let (belongs, room, fit) = pack_passed (length s) w r z in
    put_stored Big s w z (record { belongs = belongs; enough = room }) (bits-lt r (fits-true r fit)) refl refl

pub pack_done : (s : List ℕ) (w : Writer) (r : Record) → pack_refusal (length s) w r ≡ done
    → ((pack_of (length s) w r).writer ≡ writer_with (put Big (state_in w) record_bits (bits_of r))) × (pack_out s w r ≡ put_out Big s (state_in w) record_bits (bits_of r))
unfolding pack_of pack_out
pack_done s w r z = rw (eq-eqb _ _ z) (refl, refl)

pub flush_done : (s : List ℕ) (c : State) → Belongs (length s) c → flush_out Big s (writer_with c) ≡ put_out Big s c (padding (writer_with c)) 0
unfolding flush_out
flush_done s c h = rw (eq-eqb _ _ (belongs_refusal (length s) c h))

pub strip_done : (ns : List ℕ) (n : ℕ) (s : List ℕ) → strip_refusal ns n (length s) ≡ done → ((strip_of ns n (length s)).length ≡ strip_length n) × (packed_out ns n s ≡ sets s 0 (strip_bytes (records_in n ns)))
unfolding strip_of packed_out
strip_done ns n s z = rw (eq-eqb _ _ z) (refl, refl)

pub list_done : (s ns : List ℕ) → length s ≤ longest → 6 * count_of s ≤ length ns
    → (list_of s (length ns) ≡ record { refusal = done; count = count_of s; tail_good = tail_good s }) × (list_out s ns ≡ sets ns 0 (all_numbers (records_of s)))
unfolding list_of list_out list_refusal first_refusal or_else
list_done s ns short room = rw (le-ltb longest (length s) short, le-ltb (length ns) (6 * count_of s) room) (refl, refl)
