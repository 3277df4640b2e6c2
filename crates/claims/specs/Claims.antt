-- What is promised, in one place: each name is one sentence over the definitions that the contracts cite, and proofs/Closed.antt closes it.
-- That each function answers by its definition, never traps and always returns is what its own contract says (src/ of its crate).
use Rattle.std.specs.Prelude.{ℕ, suc, ◌+◌, ◌-◌, ◌*◌, ◌/◌, ◌%◌, ◌^◌, ◌<◌, ◌≤◌, ◌≡◌, ◌↔◌, true, false, cond, List, [], ◌∷◌, ◌++◌, map, ℤ, length, take, drop, get_or, leb}
use Rattle.std.proofs.lemmas.List.Edits.{sets}
use Rattle.std.proofs.Math.Seq.{slice}
use Rattle.std.specs.Float.{binary32, binary64}
use Rattle.std.specs.Float.Ieee.{nan_bits, of_bits}
use Rattle.bits.specs.declared.Order.{Order}
use Rattle.bits.specs.declared.Order.TheVariants.{Big}
use Rattle.bits.specs.Refusals.{longest, done, too_long, foreign, bad_plan, bad_line, too_few, bad_row, end_in_byte, retired_kind, or_else, told_by}
use Rattle.bits.specs.Field.{field, join}
use Rattle.bits.specs.Signed.{signed, pattern}
use Rattle.packing.specs.Packing.{filled, story}
use Rattle.record.specs.declared.Record.{Record}
use Rattle.record.specs.Record.{Fits, date_bits, record_bits, no_record}
use Rattle.sign.specs.Extend.{extend_of}
use Rattle.reader.specs.declared.Cursor.{Cursor}
use Rattle.reader.specs.Cursor.{place, stop, bits_left, cursor_refusal}
use Rattle.reader.specs.Answers as R
use Rattle.reader.specs.Answers.{moved}
use Rattle.writer.specs.declared.Writer.{Writer}
use Rattle.writer.specs.Writer.{state_in, bits_written, writer_refusal, padding}
use Rattle.writer.specs.Answers as W
use Rattle.floats.specs.declared.Single.{Single}
use Rattle.floats.specs.declared.Single.TheVariants.{Bits as Single-as-Bits}
use Rattle.floats.specs.declared.Double.{Double}
use Rattle.floats.specs.declared.Double.TheVariants.{Bits as Double-as-Bits}
use Rattle.floats.specs.Floats.{single_of, single_bits, same_single, SingleHeld, double_of, double_bits, same_double, DoubleHeld}
use Rattle.floats.specs.Widening.{widened, minus_in, exponent_in, size_in}
use Rattle.typed.specs.declared.Kind.{Kind}
use Rattle.typed.specs.declared.Kind.TheVariants as Kinds
use Rattle.typed.specs.declared.Typed.{Typed}
use Rattle.typed.specs.declared.Typed.TheVariants as Case
use Rattle.typed.specs.Answers.{Done, Refused}
use Rattle.typed.specs.Typed.{typed_of, bits_of as typed_bits, kind_of, same_typed, widened_typed, width_of, meaning, Fits as TypedFits}
use Rattle.typed.specs.Answers as T
use Rattle.roundtrip.specs.Mixed as Trip
use Rattle.layout.specs.Layout.{Item, item, items_of, are_layout, is_layout, bits_of}
use Rattle.layout.specs.Bytes.{bytes_of}
use Rattle.layout.specs.Plan.{compile}
use Rattle.layout.specs.Answers.{compile_of, compile_out, check_of}
use Rattle.plan.specs.Run.{pattern_of, fields_of, run_of, run_out}
use Rattle.plan.specs.FieldReads.{read_fields}
use Rattle.digits.specs.Digits.{comma, point, zero_digit, Digits, value_of}
use Rattle.line.specs.Date.{units_of, Nearest}
use Rattle.line.specs.Grammar.{unrounded, Line}
use Rattle.line.specs.Reading.{line_read, read_line}
use Rattle.listing.specs.Listing.{parts_of, line_of, write_line, write_out}
use Rattle.strip.specs.Bits.{bits_of as record_bits_of, record_at}
use Rattle.strip.specs.Strip.{records_in, all_fit, strip_length, strip_bytes, count_of, records_of, tail_good}
use Rattle.strip.specs.Answers as S
use Rattle.strip.specs.Calls.{pack_each, read_times}
use Rattle.vetting.specs.Verdicts.{Fine, Broken, BadTail}
use Rattle.vetting.specs.Rules.{AllKeep, AtFault}
use Rattle.vetting.specs.Verdicts.{verdict_of, told}
use Rattle.rows.specs.Row.{columns_at, columns_of, row_bytes, in_range, row_length, row_bits}
use Rattle.rows.specs.Rows.{rows_bytes, row_count, rows_whole, records_of_rows}
use Rattle.rows.specs.Answers as F
use Rattle.text.specs.Answers.{Packed}
use Rattle.text.specs.Text.{text_of, bad_tail}
use Rattle.text.specs.Grammar.{AllFive, FirstBad, GoodText}
use Rattle.text.specs.Answers as X
use Rattle.jobs.specs.Jobs.{too_long_said, bad_line_said, bad_row_said, ok_said, fault_said, list_answer, pack_answer, rows_answer, pack_rows_answer, check_answer}
use Rattle.jobs.specs.Answers.{answered_of, answered_out}
use Rattle.host.specs.Host.{order_of, host_refusal, host_value}
use Rattle.claims.specs.Reached.{Reached, Only, Either, ReachedCursor}

-- ---- demand 1: a refusal hands back cursor, writer and lent memory as they came

-- by a cursor
abbrev pub RefusedReads : Type 0
RefusedReads =
    (o : Order) (s : List ℕ) (c : Cursor) →
    ((w : ℕ) → ((R.read_of o s c w).refusal ≡ done → ⊥) → ((R.read_of o s c w).value ≡ 0) × ((R.read_of o s c w).cursor ≡ c))
    × ((out : List ℕ) → ((R.bytes_of o s c (length out)).refusal ≡ done → ⊥) → ((R.bytes_of o s c (length out)).cursor ≡ c) × (R.bytes_out o s c out ≡ out))
    × ((n : ℕ) → ((R.consume_of o s c n).refusal ≡ done → ⊥) → (R.consume_of o s c n).cursor ≡ c)
    × (((R.refill_of o s c).refusal ≡ done → ⊥) → (R.refill_of o s c).cursor ≡ c)
    × ((e : ℕ) → ((R.lower_of o s c e).refusal ≡ done → ⊥) → (R.lower_of o s c e).cursor ≡ c)

-- into an output
abbrev pub RefusedWrites : Type 0
RefusedWrites =
    (o : Order) (s : List ℕ) (w : Writer) →
    ((n v : ℕ) → ((W.write_of o (length s) w n v).refusal ≡ done → ⊥) → ((W.write_of o (length s) w n v).writer ≡ w) × (W.write_out o s w n v ≡ s))
    × ((n : ℕ) (z : ℤ) → ((W.signed_of o (length s) w n z).refusal ≡ done → ⊥) → ((W.signed_of o (length s) w n z).writer ≡ w) × (W.signed_out o s w n z ≡ s))
    × ((bs : List ℕ) → ((W.bytes_of o (length s) w bs).refusal ≡ done → ⊥) → ((W.bytes_of o (length s) w bs).writer ≡ w) × (W.bytes_out o s w bs ≡ s))
    × (((W.flush_of o (length s) w).refusal ≡ done → ⊥) → ((W.flush_of o (length s) w).writer ≡ w) × (W.flush_out o s w ≡ s))

-- by a plan, a compiler, a list, a record, a line, a text, rows or a job's answer s
abbrev pub RefusedRuns : Type 0
RefusedRuns =
    (o : Order) (s : List ℕ) (c : Cursor) (p out : List ℕ) → ((run_of o s c p (length out)).refusal ≡ done → ⊥)
    → ((run_of o s c p (length out)).cursor ≡ c) × (run_out o s c p out ≡ out)

abbrev pub RefusedOutputs : Type 0
RefusedOutputs =
    (s out : List ℕ) →
    (((compile_of s (length out)).refusal ≡ done → ⊥) → compile_out s out ≡ out)
    × ((w : Writer) (r : Record) → ((S.pack_of (length out) w r).refusal ≡ done → ⊥) → ((S.pack_of (length out) w r).writer ≡ w) × (S.pack_out out w r ≡ out))
    × ((n : ℕ) → ((S.strip_of s n (length out)).refusal ≡ done → ⊥) → S.packed_out s n out ≡ out)
    × (((S.list_of s (length out)).refusal ≡ done → ⊥) → S.list_out s out ≡ out)
    × ((r : Record) → ((write_line r (length out)).refusal ≡ done → ⊥) → write_out r out ≡ out)
    × (((X.list_of s (length out)).refusal ≡ done → ⊥) → X.list_out s out ≡ out)
    × (((X.pack_of s (length out)).refusal ≡ done → ⊥) → X.pack_out s out ≡ out)
    × ((r : Record) → (F.row_refusal (length out) r ≡ done → ⊥) → F.row_out out r ≡ out)
    × (((F.rows_of s (length out)).refusal ≡ done → ⊥) → F.rows_out s out ≡ out)
    × (((F.packed_of s (length out)).refusal ≡ done → ⊥) → F.packed_out s out ≡ out)
    × (((answered_of s (length out)).refusal ≡ done → ⊥) → answered_out s out ≡ out)

-- on a borrowed cursor: r is answered and d left where it stands
abbrev pub RefusedInPlace : Type 0
RefusedInPlace =
    (o : Order) (s : List ℕ) (c d : Cursor) (r : ℕ) → (r ≡ done → ⊥)
    → ((n : ℕ) → moved r d ≡ R.consume_of o s c n → d ≡ c) × (moved r d ≡ R.refill_of o s c → d ≡ c) × ((e : ℕ) → moved r d ≡ R.lower_of o s c e → d ≡ c)

-- ---- the writers and cursors that calls make

-- every writer that calls reach belongs to its output, if that is within the limit, and holds at most seven bits; so where it holds any, what
-- a byte lacks is not eight bits, as the Rust's flush tests
abbrev pub WritersReached : Type 0
WritersReached =
    (len : ℕ) (w : Writer) → Reached len w →
    (len ≤ longest → writer_refusal len w ≡ done) × (w.held ≤ 7) × (0 < w.held → 8 - w.held % 8 ≡ 8 → ⊥)

-- one that is made up with eight bits held or more belongs to no output: it is refused with 2, and handed back
abbrev pub WritersMadeUp : Type 0
WritersMadeUp =
    (o : Order) (len : ℕ) (w : Writer) → len ≤ longest → 7 < w.held →
    (writer_refusal len w ≡ foreign) × (W.flush_of o len w ≡ record { refusal = foreign; writer = w })

-- every cursor that calls in one order reach belongs to its slice in that order; by calls in either order, it belongs in one of them
abbrev pub CursorsReached : Type 0
CursorsReached =
    (s : List ℕ) (c : Cursor) → length s ≤ longest →
    ((o : Order) → ReachedCursor (Only o) s c → cursor_refusal o s c ≡ done)
    × (ReachedCursor Either s c → (o : Order) × (cursor_refusal o s c ≡ done))

-- ---- demand 2: reads are by the bit definitions

-- reading w ≤ 64 bits from a cursor that belongs is refused, by 9, exactly if fewer are left; else the value is the field at the place,
-- the place moves by w, and the cursor belongs again
abbrev pub FieldsRead : Type 0
FieldsRead =
    (o : Order) (s : List ℕ) (c : Cursor) (w : ℕ) → cursor_refusal o s c ≡ done → w ≤ 64 →
    let r = R.read_of o s c w in
    ((r.refusal ≡ too_few) ↔ (bits_left s c < w))
    × (w ≤ bits_left s c → (r.refusal ≡ done) × (r.value ≡ field o s (place c) w) × (place r.cursor ≡ place c + w) × (bits_left s r.cursor ≡ bits_left s c - w) × (cursor_refusal o s r.cursor ≡ done))

-- what is left goes from the place up to the end, which lies within the slice
abbrev pub LeftInside : Type 0
LeftInside =
    (o : Order) (s : List ℕ) (c : Cursor) → cursor_refusal o s c ≡ done → (place c + bits_left s c ≡ stop s c) × (stop s c ≤ 8 * length s)

-- a fresh cursor of a slice within the limit is at place 0, stops at the slice's end, and belongs
abbrev pub FreshCursor : Type 0
FreshCursor =
    (o : Order) (s : List ℕ) → length s ≤ longest →
    let c = (R.new_of s).cursor in
    ((R.new_of s).refusal ≡ done) × (cursor_refusal o s c ≡ done) × (place c ≡ 0) × (stop s c ≡ 8 * length s) × (bits_left s c ≡ 8 * length s)

-- bytes are fields of eight bits from the place on, and the place moves by them
abbrev pub BytesRead : Type 0
BytesRead =
    (o : Order) (s : List ℕ) (c : Cursor) (out : List ℕ) → (R.bytes_of o s c (length out)).refusal ≡ done →
    ((i : ℕ) → i < length out → get_or (R.bytes_out o s c out) i 0 ≡ field o s (place c + 8 * i) 8)
    × (place (R.bytes_of o s c (length out)).cursor ≡ place c + 8 * length out)

-- none of them change nothing
abbrev pub NoBytesRead : Type 0
NoBytesRead = (o : Order) (s : List ℕ) (c : Cursor) → ((R.bytes_of o s c 0).cursor ≡ c) × (R.bytes_out o s c [] ≡ [])

-- manual mode: a peek sees the field at the place, a consume passes it, a refill moves no place
abbrev pub ManualReads : Type 0
ManualReads =
    (o : Order) (s : List ℕ) (c : Cursor) →
    ((n : ℕ) → (R.peek_of o s c n).refusal ≡ done → ((R.peek_of o s c n).value ≡ field o s (place c) n) × (place (R.consume_of o s c n).cursor ≡ place c + n))
    × ((R.refill_of o s c).refusal ≡ done → place (R.refill_of o s c).cursor ≡ place c)

-- where the end is a multiple of 8, the remainder is the slice from the first byte that starts at the place or behind it up to the end, and
-- the partial bits are the field up to there; else it is refused with 14, and nothing is told
abbrev pub RemainderWhere : Type 0
RemainderWhere =
    (o : Order) (s : List ℕ) (c : Cursor) → cursor_refusal o s c ≡ done →
    let at = (place c + 7) / 8 in
    (stop s c % 8 ≡ 0 →
    (R.start_of o s c ≡ at) × (R.remainder_of o s c ≡ slice at (stop s c / 8) s) × (R.partial_of o s c ≡ told_by done (record { partial_bits = 8 * at - place c; partial_byte = field o s (place c) (8 * at - place c) })))
    × ((stop s c % 8 ≡ 0 → ⊥) →
    (R.start_of o s c ≡ 0) × (R.remainder_of o s c ≡ []) × (R.partial_of o s c ≡ told_by end_in_byte R.no_partial))

-- sign extension gives the signed meaning at every width from 0 to 64, and the bits come back from it
abbrev pub SignExtends : Type 0
SignExtends =
    (v w : ℕ) → w ≤ 64 → v < 2 ^ w → (extend_of v w ≡ record { refusal = done; value = signed w v }) × (pattern w (signed w v) ≡ v)

-- the C host's number is 0 exactly if the field lies within a slice within the limit; the value is that field
abbrev pub HostExactly : Type 0
HostExactly =
    (order p w : ℕ) (s : List ℕ) →
    ((host_refusal p w (length s) ≡ done) ↔ ((length s ≤ longest) × (w ≤ 64) × (p + w ≤ 8 * length s)))
    × (host_refusal p w (length s) ≡ done → host_value order p w s ≡ field (order_of order) s p w)

-- ---- demand 2: writes are by the bit definitions

-- from output s and writer w, n bits v were written, leaving output t and writer x: they stand behind all that was written, as one
-- number, nothing of which changed; in the output the bytes that they made full are set behind those that were full, and no other
pub record Stands (o : Order) (s : List ℕ) (w : Writer) (n v : ℕ) (t : List ℕ) (x : Writer) : Type 0 where
  pub written : bits_written x ≡ bits_written w + n
  pub behind : story o t (state_in x) ≡ join o (bits_written w) n (story o s (state_in w)) v
  pub memory : t ≡ sets s w.written (filled o (state_in w) n v)
  pub belongs : writer_refusal (length t) x ≡ done

-- each write that is not refused
abbrev pub WritesStand : Type 0
WritesStand =
    (o : Order) (s : List ℕ) (w : Writer) →
    ((n v : ℕ) → (W.write_of o (length s) w n v).refusal ≡ done → Stands o s w n (v % 2 ^ n) (W.write_out o s w n v) (W.write_of o (length s) w n v).writer)
    × ((n : ℕ) (z : ℤ) → (W.signed_of o (length s) w n z).refusal ≡ done → Stands o s w n (pattern n z) (W.signed_out o s w n z) (W.signed_of o (length s) w n z).writer)
    × ((bs : List ℕ) → ((i : ℕ) → get_or bs i 0 < 256) → (W.bytes_of o (length s) w bs).refusal ≡ done
    → Stands o s w (8 * length bs) (field o bs 0 (8 * length bs)) (W.bytes_out o s w bs) (W.bytes_of o (length s) w bs).writer)
    × ((W.flush_of o (length s) w).refusal ≡ done → Stands o s w (padding w) 0 (W.flush_out o s w) (W.flush_of o (length s) w).writer)

-- ---- demand 2: what a fresh writer writes and flushes, a fresh cursor reads back from the written bytes alone

-- all that a writer takes: unsigned and signed fields, bytes and flushes, in any order
abbrev pub AllReadBack : Type 0
AllReadBack =
    (o : Order) (s : List ℕ) (es : List Trip.Item) → length s ≤ longest → Trip.Fit es → Trip.size 0 es ≤ 8 * length s
    → Trip.Returned o s es

-- a field to write
pub record Entry : Type 0 where
  pub width : ℕ
  pub value : ℕ

-- entries of 0 to 64 bits, each value below 2 to its width
pub data Fit : List Entry → Type 0 where
  none : Fit []
  more : {e : Entry} {es : List Entry} → e.width ≤ 64 → e.value < 2 ^ e.width → Fit es → Fit (e ∷ es)

-- their bits
unfoldable pub size : List Entry → ℕ
size [] = 0
size (e ∷ es) = e.width + size es

-- the call that writes one
abbrev pub written : Entry → Trip.Item
written e = Trip.unsigned e.width e.value

-- fields that fit and have room come back
abbrev pub FieldsReadBack : Type 0
FieldsReadBack =
    (o : Order) (s : List ℕ) (es : List Entry) → length s ≤ longest → Fit es → size es ≤ 8 * length s
    → Trip.Returned o s (map written es)

-- ---- typed values

-- bits made into a value of a kind and back are the same, a NaN's payload too, and the value's case is the kind
abbrev pub BitsKept : Type 0
BitsKept = (k : Kind) (b : ℕ) → b < 2 ^ width_of k 64 → (typed_bits (typed_of k b) ≡ b) × (kind_of (typed_of k b) ≡ k)

-- a float means its bits: made of a float's bits it is the same float, and it is kept as bits only where they are a NaN's
abbrev pub FloatsSame : Type 0
FloatsSame =
    ((x : Single) → SingleHeld x → same_single (single_of (single_bits x)) x ≡ true)
    × ((x : Double) → DoubleHeld x → same_double (double_of (double_bits x)) x ≡ true)
    × ((b n : ℕ) → (single_of b ≡ Single-as-Bits n → nan_bits binary32 n ≡ true) × (double_of b ≡ Double-as-Bits n → nan_bits binary64 n ≡ true))

-- a typed read is done where the read of the kind's width is, with the field's value by the kind's meaning; else it is refused by the
-- same number, with the cursor that came
abbrev pub TypedReads : Type 0
TypedReads =
    (o : Order) (s : List ℕ) (c : Cursor) (k : Kind) (w : ℕ) →
    let r = R.read_of o s c (width_of k w) in
    (r.refusal ≡ done → T.read_of o s c k w ≡ Done (meaning k w (field o s (place c) (width_of k w))) r.cursor)
    × ((r.refusal ≡ done → ⊥) → T.read_of o s c k w ≡ Refused r.refusal c)

-- typed values are the same exactly if they are of one kind and have the same bits
abbrev pub TypedSame : Type 0
TypedSame = (a b : Typed) → (same_typed a b ≡ true) ↔ ((kind_of a ≡ kind_of b) × (typed_bits a ≡ typed_bits b))

-- a value that was written behind anything, and flushed, is read at the place where it was written: the value that its low bits make,
-- and the same where it fits its width
abbrev pub TypedBack : Type 0
TypedBack =
    (o : Order) (s : List ℕ) (w : Writer) (v : Typed) (n : ℕ) → (T.write_of o (length s) w v n).refusal ≡ done →
    let t = W.flush_out o (T.write_out o s w v n) (T.write_of o (length s) w v n).writer in
    let k = width_of (kind_of v) n in
    let back = meaning (kind_of v) n (typed_bits v % 2 ^ k) in
    (c : Cursor) → cursor_refusal o t c ≡ done → place c ≡ bits_written w → k ≤ bits_left t c →
    (T.read_of o t c (kind_of v) n ≡ Done back (R.read_of o t c k).cursor) × (TypedFits n v → same_typed back v ≡ true)

-- ---- singles: read as they were, written no more, and made doubles

-- a single is not written, typed or not: it is refused as 32 bits v are, and with 16 where these would be written; writer and output stay
-- as they came
abbrev pub SinglesRetired : Type 0
SinglesRetired =
    (o : Order) (s : List ℕ) (w : Writer) (x : Single) (n v : ℕ) → v < 2 ^ 32 →
    (W.retired_of (length s) w ≡ record { refusal = or_else (W.write_of o (length s) w 32 v).refusal retired_kind; writer = w })
    × (T.write_of o (length s) w (Case.Single x) n ≡ W.retired_of (length s) w)
    × (T.write_out o s w (Case.Single x) n ≡ s)

-- the double of a single means the same: its 64 bits mean by IEEE 754 what the single's 32 bits mean
abbrev pub WidenedExact : Type 0
WidenedExact = (x : Single) → of_bits binary64 (double_bits (widened x)) ≡ of_bits binary32 (single_bits x)

-- the same in whole numbers, b the single's bits and d the double's: finite stays finite, with the same sign and the same size. Sizes are
-- counted in the format's smallest number, and 2 ^ -149 is 2 ^ 925 times 2 ^ -1074
abbrev pub WidenedNumbers : Type 0
WidenedNumbers =
    (x : Single) →
    let b = single_bits x in
    let d = double_bits (widened x) in
    exponent_in binary32 b < 255 →
    (exponent_in binary64 d < 2047) × (minus_in binary64 d ≡ minus_in binary32 b) × (size_in binary64 d ≡ size_in binary32 b * 2 ^ 925)

-- zeros and infinities keep their sign, and every NaN becomes the one
abbrev pub WidenedOthers : Type 0
WidenedOthers =
    (x : Single) →
    let b = single_bits x in
    let d = double_bits (widened x) in
    (b ≡ 0x0000_0000 → d ≡ 0x0000_0000_0000_0000)
    × (b ≡ 0x8000_0000 → d ≡ 0x8000_0000_0000_0000)
    × (b ≡ 0x7F80_0000 → d ≡ 0x7FF0_0000_0000_0000)
    × (b ≡ 0xFF80_0000 → d ≡ 0xFFF0_0000_0000_0000)
    × (nan_bits binary32 b ≡ true → d ≡ 0x7FF8_0000_0000_0000)

-- the double's bits are 64, which are written wherever 64 bits have room; flushed, they are read where they were written as that double
abbrev pub WidenedBack : Type 0
WidenedBack =
    (o : Order) (s : List ℕ) (w : Writer) (x : Single) →
    let d = double_bits (widened x) in
    let r = W.write_of o (length s) w 64 d in
    let t = W.flush_out o (W.write_out o s w 64 d) r.writer in
    (d < 2 ^ 64)
    × (writer_refusal (length s) w ≡ done → bits_written w + 64 ≤ 8 * length s → r.refusal ≡ done)
    × (r.refusal ≡ done → (c : Cursor) → cursor_refusal o t c ≡ done → place c ≡ bits_written w → 64 ≤ bits_left t c
    → ((R.as_f64 (R.read_of o t c 64)).refusal ≡ done) × ((R.as_f64 (R.read_of o t c 64)).value ≡ widened x))

-- a typed single becomes the typed double, and a value of another kind is kept
abbrev pub TypedWidened : Type 0
TypedWidened =
    ((x : Single) → widened_typed (Case.Single x) ≡ Case.Double (widened x))
    × ((v : Typed) → (kind_of v ≡ Kinds.Single → ⊥) → widened_typed v ≡ v)

-- ---- demand 3: a compiled layout is run to its fields' values

-- a plan p of fields fs, run from a cursor c of the slice s into results out
abbrev pub Runs : Order → List ℕ → Cursor → List ℕ → List Item → List ℕ → Type 0
Runs o s c p fs out =
    let answer = run_of o s c p (length out) in
    let results = run_out o s c p out in
    -- it is refused, by 9, exactly if fewer bits are left than the fields take, and then nothing changes
    ((answer.refusal ≡ too_few) ↔ (bits_left s c < bits_of fs))
    × (bits_left s c < bits_of fs → (answer ≡ moved too_few c) × (results ≡ out))
    -- else result i is the value of field i, the others are kept, and the cursor is where the last field ends, and belongs
    × (bits_of fs ≤ bits_left s c →
    (answer.refusal ≡ done)
    × ((i : ℕ) → i < length fs →
    let f = get_or fs i (item 0 0) in
    get_or results i 0 ≡ pattern_of f.kind f.width (field o s (place c + bits_of (take i fs)) f.width))
    × (drop (length fs) results ≡ drop (length fs) out)
    × (place answer.cursor ≡ place c + bits_of fs)
    × (cursor_refusal o s answer.cursor ≡ done))
    -- and refusal, values and end are those of reading field by field
    × (answer.refusal ≡ (read_fields o s c fs).refusal)
    × (bits_of fs ≤ bits_left s c → (results ≡ sets out 0 (read_fields o s c fs).values) × (place answer.cursor ≡ place (read_fields o s c fs).cursor))

-- the bytes that `compile` left of a layout l in an output m are run so, from a cursor that belongs into results with room
abbrev pub PlanRuns : Type 0
PlanRuns =
    (o : Order) (s : List ℕ) (c : Cursor) (l m out : List ℕ) → (compile_of l (length m)).refusal ≡ done → cursor_refusal o s c ≡ done → length (items_of l) ≤ length out
    → Runs o s c (take (compile_of l (length m)).length (compile_out l m)) (items_of l) out

-- they are the plan of the layout's fields
abbrev pub PlansLeft : Type 0
PlansLeft =
    (l m : List ℕ) → (compile_of l (length m)).refusal ≡ done
    → (take (compile_of l (length m)).length (compile_out l m) ≡ compile (items_of l)) × (are_layout (items_of l) ≡ true)

-- the check refuses, by 6, exactly the bytes within the limit that no layout compiles to
abbrev pub PlansRefused : Type 0
PlansRefused = (p : List ℕ) → length p ≤ longest → (check_of p ≡ bad_plan) ↔ ((fs : List Item) → are_layout fs ≡ true → compile fs ≡ p → ⊥)

-- bytes pass the check exactly if some layout compiles to them
abbrev pub PlansExactly : Type 0
PlansExactly = (p : List ℕ) → (check_of p ≡ done) ↔ ((fs : List Item) × (are_layout fs ≡ true) × (compile fs ≡ p))

-- a plan is decoded to the layout that it was compiled from
abbrev pub PlansDecode : Type 0
PlansDecode =
    ((fs : List Item) → are_layout fs ≡ true → fields_of (compile fs) ≡ fs)
    × ((p : List ℕ) → check_of p ≡ done → (are_layout (fields_of p) ≡ true) × (compile (fields_of p) ≡ p))

-- one layout only, and no plan is longer than 256 bytes
abbrev pub OneLayout : Type 0
OneLayout = (fs gs : List Item) → are_layout fs ≡ true → are_layout gs ≡ true → (compile fs ≡ compile gs → fs ≡ gs) × (length (compile fs) ≤ 256)

-- the bytes and the fields of a layout are one to one
abbrev pub LayoutBytes : Type 0
LayoutBytes = ((fs : List Item) → are_layout fs ≡ true → (is_layout (bytes_of fs) ≡ true) × (items_of (bytes_of fs) ≡ fs)) × ((s : List ℕ) → is_layout s ≡ true → bytes_of (items_of s) ≡ s)

-- ---- lines

-- a line is accepted, as a record, exactly if it is a line of the grammar that names the record; so it names one at most
abbrev pub LinesExactly : Type 0
LinesExactly = (s : List ℕ) (r : Record) → length s ≤ longest → (read_line s ≡ line_read done r) ↔ Line s r

-- and what is no line is refused with 7
abbrev pub LinesElse : Type 0
LinesElse = (s : List ℕ) → length s ≤ longest → ((r : Record) → Line s r → ⊥) → read_line s ≡ line_read bad_line no_record

-- the line of a record that fits is read as that record, has five date decimals and at most 41 bytes
abbrev pub LinesBack : Type 0
LinesBack = (r : Record) → Fits r → (read_line (line_of r) ≡ line_read done r) × (length (parts_of r).day_decimals ≡ 5) × (length (line_of r) ≤ 41)

-- a line's date, and no other number, is the nearest unit, halves upward, to the number that its digits spell together; with five decimals it is that
abbrev pub DatesNearest : Type 0
DatesNearest =
    (s : List ℕ) (r : Record) (l : Line s r) →
    let ds = l.parts.day_decimals in
    let n = value_of (l.parts.days ++ ds) in
    ((u : ℕ) → Nearest n (10 ^ (length ds - 5)) u ↔ (u ≡ r.date)) × (length ds ≡ 5 → r.date ≡ n)

-- and the sixth decimal decides alone: from 5 on it adds a unit to what the digits before it spell
abbrev pub SixthDecides : Type 0
SixthDecides =
    (s : List ℕ) (r : Record) (l : Line s r) →
    let ds = l.parts.day_decimals in
    6 ≤ length ds → r.date ≡ value_of (l.parts.days ++ take 5 ds) + cond (leb (zero_digit + 5) (get_or ds 5 0)) 1 0

-- a date that comes to 2^38 units or more is refused with 7, whatever else is in the text
abbrev pub DatesBounded : Type 0
DatesBounded =
    (star days ds rest : List ℕ) → Digits star → Digits days → Digits ds →
    let s = star ++ comma ∷ (days ++ point ∷ (ds ++ comma ∷ rest)) in
    length s ≤ longest → 2 ^ date_bits ≤ units_of (value_of days) (value_of ds) (length ds) → read_line s ≡ line_read bad_line no_record

-- ---- records and strips

-- a record that fits and its 89 bits are one to one
abbrev pub RecordBits : Type 0
RecordBits =
    (s : List ℕ) (p : ℕ) →
    (record_bits_of (record_at s p) ≡ field Big s p record_bits)
    × ((r : Record) → Fits r → field Big s p record_bits ≡ record_bits_of r → record_at s p ≡ r)

-- a record that was packed behind anything is read where it was packed, after a flush
abbrev pub RecordBack : Type 0
RecordBack =
    (s : List ℕ) (w : Writer) (r : Record) → (S.pack_of (length s) w r).refusal ≡ done
    → record_at (W.flush_out Big (S.pack_out s w r) (S.pack_of (length s) w r).writer) (bits_written w) ≡ r

-- records that fit are read back from their strip, which has a good tail; record i starts at bit 89 i
abbrev pub StripBack : Type 0
StripBack =
    (rs : List Record) → all_fit rs ≡ true →
    let b = strip_bytes rs in
    (length b ≡ strip_length (length rs)) × (records_of b ≡ rs) × (tail_good b ≡ true) × ((i : ℕ) → i < length rs → record_at b (record_bits * i) ≡ get_or rs i no_record)

-- and a strip with a good tail is the strip of its records, byte for byte
abbrev pub StripSame : Type 0
StripSame = (s : List ℕ) → ((i : ℕ) → get_or s i 0 < 256) → tail_good s ≡ true → strip_bytes (records_of s) ≡ s

-- pack_strip sets the strip of the records at the output's front, and nothing else; pack_record for each of them and a flush leave the same
abbrev pub StripPacked : Type 0
StripPacked =
    (ns : List ℕ) (n : ℕ) (s : List ℕ) → (S.strip_of ns n (length s)).refusal ≡ done →
    let each = pack_each s (W.new_of (length s)).writer (records_in n ns) in
    let flushed = W.flush_of Big (length s) each.writer in
    (S.packed_out ns n s ≡ sets s 0 (strip_bytes (records_in n ns)))
    × (each.refusal ≡ done)
    × (flushed.refusal ≡ done)
    × (flushed.writer.written ≡ (S.strip_of ns n (length s)).length)
    × (W.flush_out Big each.out each.writer ≡ S.packed_out ns n s)

-- read_record again and again, from a fresh cursor, gives the strip's records in their order, and then 9
abbrev pub EachRead : Type 0
EachRead =
    (s : List ℕ) → length s ≤ longest →
    ((i : ℕ) → i < count_of s →
    let r = S.read_of s (read_times i s (R.new_of s).cursor) in
    (r.refusal ≡ done) × (r.value ≡ get_or (records_of s) i no_record))
    × ((S.read_of s (read_times (count_of s) s (R.new_of s).cursor)).refusal ≡ too_few)

-- numbers of 64 bits that were packed are read back, every one, into any list with room
abbrev pub NumbersBack : Type 0
NumbersBack =
    (ns : List ℕ) (n : ℕ) (s ms : List ℕ) → ((i : ℕ) → get_or ns i 0 < 2 ^ 64) → (S.strip_of ns n (length s)).refusal ≡ done → 6 * n ≤ length ms →
    let b = take (S.strip_of ns n (length s)).length (S.packed_out ns n s) in
    (S.list_of b (length ms) ≡ record { refusal = done; count = n; tail_good = true }) × (take (6 * n) (S.list_out b ms) ≡ take (6 * n) ns)

-- ---- texts

-- a text packs exactly if it is the header and lines of the grammar, and there is room; then into the strip of the records
abbrev pub TextsExactly : Type 0
TextsExactly =
    (t out : List ℕ) → length t ≤ longest → length out ≤ longest
    → ((X.pack_of t (length out)).refusal ≡ done) ↔ ((rs : List Record) × GoodText t rs × (strip_length (length rs) ≤ length out))

abbrev pub TextsPack : Type 0
TextsPack =
    (t out : List ℕ) (rs : List Record) → length t ≤ longest → length out ≤ longest → GoodText t rs → strip_length (length rs) ≤ length out
    → (◌≡◌ {A = Packed} (X.pack_of t (length out)) (record { refusal = done; length = strip_length (length rs); line = 0 })) × (X.pack_out t out ≡ sets out 0 (strip_bytes rs))

-- a text is refused by 7 with line n exactly if line n is its first bad one
abbrev pub BadLineExactly : Type 0
BadLineExactly =
    (t : List ℕ) (len n : ℕ) → length t ≤ longest → len ≤ longest
    → (((X.pack_of t len).refusal ≡ bad_line) × ((X.pack_of t len).line ≡ n)) ↔ FirstBad t n

-- and a text that does not pack, whatever the room, has one
abbrev pub BadLineThere : Type 0
BadLineThere = (t : List ℕ) → length t ≤ longest → ((rs : List Record) → GoodText t rs → ⊥) → (n : ℕ) × FirstBad t n

-- text, strip, text: a text whose dates all have five decimals is the text of the strip that it packs to
abbrev pub TextsAgain : Type 0
TextsAgain =
    (t out : List ℕ) (rs : List Record) (g : GoodText t rs) → AllFive g.lines.parts → length t ≤ longest → length out ≤ longest → strip_length (length rs) ≤ length out
    → text_of (take (X.pack_of t (length out)).length (X.pack_out t out)) ≡ t

-- strip, text, strip: the text of a strip with a good tail packs to that strip again, byte for byte
abbrev pub TextsBack : Type 0
TextsBack =
    (s out : List ℕ) → ((i : ℕ) → get_or s i 0 < 256) → tail_good s ≡ true → length (text_of s) ≤ longest → length out ≤ longest → length s ≤ length out
    → (◌≡◌ {A = Packed} (X.pack_of (text_of s) (length out)) (record { refusal = done; length = length s; line = 0 })) × (X.pack_out (text_of s) out ≡ sets out 0 s)

-- ---- FITS rows

-- a record written as a row has its numbers in the columns, and is read back
abbrev pub RowBack : Type 0
RowBack =
    (out : List ℕ) (r : Record) → F.row_refusal (length out) r ≡ done
    → (columns_at (F.row_out out r) 0 ≡ columns_of r) × (F.read_of (F.row_out out r) ≡ record { refusal = done; value = r })

-- a row that becomes a record comes back from it as the same 18 bytes
abbrev pub RowSame : Type 0
RowSame =
    (s out : List ℕ) → ((i : ℕ) → get_or s i 0 < 256) → (F.read_of s).refusal ≡ done → length out ≤ longest → row_length ≤ length out →
    let r = (F.read_of s).value in
    (F.row_refusal (length out) r ≡ done) × (take row_length (F.row_out out r) ≡ take row_length s)

-- a row is refused with 11 exactly if no record that fits has it
abbrev pub RowsRefused : Type 0
RowsRefused =
    (s : List ℕ) → ((i : ℕ) → get_or s i 0 < 256) → length s ≤ longest → row_length ≤ length s
    → ((F.read_of s).refusal ≡ bad_row) ↔ ((r : Record) → Fits r → row_bytes r ≡ take row_length s → ⊥)

-- the rows of a strip with a good tail, packed, are the strip itself, byte for byte
abbrev pub StripsRowsBack : Type 0
StripsRowsBack =
    (s out₁ out₂ : List ℕ) → ((i : ℕ) → get_or s i 0 < 256) → tail_good s ≡ true → length s ≤ longest →
    length out₁ ≤ longest → row_length * count_of s ≤ length out₁ → length out₂ ≤ longest → length s ≤ length out₂ →
    let rows = take (F.rows_of s (length out₁)).length (F.rows_out s out₁) in
    (F.packed_of rows (length out₂) ≡ record { refusal = done; row = 0; length = length s; tail_good = true }) × (take (length s) (F.packed_out rows out₂) ≡ s)

-- and the strip of whole rows, turned into rows, is those rows
abbrev pub RowsStripsBack : Type 0
RowsStripsBack =
    (s out₁ out₂ : List ℕ) → ((i : ℕ) → get_or s i 0 < 256) → (F.packed_of s (length out₁)).refusal ≡ done → (F.packed_of s (length out₁)).tail_good ≡ true →
    length out₂ ≤ longest → length s ≤ length out₂ →
    let strip = take (F.packed_of s (length out₁)).length (F.packed_out s out₁) in
    (F.rows_of strip (length out₂) ≡ record { refusal = done; length = length s; tail_good = true }) × (take (length s) (F.rows_out strip out₂) ≡ s)

-- rows that have room are refused by 11 with number i + 1 exactly if row i, from 0, is the first that says no record
abbrev pub BadRowExactly : Type 0
BadRowExactly =
    (s : List ℕ) (len i : ℕ) → length s ≤ longest → len ≤ longest → strip_length (row_count s) ≤ len
    → (((F.packed_of s len).refusal ≡ bad_row) × ((F.packed_of s len).row ≡ suc i))
    ↔ ((i < row_count s) × (in_range (columns_at s (row_bits * i)) ≡ false) × ((j : ℕ) → j < i → in_range (columns_at s (row_bits * j)) ≡ true))

-- a bad tail and a cut last row are told, not refused, and nothing is written then
abbrev pub TailsTold : Type 0
TailsTold =
    (s out : List ℕ) →
    (tail_good s ≡ false → (F.rows_of s (length out)).refusal ≡ done → (F.rows_of s (length out) ≡ record { refusal = done; length = 0; tail_good = false }) × (F.rows_out s out ≡ out))
    × (rows_whole s ≡ false → (F.packed_of s (length out)).refusal ≡ done → (F.packed_of s (length out) ≡ record { refusal = done; row = 0; length = 0; tail_good = false }) × (F.packed_out s out ≡ out))

-- ---- strips from other apps

-- a strip is accepted exactly if every record keeps every rule and the tail is good
abbrev pub Accepted : Type 0
Accepted = (s : List ℕ) → length s ≤ longest → (verdict_of s ≡ Fine) ↔ (AllKeep (records_of s) × (tail_good s ≡ true))

-- a record and a rule are named exactly if they are the first at fault, and no two are, whatever the records
abbrev pub FaultsExactly : Type 0
FaultsExactly =
    ((s : List ℕ) (n r : ℕ) → length s ≤ longest → (verdict_of s ≡ Broken n r) ↔ AtFault (records_of s) n r)
    × ((rs : List Record) (n r m q : ℕ) → AtFault rs n r → AtFault rs m q → (n ≡ m) × (r ≡ q))

-- the tail comes last: it is told to be bad exactly if every record keeps every rule and it is bad
abbrev pub TailsLast : Type 0
TailsLast = (s : List ℕ) → length s ≤ longest → (verdict_of s ≡ BadTail) ↔ (AllKeep (records_of s) × (tail_good s ≡ false))

-- in numbers: 1 refuses a strip past the limit, and nothing else is refused; what is fine is accepted, and nothing else; a record and a rule
-- are told where they are named, and nowhere else
abbrev pub VerdictsTold : Type 0
VerdictsTold =
    (s : List ℕ) →
    let t = told (verdict_of s) in
    (longest < length s → t.refusal ≡ too_long)
    × (length s ≤ longest → t.refusal ≡ done)
    × ((t.accepted ≡ true) ↔ (verdict_of s ≡ Fine))
    × ((n r : ℕ) → 1 ≤ n → ((t.number ≡ n) × (t.rule ≡ r)) ↔ (verdict_of s ≡ Broken n r))

-- a text whose lines' records keep every rule is accepted, wherever pack_text packs it
abbrev pub PackedAccepted : Type 0
PackedAccepted =
    (t out : List ℕ) (rs : List Record) → GoodText t rs → AllKeep rs → (X.pack_of t (length out)).refusal ≡ done
    → verdict_of (take (X.pack_of t (length out)).length (X.pack_out t out)) ≡ Fine

-- and so is one whose lines keep every rule as they are spelled, their dates to the last decimal: rounding breaks none
abbrev pub LinesAccepted : Type 0
LinesAccepted =
    (t out : List ℕ) (rs : List Record) (g : GoodText t rs) → AllKeep (map unrounded g.lines.parts) → (X.pack_of t (length out)).refusal ≡ done
    → verdict_of (take (X.pack_of t (length out)).length (X.pack_out t out)) ≡ Fine

-- ---- programs: all that they write is `list_answer`, `pack_answer`, `rows_answer`, `pack_rows_answer` or `check_answer` of all that they read

-- beyond 65,536 bytes that is `too long`; else the text of the strip, and the strip of a text of the grammar or the first bad line of any other
abbrev pub AnswersAre : Type 0
AnswersAre =
    ((s : List ℕ) → (65536 < length s → list_answer s ≡ too_long_said) × (length s ≤ 65536 → list_answer s ≡ text_of s))
    × ((t : List ℕ) → (65536 < length t → pack_answer t ≡ too_long_said)
    × (length t ≤ 65536 → ((rs : List Record) → GoodText t rs → pack_answer t ≡ strip_bytes rs) × ((n : ℕ) → FirstBad t n → pack_answer t ≡ bad_line_said n)))

-- the same for rows: the rows of the strip, or bad tail; and the first bad row, else the strip of the rows, or bad tail where the last is cut
abbrev pub RowAnswersAre : Type 0
RowAnswersAre =
    ((s : List ℕ) → (65536 < length s → rows_answer s ≡ too_long_said)
    × (length s ≤ 65536 → (tail_good s ≡ true → rows_answer s ≡ rows_bytes (records_of s)) × (tail_good s ≡ false → rows_answer s ≡ bad_tail)))
    × ((t : List ℕ) → (65536 < length t → pack_rows_answer t ≡ too_long_said)
    × (length t ≤ 65536 →
    ((i : ℕ) → i < row_count t → in_range (columns_at t (row_bits * i)) ≡ false → ((j : ℕ) → j < i → in_range (columns_at t (row_bits * j)) ≡ true) → pack_rows_answer t ≡ bad_row_said (suc i))
    × (((j : ℕ) → j < row_count t → in_range (columns_at t (row_bits * j)) ≡ true)
    → (length t % row_length ≡ 0 → pack_rows_answer t ≡ strip_bytes (records_of_rows t)) × ((length t % row_length ≡ 0 → ⊥) → pack_rows_answer t ≡ bad_tail))))

-- and for strips from other apps: ok, the first record and rule at fault, or bad tail; so strippack's strip of a text by the rules is ok
abbrev pub CheckAnswersAre : Type 0
CheckAnswersAre =
    ((s : List ℕ) → (65536 < length s → check_answer s ≡ too_long_said)
    × (length s ≤ 65536 →
    (AllKeep (records_of s) → (tail_good s ≡ true → check_answer s ≡ ok_said) × (tail_good s ≡ false → check_answer s ≡ bad_tail))
    × ((n r : ℕ) → AtFault (records_of s) n r → check_answer s ≡ fault_said n r)))
    × ((t : List ℕ) (rs : List Record) → GoodText t rs → AllKeep rs → length t ≤ 65536 → check_answer (pack_answer t) ≡ ok_said)

-- no message is a strip or a table of rows, so that what was written tells which it is
abbrev pub MessagesApart : Type 0
MessagesApart =
    (rs : List Record) →
    (all_fit rs ≡ true → (strip_bytes rs ≡ too_long_said → ⊥) × (strip_bytes rs ≡ bad_tail → ⊥) × ((n : ℕ) → n < 10 ^ 10 → (strip_bytes rs ≡ bad_line_said n → ⊥) × (strip_bytes rs ≡ bad_row_said n → ⊥)))
    × (rows_bytes rs ≡ too_long_said → ⊥)
    × (rows_bytes rs ≡ bad_tail → ⊥)

-- every answer has room in the output that a program lends
abbrev pub AnswersFit : Type 0
AnswersFit =
    ((s : List ℕ) → (length (list_answer s) ≤ 262144) × (length (rows_answer s) ≤ 131072) × (length (check_answer s) ≤ 64))
    × ((t : List ℕ) → (length (pack_answer t) ≤ 65536) × (length (pack_rows_answer t) ≤ 65536))

-- strips of up to 1,597 records with a good tail always go to text and back; one of 1,598 does not
abbrev pub AnswersBack : Type 0
AnswersBack =
    ((s : List ℕ) → ((i : ℕ) → get_or s i 0 < 256) → tail_good s ≡ true → count_of s ≤ 1597 → pack_answer (list_answer s) ≡ s)
    × ((s : List ℕ) × (count_of s ≡ 1598) × (tail_good s ≡ true) × (pack_answer (list_answer s) ≡ too_long_said))

-- and strips of up to 3,640 records to rows and back; one of 3,641 does not
abbrev pub RowAnswersBack : Type 0
RowAnswersBack =
    ((s : List ℕ) → ((i : ℕ) → get_or s i 0 < 256) → tail_good s ≡ true → count_of s ≤ 3640 → pack_rows_answer (rows_answer s) ≡ s)
    × ((s : List ℕ) × (count_of s ≡ 3641) × (tail_good s ≡ true) × (pack_rows_answer (rows_answer s) ≡ too_long_said))
