-- The worked examples that are proved: what is asked, what the definitions answer, and that each answer is the expected one.
use Prim.Native.Nat.{ℕ, ◌^◌}
use mathlib.Core.Path.{◌≡◌, refl}
use mathlib.Core.List.{List, [], ◌∷◌, ◌++◌, map}
use lib.ListN.{length}
use lib.IntN.{ℤ, pos, negsuc}
use Rattle.bits.specs.declared.Order.{Order}
use Rattle.bits.specs.declared.Order.TheVariants.{Little, Big}
use Rattle.bits.specs.Refusals.{or_else, first_refusal, LengthTold}
use Rattle.bits.specs.Field.{position, bit, join, field}
use Rattle.bits.specs.Word.{first, rest, held}
use Rattle.bits.specs.Signed.{signed, pattern}
use Rattle.bits.specs.Refusals.{Told}
use Rattle.sign.specs.Extend.{extend_refusal, extend_of}
use Rattle.counts.specs.Counts.{after_read}
use Rattle.lookahead.specs.State.{register_of, belongs, state_refusal}
use Rattle.reader.specs.declared.Cursor.{Cursor}
use Rattle.reader.specs.Answers.{ReadTold}
use Rattle.reader.specs.Answers.{Moved}
use Rattle.reader.specs.declared.Partial.{Partial}
use Rattle.reader.specs.Cursor.{cursor_refusal, bits_left, cursor_at}
use Rattle.reader.specs.Answers.{new_of, read_refusal, read_of, remainder_refusal, start_of, remainder_of, partial_of, lower_refusal, lower_of}
use Rattle.packing.specs.Packing as P
use Rattle.packing.specs.Packing.{bytes_of, put, put_out}
use Rattle.layout.specs.Layout.{items_of, good_items, is_layout}
use Rattle.layout.specs.Plan.{takes, refilled}
use Rattle.layout.specs.Answers.{compile_refusal, compile_of, compile_out}
use Rattle.digits.specs.Digits.{ascii, newline, value_from}
use Rattle.digits.specs.Reading.{run, after, closed, whole_at, decimals_at}
use Rattle.print.specs.Print.{digits_of, places_in, fixed_of}
use Rattle.record.specs.Record.{fits}
use Rattle.line.specs.Date.{units_of}
use Rattle.line.specs.Reading.{date_at, thousandths_at, complement, magnitude_at, six_at}
use Rattle.line.specs.Grammar.{spelled}
use Rattle.listing.specs.Listing.{parts_of, line_of}
use Rattle.strip.specs.Bits.{bits_of, record_at}
use Rattle.strip.specs.Strip.{joined, strip_bytes, records_from, tail_good}
use Rattle.vetting.specs.Verdicts.{rule_broken, verdict_from, verdict_of}
use Rattle.rows.specs.Row.{letter, columns_at, columns_of, bits_of_columns, row_bytes, within, in_range, record_said}
use Rattle.rows.specs.Rows.{rows_bytes, rows_whole, records_in_rows, bad_from}
use Rattle.text.specs.Text.{header, bad_tail, listed, text_of, headed, lines_in}
use Rattle.text.specs.Answers.{list_refusal, list_of}
use Rattle.jobs.specs.Jobs.{too_long_said, bad_line_said, bad_row_said, ok_said, fault_said, verdict_said, list_answer, pack_answer, rows_answer, pack_rows_answer, check_answer}
use Rattle.writer.specs.declared.Writer.{Writer}
use Rattle.writer.specs.Writer.{oversized, write_refusal}
use Rattle.writer.specs.Answers as W
use Rattle.writer.specs.Answers.{write_of, write_out, flush_of, flush_out}

-- a field to write: its width and its value
pub record Field : Type 0 where
  pub width : ℕ
  pub value : ℕ

infixl 70 ◌bits◌
abbrev pub ◌bits◌ : ℕ → ℕ → Field
w bits v = record { width = w; value = v }

-- what an example asks
pub data Asked : Type 0 where
  -- sign_extend of a value and a width: its refusal number and its value
  extends : ℕ → ℕ → Asked
  -- reads of these widths, one after the other, from a fresh cursor of a slice: each one's refusal number and value
  reads : Order → List ℕ → List ℕ → Asked
  -- writes of these widths and values by a fresh writer into an output, and a flush: each one's refusal number, and the output
  writes : Order → List ℕ → List Field → Asked
  -- after a read of some bits from a fresh cursor: the partial bits, their value, and the bytes of the remainder
  remains : Order → List ℕ → ℕ → Asked
  -- the first two from a fresh cursor whose end is lowered: behind the refusal numbers of `lower_end`, and of `partial`
  reads_to : ℕ → Order → List ℕ → List ℕ → Asked
  remains_to : ℕ → Order → List ℕ → ℕ → Asked
  -- the plan of a layout compiled into an output: the refusal number, the plan's length, and the output
  compiles : List ℕ → List ℕ → Asked
  -- the text of a strip, listed into an output with room for so many bytes: the refusal number, the length, and the text
  lists : List ℕ → ℕ → Asked
  -- all that striplist, strippack, striprows, rowspack and stripcheck write for all that they read
  listed_by_program : List ℕ → Asked
  packed_by_program : List ℕ → Asked
  rows_by_program : List ℕ → Asked
  rows_packed_by_program : List ℕ → Asked
  checked_by_program : List ℕ → Asked
  -- the message for too much
  said : Asked

-- reads of these widths from a cursor on
unfoldable pub readings : Order → List ℕ → Cursor → List ℕ → List ℤ
readings o s c [] = []
readings o s c (w ∷ ws) = let r : ReadTold ℕ = read_of o s c w in (pos r.refusal ∷ pos r.value ∷ readings o s r.cursor ws)

-- writes of these fields from a writer on, and a flush
unfoldable pub writings : Order → List ℕ → Writer → List Field → List ℤ
writings o s w [] = pos (flush_of o (length s) w).refusal ∷ map pos (flush_out o s w)
writings o s w (f ∷ fs) =
    pos (write_of o (length s) w f.width f.value).refusal
    ∷ writings o (write_out o s w f.width f.value) (write_of o (length s) w f.width f.value).writer fs

-- what the definitions answer
unfoldable pub told : Asked → List ℤ
told (extends v w) = let r : Told ℤ = extend_of v w in (pos r.refusal ∷ r.value ∷ [])
told (reads o s ws) = readings o s (new_of s).cursor ws
told (writes o s fs) = writings o s (W.new_of (length s)).writer fs
told (remains o s n) =
    let c : Cursor = (read_of o s (new_of s).cursor n).cursor in
    let p : Told Partial = partial_of o s c in
    (pos p.value.partial_bits ∷ pos p.value.partial_byte ∷ map pos (remainder_of o s c))
told (reads_to e o s ws) = let m : Moved = lower_of o s (new_of s).cursor e in (pos m.refusal ∷ readings o s m.cursor ws)
told (remains_to e o s n) =
    let m : Moved = lower_of o s (new_of s).cursor e in
    let c : Cursor = (read_of o s m.cursor n).cursor in
    let p : Told Partial = partial_of o s c in
    (pos m.refusal ∷ pos p.refusal ∷ pos p.value.partial_bits ∷ pos p.value.partial_byte ∷ map pos (remainder_of o s c))
told (compiles s out) =
    let r : LengthTold = compile_of s (length out) in (pos r.refusal ∷ pos r.length ∷ map pos (compile_out s out))
told (listed_by_program s) = map pos (list_answer s)
told (packed_by_program t) = map pos (pack_answer t)
told (rows_by_program s) = map pos (rows_answer s)
told (rows_packed_by_program t) = map pos (pack_rows_answer t)
told (checked_by_program s) = map pos (check_answer s)
told said = map pos too_long_said
told (lists s room) = let r : LengthTold = list_of s room in (pos r.refusal ∷ pos r.length ∷ map pos (text_of s))

-- an example and its expected answer
pub record Example : Type 0 where
  pub asked : Asked
  pub expected : List ℤ

infixl 20 ◌gives◌
abbrev pub ◌gives◌ : Asked → List ℤ → Example
a gives e = record { asked = a; expected = e }

-- the table
abbrev pub table : List Example
table =
    -- P1, P2
    (reads Little (0xff ∷ 0x04 ∷ []) (1 ∷ 8 ∷ 7 ∷ []) gives (pos 0 ∷ pos 1 ∷ pos 0 ∷ pos 0x7f ∷ pos 0 ∷ pos 2 ∷ []))
    ∷ (reads Big (0xff ∷ 0x04 ∷ []) (1 ∷ 8 ∷ 7 ∷ []) gives (pos 0 ∷ pos 1 ∷ pos 0 ∷ pos 0xfe ∷ pos 0 ∷ pos 4 ∷ []))
    -- P3
    ∷ (reads Little (0xab ∷ 0xcd ∷ 0xef ∷ 0x01 ∷ 0x23 ∷ 0x45 ∷ 0x67 ∷ 0x89 ∷ []) (60 ∷ []) gives (pos 0 ∷ pos 0x0967452301efcdab ∷ []))
    -- P4
    ∷ (reads Little [] (0 ∷ 1 ∷ []) gives (pos 0 ∷ pos 0 ∷ pos 9 ∷ pos 0 ∷ []))
    ∷ (reads Big [] (0 ∷ 1 ∷ []) gives (pos 0 ∷ pos 0 ∷ pos 9 ∷ pos 0 ∷ []))
    -- an end within a byte, one that wraps two bytes, one that is raised, and one before which nothing is left
    ∷ (reads_to 11 Big (0xff ∷ 0x04 ∷ []) (8 ∷ 3 ∷ 1 ∷ []) gives (pos 0 ∷ pos 0 ∷ pos 255 ∷ pos 0 ∷ pos 0 ∷ pos 9 ∷ pos 0 ∷ []))
    ∷ (remains_to 11 Big (0xff ∷ 0x04 ∷ []) 8 gives (pos 0 ∷ pos 14 ∷ pos 0 ∷ pos 0 ∷ []))
    ∷ (remains_to 16 Big (0x7e ∷ 0xa5 ∷ 0x01 ∷ []) 4 gives (pos 0 ∷ pos 0 ∷ pos 4 ∷ pos 0xe ∷ pos 0xa5 ∷ []))
    ∷ (reads_to 17 Big (0xff ∷ 0x04 ∷ []) (16 ∷ []) gives (pos 13 ∷ pos 0 ∷ pos 0xff04 ∷ []))
    ∷ (reads_to 0 Little (0xff ∷ 0x04 ∷ []) (0 ∷ 1 ∷ []) gives (pos 0 ∷ pos 0 ∷ pos 0 ∷ pos 9 ∷ pos 0 ∷ []))
    -- P5
    ∷ (extends 0 0 gives (pos 0 ∷ pos 0 ∷ []))
    ∷ (extends 1 1 gives (pos 0 ∷ negsuc 0 ∷ []))
    ∷ (extends 7 4 gives (pos 0 ∷ pos 7 ∷ []))
    ∷ (extends 8 4 gives (pos 0 ∷ negsuc 7 ∷ []))
    ∷ (extends (2 ^ 63) 64 gives (pos 0 ∷ negsuc 9223372036854775807 ∷ []))
    -- P6: the output's third byte is untouched
    ∷ (writes Big (9 ∷ 9 ∷ 9 ∷ []) (3 bits 5 ∷ 7 bits 1 ∷ []) gives (pos 0 ∷ pos 0 ∷ pos 0 ∷ pos 0xa0 ∷ pos 0x40 ∷ pos 9 ∷ []))
    ∷ (writes Little (9 ∷ 9 ∷ 9 ∷ []) (3 bits 5 ∷ 7 bits 1 ∷ []) gives (pos 0 ∷ pos 0 ∷ pos 0 ∷ pos 0x0d ∷ pos 0x00 ∷ pos 9 ∷ []))
    -- P7
    ∷ (writes Big (9 ∷ []) (3 bits 8 ∷ 0 bits 8 ∷ []) gives (pos 4 ∷ pos 0 ∷ pos 0 ∷ pos 9 ∷ []))
    ∷ (writes Little (9 ∷ []) (3 bits 8 ∷ 0 bits 8 ∷ []) gives (pos 4 ∷ pos 0 ∷ pos 0 ∷ pos 9 ∷ []))
    -- P8
    ∷ (remains Big (0x5a ∷ 0xff ∷ []) 3 gives (pos 5 ∷ pos 0x1a ∷ pos 0xff ∷ []))
    ∷ (remains Little (0x5a ∷ 0xff ∷ []) 3 gives (pos 5 ∷ pos 0x0b ∷ pos 0xff ∷ []))
    -- P9: the output's last byte is untouched
    ∷ (compiles (0 ∷ 20 ∷ 0 ∷ 38 ∷ 0 ∷ 1 ∷ 1 ∷ 16 ∷ 0 ∷ 10 ∷ 0 ∷ 4 ∷ []) (7 ∷ 7 ∷ 7 ∷ 7 ∷ 7 ∷ 7 ∷ 7 ∷ 7 ∷ 7 ∷ 7 ∷ [])
    gives (pos 0 ∷ pos 9 ∷ pos 0x00 ∷ pos 0x54 ∷ pos 0x00 ∷ pos 0x66 ∷ pos 0x41 ∷ pos 0x90 ∷ pos 0x00 ∷ pos 0x4a ∷ pos 0x44 ∷ pos 7 ∷ []))
    -- P10
    ∷ (compiles (0 ∷ 56 ∷ []) (7 ∷ 7 ∷ []) gives (pos 0 ∷ pos 2 ∷ pos 0x00 ∷ pos 0x78 ∷ []))
    ∷ (compiles (1 ∷ 57 ∷ []) (7 ∷ 7 ∷ 7 ∷ 7 ∷ []) gives (pos 0 ∷ pos 4 ∷ pos 0x00 ∷ pos 0xf8 ∷ pos 0x00 ∷ pos 0x81 ∷ []))
    ∷ (compiles (0 ∷ 64 ∷ []) (7 ∷ 7 ∷ 7 ∷ 7 ∷ []) gives (pos 0 ∷ pos 4 ∷ pos 0x00 ∷ pos 0xf8 ∷ pos 0x00 ∷ pos 0x48 ∷ []))
    ∷ (compiles [] (7 ∷ []) gives (pos 0 ∷ pos 0 ∷ pos 7 ∷ []))
    -- P11
    ∷ (lists (0x00 ∷ 0x00 ∷ 0x5e ∷ 0x52 ∷ 0x77 ∷ 0x48 ∷ 0x84 ∷ 0x5f ∷ 0x4c ∷ 0x00 ∷ 0x61 ∷ 0x80 ∷ []) 64
    gives (pos 0 ∷ pos 64 ∷ map pos (ascii "star,date,limit,mag,err,filter" ++ newline ∷ (ascii "5,2460523.64817,0,-1.440,0.012,3" ++ newline ∷ []))))
    -- what the programs write
    ∷ (listed_by_program (0 ∷ []) gives map pos (ascii "star,date,limit,mag,err,filter" ++ newline ∷ (ascii "bad tail" ++ newline ∷ [])))
    ∷ (packed_by_program [] gives map pos (ascii "bad line 1" ++ newline ∷ []))
    ∷ (packed_by_program (ascii "star,date,limit,mag,err,filter" ++ newline ∷ (ascii "5,2460523.64817,0,-1.440,0.012,3" ++ newline ∷ []))
    gives map pos (0x00 ∷ 0x00 ∷ 0x5e ∷ 0x52 ∷ 0x77 ∷ 0x48 ∷ 0x84 ∷ 0x5f ∷ 0x4c ∷ 0x00 ∷ 0x61 ∷ 0x80 ∷ []))
    ∷ (packed_by_program (ascii "star,date,limit,mag,err,filter" ++ newline ∷ (ascii "5,2460523.64817,0,-1.440,0.012,3" ++ newline ∷ (ascii "5,2460523.64817" ++ newline ∷ [])))
    gives map pos (ascii "bad line 3" ++ newline ∷ []))
    -- a half goes upward, and past the largest date nothing goes
    ∷ (packed_by_program (ascii "star,date,limit,mag,err,filter" ++ newline ∷ (ascii "5,2460523.648165,0,-1.440,0.012,3" ++ newline ∷ []))
    gives map pos (0x00 ∷ 0x00 ∷ 0x5e ∷ 0x52 ∷ 0x77 ∷ 0x48 ∷ 0x84 ∷ 0x5f ∷ 0x4c ∷ 0x00 ∷ 0x61 ∷ 0x80 ∷ []))
    ∷ (packed_by_program (ascii "star,date,limit,mag,err,filter" ++ newline ∷ (ascii "5,2748779.069435,0,-1.440,0.012,3" ++ newline ∷ []))
    gives map pos (ascii "bad line 2" ++ newline ∷ []))
    ∷ (rows_by_program (0x00 ∷ 0x00 ∷ 0x5e ∷ 0x52 ∷ 0x77 ∷ 0x48 ∷ 0x84 ∷ 0x5f ∷ 0x4c ∷ 0x00 ∷ 0x61 ∷ 0x80 ∷ [])
    gives map pos (0 ∷ 0 ∷ 0 ∷ 5 ∷ 0 ∷ 0 ∷ 0 ∷ 0x39 ∷ 0x49 ∷ 0xdd ∷ 0x22 ∷ 0x11 ∷ 0x46 ∷ 0xfa ∷ 0x60 ∷ 0 ∷ 0x0c ∷ 3 ∷ []))
    ∷ (rows_by_program (0 ∷ []) gives map pos (ascii "bad tail" ++ newline ∷ []))
    -- the largest of each, but for the magnitude, which is the least
    ∷ (rows_packed_by_program (0 ∷ 0x0f ∷ 0xff ∷ 0xff ∷ 0 ∷ 0 ∷ 0 ∷ 0x3f ∷ 0xff ∷ 0xff ∷ 0xff ∷ 0xff ∷ 0x54 ∷ 0x80 ∷ 0 ∷ 3 ∷ 0xff ∷ 0x0f ∷ [])
    gives map pos (0xff ∷ 0xff ∷ 0xff ∷ 0xff ∷ 0xff ∷ 0xff ∷ 0xff ∷ 0xf0 ∷ 0x00 ∷ 0x1f ∷ 0xff ∷ 0x80 ∷ []))
    -- a small letter, and a cut row behind it
    ∷ (rows_packed_by_program (0 ∷ 0 ∷ 0 ∷ 5 ∷ 0 ∷ 0 ∷ 0 ∷ 0x39 ∷ 0x49 ∷ 0xdd ∷ 0x22 ∷ 0x11 ∷ 0x66 ∷ 0xfa ∷ 0x60 ∷ 0 ∷ 0x0c ∷ 3 ∷ 0 ∷ [])
    gives map pos (ascii "bad row 1" ++ newline ∷ []))
    ∷ (rows_packed_by_program (0 ∷ []) gives map pos (ascii "bad tail" ++ newline ∷ []))
    -- the rules in their order, the first record at fault, the tail last; equal dates, filter 9 and error 0 with limit 1 are fine
    ∷ (checked_by_program (0x00 ∷ 0x00 ∷ 0x5e ∷ 0x52 ∷ 0x77 ∷ 0x48 ∷ 0x84 ∷ 0x5f ∷ 0x4c ∷ 0x00 ∷ 0x61 ∷ 0x80 ∷ [])
    gives map pos (ascii "ok" ++ newline ∷ []))
    ∷ (checked_by_program (0x00 ∷ 0x00 ∷ 0x5e ∷ 0x52 ∷ 0x77 ∷ 0x48 ∷ 0x84 ∷ 0x5f ∷ 0x4c ∷ 0x00 ∷ 0x61 ∷ 0x80 ∷ 0x00 ∷ 0x2f ∷ 0x29 ∷ 0x3b ∷ 0xa4 ∷ 0x42 ∷ 0x2f ∷ 0xa6 ∷ 0x00 ∷ 0x30 ∷ 0xc0 ∷ [])
    gives map pos (ascii "ok" ++ newline ∷ []))
    ∷ (checked_by_program (0x00 ∷ 0x00 ∷ 0x5e ∷ 0x52 ∷ 0x77 ∷ 0x48 ∷ 0x84 ∷ 0x5f ∷ 0x4c ∷ 0x00 ∷ 0x61 ∷ 0x80 ∷ 0x00 ∷ 0x2f ∷ 0x29 ∷ 0x3b ∷ 0xa4 ∷ 0x42 ∷ 0x0f ∷ 0xa6 ∷ 0x00 ∷ 0x02 ∷ 0x80 ∷ [])
    gives map pos (ascii "record 2 rule 1" ++ newline ∷ []))
    ∷ (checked_by_program (0x00 ∷ 0x00 ∷ 0x5e ∷ 0x52 ∷ 0x77 ∷ 0x48 ∷ 0x84 ∷ 0x5f ∷ 0x4c ∷ 0x00 ∷ 0x05 ∷ 0x00 ∷ [])
    gives map pos (ascii "record 1 rule 2" ++ newline ∷ []))
    ∷ (checked_by_program (0x00 ∷ 0x00 ∷ 0x5e ∷ 0x52 ∷ 0x77 ∷ 0x48 ∷ 0x84 ∷ 0x5f ∷ 0x4c ∷ 0x00 ∷ 0x01 ∷ 0x80 ∷ 0x00 ∷ 0x28 ∷ 0x00 ∷ 0x00 ∷ 0x00 ∷ 0x00 ∷ 0x0f ∷ 0xa6 ∷ 0x00 ∷ 0x30 ∷ 0xc0 ∷ [])
    gives map pos (ascii "record 1 rule 3" ++ newline ∷ []))
    ∷ (checked_by_program (0x00 ∷ 0x00 ∷ 0x50 ∷ 0x00 ∷ 0x00 ∷ 0x00 ∷ 0x00 ∷ 0x3f ∷ 0x4c ∷ 0x00 ∷ 0x04 ∷ 0x80 ∷ [])
    gives map pos (ascii "ok" ++ newline ∷ []))
    ∷ (checked_by_program (0x00 ∷ 0x00 ∷ 0x5e ∷ 0x52 ∷ 0x77 ∷ 0x48 ∷ 0x84 ∷ 0x5f ∷ 0x4c ∷ 0x00 ∷ 0x61 ∷ 0x81 ∷ [])
    gives map pos (ascii "bad tail" ++ newline ∷ []))
    ∷ (checked_by_program (0x00 ∷ 0x00 ∷ 0x5e ∷ 0x52 ∷ 0x77 ∷ 0x48 ∷ 0x84 ∷ 0x5f ∷ 0x4c ∷ 0x00 ∷ 0x01 ∷ 0x81 ∷ [])
    gives map pos (ascii "record 1 rule 3" ++ newline ∷ []))
    ∷ (checked_by_program ([])
    gives map pos (ascii "ok" ++ newline ∷ []))
    ∷ (said gives map pos (ascii "too long" ++ newline ∷ []))
    ∷ []

-- every example of the table is answered as expected
pub table_holds : map (λ (e : Example). told e.asked) table ≡ map (λ (e : Example). e.expected) table
unfolding told list_answer pack_answer rows_answer pack_rows_answer check_answer verdict_said ok_said fault_said verdict_of verdict_from rule_broken too_long_said bad_line_said bad_row_said letter columns_at columns_of bits_of_columns row_bytes within in_range record_said rows_bytes rows_whole records_in_rows bad_from headed lines_in strip_bytes joined bits_of fits six_at date_at thousandths_at complement magnitude_at closed whole_at decimals_at run after value_from units_of pattern readings writings ascii digits_of places_in fixed_of spelled parts_of line_of record_at records_from tail_good header bad_tail listed list_refusal list_of items_of good_items is_layout takes refilled compile_refusal compile_of compile_out oversized write_refusal write_of write_out flush_of flush_out W.new_of P.belongs P.state_refusal bytes_of put put_out first rest extend_refusal extend_of signed new_of read_refusal read_of remainder_refusal start_of remainder_of partial_of lower_refusal lower_of cursor_refusal bits_left cursor_at or_else first_refusal state_refusal belongs register_of after_read position bit join field held
table_holds = refl
