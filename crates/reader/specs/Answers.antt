-- What each method of a cursor answers, on every input, in the order of the methods.
use Rattle.std.specs.Prelude.{ℕ, ℤ, Result, Ok, Err, ◌-◌, ◌*◌, ◌/◌, ◌%◌, List, [], ◌∷◌, Bool, false, not, cond, length, eqb, ltb}
use Rattle.std.proofs.Math.Seq.{slice}
use Rattle.bits.specs.declared.Order.{Order}
use Rattle.bits.specs.Refusals.{Told, told_by, number, longest, done, too_long, too_wide, too_few, past_lookahead, bad_end, end_in_byte, ◌⟶◌, first_refusal, if_done}
use Rattle.bits.specs.declared.Refusal.{Refusal}
use Rattle.bits.specs.Field.{field}
use Rattle.bits.specs.Signed.{signed}
use Rattle.counts.specs.Counts.{after_refill, after_take, after_read, after_bytes}
use Rattle.octets.specs.Octets.{octets}
use Rattle.floats.specs.Floats.{single_of, double_of}
use Rattle.floats.specs.declared.Single.{Single}
use Rattle.floats.specs.declared.Double.{Double}
use Rattle.reader.specs.declared.Cursor.{Cursor}
use Rattle.reader.specs.declared.Read.{Read}
use Rattle.reader.specs.declared.Partial.{Partial}
use Rattle.reader.specs.Cursor.{counts_in, cursor_at, ending_at, place, bits_left, bytes_left, ahead_in, cursor_refusal}

-- ---- what is told: the number of a refusal or done, and what there is with it

-- of a read: a value, and the cursor that goes on
pub record ReadTold (A : Type 0) : Type 0 where
  pub refusal : ℕ
  pub value : A
  pub cursor : Cursor

-- of a move: the cursor that goes on
pub record Moved : Type 0 where
  pub refusal : ℕ
  pub cursor : Cursor

abbrev pub moved : ℕ → Cursor → Moved
moved e c = record { refusal = e; cursor = c }

-- the outcome of a read of the cursor c: where it is refused, the value is `none` and the cursor the one that came
abbrev pub read_told : {A : Type 0} → A → Cursor → Result (Read A) Refusal → ReadTold A
read_told none c (Ok r) = record { refusal = done; value = r.value; cursor = r.cursor }
read_told none c (Err e) = record { refusal = number e; value = none; cursor = c }

-- the outcome of a move of the cursor c
abbrev pub moved_told : Cursor → Result Cursor Refusal → Moved
moved_told c (Ok d) = moved done d
moved_told c (Err e) = moved (number e) c

-- no bits before a remainder
abbrev pub no_partial : Partial
no_partial = record { partial_bits = 0; partial_byte = 0 }

-- all zeros, which stand where no cursor came
abbrev pub no_cursor : Cursor
no_cursor = record { offset = 0; lookahead = 0; register = 0; end = 0 }

-- ---- making one

-- a fresh cursor is all zeros but for its end, the slice's; with refusal 1 that is 0 too
unfoldable pub new_of : List ℕ → Moved
new_of s =
    moved (ltb longest (length s) ⟶ too_long)
    (record { offset = 0; lookahead = 0; register = 0; end = cond (ltb longest (length s)) 0 (8 * length s) })

-- ---- fields

-- 1 and 2, then 3 for a width above 64, then 9 where fewer bits are left
unfoldable pub read_refusal : Order → List ℕ → Cursor → ℕ → ℕ
read_refusal o s c w =
    first_refusal
    (cursor_refusal o s c
    ∷ ltb 64 w ⟶ too_wide
    ∷ ltb (bits_left s c) w ⟶ too_few
    ∷ [])

-- the field of w bits at the place, and the cursor behind it
unfoldable pub read_of : Order → List ℕ → Cursor → ℕ → ReadTold ℕ
read_of o s c w =
    if_done (read_refusal o s c w)
    (record { refusal = done; value = field o s (place c) w; cursor = cursor_at o s c (after_read (length s) w (counts_in c)) })
    (record { refusal = read_refusal o s c w; value = 0; cursor = c })

-- the same answer with its value by f: as a bool, at a narrower type, as a signed number of w bits, or as a float
abbrev pub read_as : {A : Type 0} → (ℕ → A) → ReadTold ℕ → ReadTold A
read_as f r = record { refusal = r.refusal; value = f r.value; cursor = r.cursor }

abbrev pub as_bool : ReadTold ℕ → ReadTold Bool
as_bool = read_as (λ v. eqb v 1)

abbrev pub as_f32 : ReadTold ℕ → ReadTold Single
as_f32 = read_as single_of

abbrev pub as_signed : ℕ → ReadTold ℕ → ReadTold ℤ
as_signed w = read_as (signed w)

abbrev pub as_f64 : ReadTold ℕ → ReadTold Double
as_f64 = read_as double_of

-- ---- counts

-- a number that is told of a cursor that belongs
unfoldable pub counted_of : Order → List ℕ → Cursor → ℕ → Told ℕ
counted_of o s c n = told_by (cursor_refusal o s c) (if_done (cursor_refusal o s c) n 0)

-- a test that is made of a cursor that belongs
unfoldable pub tested_of : Order → List ℕ → Cursor → Bool → Told Bool
tested_of o s c b = told_by (cursor_refusal o s c) (if_done (cursor_refusal o s c) b false)

-- ---- bytes

-- 1 also for a buffer past the limit; 9 where fewer than n whole bytes are left
unfoldable pub bytes_refusal : Order → List ℕ → Cursor → ℕ → ℕ
bytes_refusal o s c n =
    first_refusal
    (ltb longest n ⟶ too_long
    ∷ cursor_refusal o s c
    ∷ ltb (bytes_left s c) n ⟶ too_few
    ∷ [])

unfoldable pub bytes_of : Order → List ℕ → Cursor → ℕ → Moved
bytes_of o s c n = moved (bytes_refusal o s c n) (if_done (bytes_refusal o s c n) (cursor_at o s c (after_bytes (length s) n (counts_in c))) c)

-- the buffer: fields of eight bits from the place on, or as it was
unfoldable pub bytes_out : Order → List ℕ → Cursor → List ℕ → List ℕ
bytes_out o s c out = if_done (bytes_refusal o s c (length out)) (octets o s (place c) (length out)) out

-- ---- manual mode

-- 1 and 2, then 10 for more bits than the lookahead has
unfoldable pub manual_refusal : Order → List ℕ → Cursor → ℕ → ℕ
manual_refusal o s c n = first_refusal (cursor_refusal o s c ∷ ltb (ahead_in s c) n ⟶ past_lookahead ∷ [])

unfoldable pub peek_of : Order → List ℕ → Cursor → ℕ → Told ℕ
peek_of o s c n = told_by (manual_refusal o s c n) (if_done (manual_refusal o s c n) (field o s (place c) n) 0)

unfoldable pub consume_of : Order → List ℕ → Cursor → ℕ → Moved
consume_of o s c n = moved (manual_refusal o s c n) (if_done (manual_refusal o s c n) (cursor_at o s c (after_take n (counts_in c))) c)

unfoldable pub refill_of : Order → List ℕ → Cursor → Moved
refill_of o s c = moved (cursor_refusal o s c) (if_done (cursor_refusal o s c) (cursor_at o s c (after_refill (length s) (counts_in c))) c)

unfoldable pub ahead_of : Order → List ℕ → Cursor → Told ℕ
ahead_of o s c = told_by (cursor_refusal o s c) (if_done (cursor_refusal o s c) (ahead_in s c) 0)

-- ---- remainder

-- 1 and 2, then 14 for an end that is not a multiple of 8
unfoldable pub remainder_refusal : Order → List ℕ → Cursor → ℕ
remainder_refusal o s c = first_refusal (cursor_refusal o s c ∷ not (eqb (c.end % 8) 0) ⟶ end_in_byte ∷ [])

-- the first whole unread byte: where the remainder starts; 0 with a refusal
unfoldable pub start_of : Order → List ℕ → Cursor → ℕ
start_of o s c = if_done (remainder_refusal o s c) (c.offset - c.lookahead / 8) 0

-- the slice from that byte on up to the end; empty with a refusal
unfoldable pub remainder_of : Order → List ℕ → Cursor → List ℕ
remainder_of o s c = if_done (remainder_refusal o s c) (slice (start_of o s c) (c.end / 8) s) []

-- the bits before that byte: how many, and their value
unfoldable pub partial_of : Order → List ℕ → Cursor → Told Partial
partial_of o s c =
    told_by (remainder_refusal o s c)
    (if_done (remainder_refusal o s c) (record { partial_bits = c.lookahead % 8; partial_byte = field o s (place c) (c.lookahead % 8) }) no_partial)

-- ---- the end

-- 1 and 2, then 13 for an end above the cursor's own or below its place
unfoldable pub lower_refusal : Order → List ℕ → Cursor → ℕ → ℕ
lower_refusal o s c e =
    first_refusal
    (cursor_refusal o s c
    ∷ ltb c.end e ⟶ bad_end
    ∷ ltb e (place c) ⟶ bad_end
    ∷ [])

unfoldable pub lower_of : Order → List ℕ → Cursor → ℕ → Moved
lower_of o s c e = moved (lower_refusal o s c e) (if_done (lower_refusal o s c e) (ending_at c e) c)
