-- The writers and the cursors that calls make: a fresh one, and what any call, refused or done, answers from one that calls made.
-- Every call that answers a writer or a cursor stands here; those that only look at one answer none, and what a caller makes up of numbers
-- of its own (by `Cursor::from_parts`, say) was made by no call.
use Rattle.std.specs.Prelude.{ℕ, ◌<◌, ◌≡◌, List, ℤ, get_or}
use Rattle.bits.specs.declared.Order.{Order}
use Rattle.bits.specs.declared.Order.TheVariants.{Big}
use Rattle.reader.specs.declared.Cursor.{Cursor}
use Rattle.reader.specs.Answers as R
use Rattle.writer.specs.declared.Writer.{Writer}
use Rattle.writer.specs.Answers as W
use Rattle.typed.specs.declared.Kind.{Kind}
use Rattle.typed.specs.declared.Typed.{Typed}
use Rattle.typed.specs.Answers.{TypedRead}
use Rattle.typed.specs.Answers.{Done, Refused}
use Rattle.typed.specs.Answers as T
use Rattle.plan.specs.Run.{run_of}
use Rattle.record.specs.declared.Record.{Record}
use Rattle.strip.specs.Answers as S

-- the writers of an output of len bytes, whatever these hold at each call; a fixed width, a bit and a double are `write_bits` or
-- `write_signed_bits` at their width
pub data Reached (len : ℕ) : Writer → Type 0 where
  new : Reached len (W.new_of len).writer
  write_bits : {w : Writer} → Reached len w → (o : Order) (n v : ℕ) → Reached len (W.write_of o len w n v).writer
  write_signed_bits : {w : Writer} → Reached len w → (o : Order) (n : ℕ) (z : ℤ) → Reached len (W.signed_of o len w n z).writer
  write_f32 : {w : Writer} → Reached len w → Reached len (W.retired_of len w).writer
  write_bytes : {w : Writer} → Reached len w → (o : Order) (bs : List ℕ) → ((i : ℕ) → get_or bs i 0 < 256) → Reached len (W.bytes_of o len w bs).writer
  flush : {w : Writer} → Reached len w → (o : Order) → Reached len (W.flush_of o len w).writer
  write_typed : {w : Writer} → Reached len w → (o : Order) (v : Typed) (n : ℕ) → Reached len (T.write_of o len w v n).writer
  pack_record : {w : Writer} → Reached len w → (r : Record) → Reached len (S.pack_of len w r).writer

-- the cursor that a typed read answers, done or refused
unfoldable pub cursor_of : TypedRead → Cursor
cursor_of (Done v c) = c
cursor_of (Refused e c) = c

-- one order, as that of every call
abbrev pub Only : Order → Order → Type 0
Only o p = p ≡ o

-- either order, from call to call
abbrev pub Either : Order → Type 0
Either p = Unit {0}

-- the cursors that a call in order o, done or refused, answers from a cursor c of a slice s; a fixed width, a bit, a float and a signed read
-- answer that of `read_bits` at their width, and on a borrowed cursor a call leaves the one that it answers. `lower_end` stands below
pub data Called (s : List ℕ) (c : Cursor) : Order → Cursor → Type 0 where
  read_bits : {o : Order} (w : ℕ) → Called s c o (R.read_of o s c w).cursor
  read_bytes : {o : Order} (n : ℕ) → Called s c o (R.bytes_of o s c n).cursor
  consume : {o : Order} (n : ℕ) → Called s c o (R.consume_of o s c n).cursor
  refill_lookahead : {o : Order} → Called s c o (R.refill_of o s c).cursor
  read_typed : {o : Order} (k : Kind) (w : ℕ) → Called s c o (cursor_of (T.read_of o s c k w))
  run : {o : Order} (p : List ℕ) (room : ℕ) → Called s c o (run_of o s c p room).cursor
  read_record : Called s c Big (S.read_of s c).cursor

-- the cursors of a slice s, by calls in the orders that `In` holds of
pub data ReachedCursor (In : Order → Type 0) (s : List ℕ) : Cursor → Type 0 where
  new : ReachedCursor In s (R.new_of s).cursor
  next : {c d : Cursor} {o : Order} → ReachedCursor In s c → In o → Called s c o d → ReachedCursor In s d
  lower_end : {c : Cursor} {o : Order} → ReachedCursor In s c → In o → (e : ℕ) → ReachedCursor In s (R.lower_of o s c e).cursor
