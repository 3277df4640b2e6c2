-- The round trip of all that a writer takes: unsigned and signed fields, bytes and flushes, in any order, that a fresh writer wrote and
-- flushed are read back, by a fresh cursor, from the written bytes alone.
-- `MixedRoundTrip` is the statement; `mixed_round_trip` of MixedTrip.antt proves it.
use Rattle.std.specs.Prelude.{ℕ, zero, suc, ◌+◌, ◌-◌, ◌*◌, ◌%◌, ◌^◌, ◌<◌, ◌≤◌, ◌≡◌, List, [], ◌∷◌, map, ℤ, pos, length, take, get_or}
use Rattle.std.specs.Int.Signed.{mag}
use Rattle.bits.specs.declared.Order.{Order}
use Rattle.bits.specs.Refusals.{longest, done}
use Rattle.bits.specs.Field.{field}
use Rattle.reader.specs.declared.Cursor.{Cursor}
use Rattle.reader.specs.Cursor.{place, bits_left}
use Rattle.reader.specs.Answers as R
use Rattle.writer.specs.declared.Writer.{Writer}
use Rattle.writer.specs.Answers.{Wrote}
use Rattle.writer.specs.Answers as W

-- a thing to write; with bytes goes the buffer that they are read back into, whatever it holds
pub data Item : Type 0 where
  unsigned : (width value : ℕ) → Item
  signed : (width : ℕ) (number : ℤ) → Item
  bytes : (written buffer : List ℕ) → Item
  flush : Item

-- two's complement of w bits: 0 alone at width 0, else from -2 ^ (w - 1) to 2 ^ (w - 1) - 1, where `mag` of n and of -(n + 1) is n
unfoldable pub InRange : ℕ → ℤ → Type 0
InRange zero z = z ≡ pos 0
InRange (suc j) z = mag z < 2 ^ j

-- a field of 0 to 64 bits whose number is in range, bytes below 256 and a buffer for as many, a flush
pub data Fits : Item → Type 0 where
  unsigned_fits : {w v : ℕ} → w ≤ 64 → v < 2 ^ w → Fits (unsigned w v)
  signed-fits : {w : ℕ} {z : ℤ} → w ≤ 64 → InRange w z → Fits (signed w z)
  bytes_fit : {bs buffer : List ℕ} → ((i : ℕ) → get_or bs i 0 < 256) → length buffer ≡ length bs → Fits (bytes bs buffer)
  flush_fits : Fits flush

-- items that all fit
pub data Fit : List Item → Type 0 where
  none : Fit []
  more : {e : Item} {es : List Item} → Fits e → Fit es → Fit (e ∷ es)

-- the bits of an item behind n bits; a flush takes those up to a byte
unfoldable pub bits : ℕ → Item → ℕ
bits n (unsigned w v) = w
bits n (signed w z) = w
bits n (bytes bs buffer) = 8 * length bs
bits n flush = (8 - n % 8) % 8

-- the bits of items behind n bits
unfoldable pub size : ℕ → List Item → ℕ
size n [] = 0
size n (e ∷ es) = bits n e + size (n + bits n e) es

-- ---- the way out

-- what writing leaves: a refusal number for each item, the writer and the output
pub record Written : Type 0 where
  pub refusals : List ℕ
  pub writer : Writer
  pub out : List ℕ

-- what the writer's call for an item answers
unfoldable pub item_of : Order → ℕ → Writer → Item → Wrote
item_of o len w (unsigned n v) = W.write_of o len w n v
item_of o len w (signed n z) = W.signed_of o len w n z
item_of o len w (bytes bs buffer) = W.bytes_of o len w bs
item_of o len w flush = W.flush_of o len w

-- the output after that call
unfoldable pub item_out : Order → List ℕ → Writer → Item → List ℕ
item_out o s w (unsigned n v) = W.write_out o s w n v
item_out o s w (signed n z) = W.signed_out o s w n z
item_out o s w (bytes bs buffer) = W.bytes_out o s w bs
item_out o s w flush = W.flush_out o s w

-- items written one after the other
unfoldable pub write_all : Order → List ℕ → Writer → List Item → Written
write_all o s w [] = record { refusals = []; writer = w; out = s }
write_all o s w (e ∷ es) =
    let one = item_of o (length s) w e in
    let others = write_all o (item_out o s w e) one.writer es in
    record { refusals = one.refusal ∷ others.refusals; writer = others.writer; out = others.out }

-- and a flush, whose refusal number comes first
unfoldable pub flushed : Order → Written → Written
flushed o q =
    let last = W.flush_of o (length q.out) q.writer in
    record { refusals = last.refusal ∷ q.refusals; writer = last.writer; out = W.flush_out o q.out q.writer }

-- by a fresh writer, into an output s, and flushed
abbrev pub sent : Order → List ℕ → List Item → Written
sent o s es = flushed o (write_all o s (W.new_of (length s)).writer es)

-- the written bytes alone
abbrev pub carried : Order → List ℕ → List Item → List ℕ
carried o s es = take (sent o s es).writer.written (sent o s es).out

-- ---- the way back

-- what a reader is asked for: a field or a signed field of a width, bytes into a buffer, the padding up to a byte
pub data Request : Type 0 where
  read_bits : (width : ℕ) → Request
  read_signed_bits : (width : ℕ) → Request
  read_bytes : (buffer : List ℕ) → Request
  read_padding : Request

-- the request that gets an item back: of what was written it has the width alone, or the buffer
unfoldable pub request_of : Item → Request
request_of (unsigned w v) = read_bits w
request_of (signed w z) = read_signed_bits w
request_of (bytes bs buffer) = read_bytes buffer
request_of flush = read_padding

-- a number, a signed number, or bytes
pub data Value : Type 0 where
  number : ℕ → Value
  integer : ℤ → Value
  list : List ℕ → Value

-- what was written; padding is zeros
unfoldable pub value_of : Item → Value
value_of (unsigned w v) = number v
value_of (signed w z) = integer z
value_of (bytes bs buffer) = list bs
value_of flush = number 0

-- the answer to a request
pub record Answer : Type 0 where
  pub refusal : ℕ
  pub value : Value
  pub cursor : Cursor

-- what the reader's call for a request answers; padding is the field of the bits left that make no whole byte
unfoldable pub answer_of : Order → List ℕ → Cursor → Request → Answer
answer_of o s c (read_bits w) =
    let r = R.read_of o s c w in
    record { refusal = r.refusal; value = number r.value; cursor = r.cursor }
answer_of o s c (read_signed_bits w) =
    let r = R.as_signed w (R.read_of o s c w) in
    record { refusal = r.refusal; value = integer r.value; cursor = r.cursor }
answer_of o s c (read_bytes buffer) =
    let r = R.bytes_of o s c (length buffer) in
    record { refusal = r.refusal; value = list (R.bytes_out o s c buffer); cursor = r.cursor }
answer_of o s c read_padding =
    let r = R.read_of o s c (bits_left s c % 8) in
    record { refusal = r.refusal; value = number r.value; cursor = r.cursor }

-- what reading gives: a refusal number and a value for each request, and the cursor
pub record Back : Type 0 where
  pub refusals : List ℕ
  pub values : List Value
  pub cursor : Cursor

-- requests met one after the other
unfoldable pub read_all : Order → List ℕ → Cursor → List Request → Back
read_all o s c [] = record { refusals = []; values = []; cursor = c }
read_all o s c (q ∷ qs) =
    let one = answer_of o s c q in
    let others = read_all o s one.cursor qs in
    record { refusals = one.refusal ∷ others.refusals; values = one.value ∷ others.values; cursor = others.cursor }

-- from the written bytes, by a fresh cursor
abbrev pub back : Order → List ℕ → List Item → Back
back o s es = read_all o (carried o s es) (R.new_of (carried o s es)).cursor (map request_of es)

-- ---- there and back

-- what came of the items, written into s and read back
pub record Returned (o : Order) (s : List ℕ) (es : List Item) : Type 0 where
  -- nothing is refused
  pub new_writer : (W.new_of (length s)).refusal ≡ done
  pub written : (sent o s es).refusals ≡ done ∷ map (λ (e : Item). done) es
  pub new_cursor : (R.new_of (carried o s es)).refusal ≡ done
  pub read : (back o s es).refusals ≡ map (λ (e : Item). done) es
  -- each number, signed number and list of bytes is the one written, and padding is zero
  pub values : (back o s es).values ≡ map value_of es
  -- under eight bits are left, all zero
  pub few : bits_left (carried o s es) (back o s es).cursor < 8
  pub zeros : field o (carried o s es) (place (back o s es).cursor) (bits_left (carried o s es) (back o s es).cursor) ≡ 0

-- items that fit, and have room in an output within the limit, return
abbrev pub MixedRoundTrip : Type 0
MixedRoundTrip = (o : Order) (s : List ℕ) (es : List Item) → length s ≤ longest → Fit es → size 0 es ≤ 8 * length s → Returned o s es
