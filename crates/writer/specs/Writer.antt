-- A writer: its state over an output of len bytes, and the refusals of its calls.
use Rattle.std.specs.Prelude.{ℕ, ◌+◌, ◌-◌, ◌*◌, ◌%◌, ◌^◌, Bool, ◌&&◌, [], ◌∷◌, leb, ltb, ℤ}
use Rattle.bits.specs.Refusals.{longest, too_long, too_wide, too_large, no_room, retired_kind, ◌⟶◌, first_refusal}
use Rattle.packing.specs.declared.State.{State}
use Rattle.packing.specs.Packing as P
use Rattle.writer.specs.declared.Writer.{Writer}

-- the state of a writer
abbrev pub state_in : Writer → State
state_in w = record { written = w.written; held = w.held; number = w.number }

-- the writer with a state
abbrev pub writer_with : State → Writer
writer_with c = record { written = c.written; held = c.held; number = c.number }

-- T: the bits written so far, padding counted
abbrev pub bits_written : Writer → ℕ
bits_written w = P.bits_written (state_in w)

-- 1 for an output past the limit, 2 for a writer that does not belong to it
abbrev pub writer_refusal : ℕ → Writer → ℕ
writer_refusal len w = P.state_refusal len (state_in w)

-- 8 exactly if n bits more do not fit the output
abbrev pub room_refusal : ℕ → Writer → ℕ → ℕ
room_refusal len w n = ltb (8 * len) (bits_written w + n) ⟶ no_room

-- a value at or above 2 ^ n, n from 1 to 63
unfoldable pub oversized : ℕ → ℕ → Bool
oversized n v = leb 1 n && (leb n 63 && leb (2 ^ n) v)

-- an unsigned write of n bits v: 1 and 2 of the writer, then 3, 4 and 8
unfoldable pub write_refusal : ℕ → Writer → ℕ → ℕ → ℕ
write_refusal len w n v =
    first_refusal
    (writer_refusal len w
    ∷ ltb 64 n ⟶ too_wide
    ∷ oversized n v ⟶ too_large
    ∷ room_refusal len w n
    ∷ [])

-- a signed write of n bits: 1 and 2, then 3 and 8; every number is taken, and its low n bits are stored
unfoldable pub signed_refusal : ℕ → Writer → ℕ → ℤ → ℕ
signed_refusal len w n z =
    first_refusal
    (writer_refusal len w
    ∷ ltb 64 n ⟶ too_wide
    ∷ room_refusal len w n
    ∷ [])

-- a write of a single, a kind that is written no more: 1 and 2, then 8 for its 32 bits, else 16
unfoldable pub single_refusal : ℕ → Writer → ℕ
single_refusal len w =
    first_refusal
    (writer_refusal len w
    ∷ room_refusal len w 32
    ∷ retired_kind
    ∷ [])

-- a write of n bytes: 1 also for their slice, 2, then 8 for all of them
unfoldable pub bytes_refusal : ℕ → Writer → ℕ → ℕ
bytes_refusal len w n =
    first_refusal
    (ltb longest n ⟶ too_long
    ∷ writer_refusal len w
    ∷ room_refusal len w (8 * n)
    ∷ [])

-- how many zeros a flush writes
abbrev pub padding : Writer → ℕ
padding w = (8 - w.held) % 8
