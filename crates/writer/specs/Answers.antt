-- What each method of a writer answers, and what the output holds afterwards, on every input.
use Rattle.std.specs.Prelude.{ℕ, Result, Ok, Err, ◌%◌, ◌^◌, List, length, ltb, ℤ}
use Rattle.bits.specs.declared.Order.{Order}
use Rattle.bits.specs.Refusals.{longest, done, too_long, ◌⟶◌, if_done, number, Told, told_by}
use Rattle.bits.specs.declared.Refusal.{Refusal}
use Rattle.bits.specs.Signed.{pattern}
use Rattle.packing.specs.declared.State.{State}
use Rattle.packing.specs.Packing.{put, put_out, put_bytes, put_bytes_out}
use Rattle.writer.specs.declared.Writer.{Writer}
use Rattle.writer.specs.Writer.{state_in, writer_with, writer_refusal, write_refusal, signed_refusal, single_refusal, bytes_refusal, padding}

-- what is told of a write: the number of its refusal or done, and the writer that goes on
pub record Wrote : Type 0 where
  pub refusal : ℕ
  pub writer : Writer

-- the outcome of a write by the writer w: where it is refused, w is the one that goes on
abbrev pub wrote_told : Writer → Result Writer Refusal → Wrote
wrote_told w (Ok x) = record { refusal = done; writer = x }
wrote_told w (Err e) = record { refusal = number e; writer = w }

-- a fresh writer is all zeros
abbrev pub fresh : Writer
fresh = record { written = 0; held = 0; number = 0 }

-- the refusal e and the writer that came, or done and the writer with state c
abbrev pub wrote : ℕ → Writer → State → Wrote
wrote e w c = record { refusal = e; writer = if_done e (writer_with c) w }

-- a fresh writer, also where the output is past the limit
unfoldable pub new_of : ℕ → Wrote
new_of len = record { refusal = ltb longest len ⟶ too_long; writer = fresh }

-- n bits v, of which width 0 takes any and stores none
unfoldable pub write_of : Order → ℕ → Writer → ℕ → ℕ → Wrote
write_of o len w n v = wrote (write_refusal len w n v) w (put o (state_in w) n (v % 2 ^ n))

unfoldable pub write_out : Order → List ℕ → Writer → ℕ → ℕ → List ℕ
write_out o s w n v = if_done (write_refusal (length s) w n v) (put_out o s (state_in w) n (v % 2 ^ n)) s

-- the low n bits of a signed number
unfoldable pub signed_of : Order → ℕ → Writer → ℕ → ℤ → Wrote
signed_of o len w n z = wrote (signed_refusal len w n z) w (put o (state_in w) n (pattern n z))

unfoldable pub signed_out : Order → List ℕ → Writer → ℕ → ℤ → List ℕ
signed_out o s w n z = if_done (signed_refusal (length s) w n z) (put_out o s (state_in w) n (pattern n z)) s

-- a single, which is always refused: the writer as it came, and so the output
unfoldable pub retired_of : ℕ → Writer → Wrote
retired_of len w = record { refusal = single_refusal len w; writer = w }

-- the bits held
unfoldable pub unaligned_of : ℕ → Writer → Told ℕ
unaligned_of len w = told_by (writer_refusal len w) (if_done (writer_refusal len w) w.held 0)

-- bytes, eight bits each
unfoldable pub bytes_of : Order → ℕ → Writer → List ℕ → Wrote
bytes_of o len w bs = wrote (bytes_refusal len w (length bs)) w (put_bytes o (state_in w) bs)

unfoldable pub bytes_out : Order → List ℕ → Writer → List ℕ → List ℕ
bytes_out o s w bs = if_done (bytes_refusal (length s) w (length bs)) (put_bytes_out o s (state_in w) bs) s

-- zeros up to a byte
unfoldable pub flush_of : Order → ℕ → Writer → Wrote
flush_of o len w = wrote (writer_refusal len w) w (put o (state_in w) (padding w) 0)

unfoldable pub flush_out : Order → List ℕ → Writer → List ℕ
flush_out o s w = if_done (writer_refusal (length s) w) (put_out o s (state_in w) (padding w) 0) s
