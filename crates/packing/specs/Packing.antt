-- What a writer holds, when it belongs to an output, and what putting bits behind those written leaves. An output has len bytes.
use Rattle.std.specs.Prelude.{ℕ, zero, suc, ◌+◌, ◌*◌, ◌/◌, ◌%◌, ◌^◌, ◌<◌, ◌≤◌, List, [], ◌∷◌, Bool, not, ◌&&◌, leb, ltb}
use Rattle.std.proofs.lemmas.List.Edits.{sets}
use Rattle.bits.specs.declared.Order.{Order}
use Rattle.bits.specs.Refusals.{longest, too_long, foreign, ◌⟶◌, first_refusal}
use Rattle.bits.specs.Field.{join, field}
use Rattle.bits.specs.Word.{first, rest}
use Rattle.packing.specs.declared.State.{State}

-- T: the bits written so far, padding counted
abbrev pub bits_written : State → ℕ
bits_written c = 8 * c.written + c.held

-- whether a writer belongs to an output of len bytes
unfoldable pub belongs : ℕ → State → Bool
belongs len c = leb (bits_written c) (8 * len) && (leb c.held 7 && ltb c.number (2 ^ c.held))

-- the same as a statement, of an output within the limit
pub record Belongs (len : ℕ) (c : State) : Type 0 where
  pub short : len ≤ longest
  pub within : bits_written c ≤ 8 * len
  pub few : c.held ≤ 7
  pub small : c.number < 2 ^ c.held

-- 1 for an output past the limit, 2 for a writer that does not belong to it
unfoldable pub state_refusal : ℕ → State → ℕ
state_refusal len c = first_refusal (ltb longest len ⟶ too_long ∷ not (belongs len c) ⟶ foreign ∷ [])

-- the first n bytes of a number of 8 * n + r bits
unfoldable pub bytes_of : Order → ℕ → ℕ → ℕ → List ℕ
bytes_of o zero r v = []
bytes_of o (suc n) r v = first o 8 (8 * n + r) v ∷ bytes_of o n r (rest o 8 (8 * n + r) v)

-- the held bits with n bits v behind them, as one number
abbrev pub gathered : Order → State → ℕ → ℕ → ℕ
gathered o c n v = join o c.held n c.number v

-- how many bytes n bits more make full, and how many bits are over
abbrev pub full : State → ℕ → ℕ
full c n = (c.held + n) / 8

abbrev pub over : State → ℕ → ℕ
over c n = (c.held + n) % 8

-- the writer after n bits v
unfoldable pub put : Order → State → ℕ → ℕ → State
put o c n v =
    record {
      written = c.written + full c n;
      held = over c n;
      number = rest o (8 * full c n) (over c n) (gathered o c n v);
    }

-- the bytes that n bits v make full
abbrev pub filled : Order → State → ℕ → ℕ → List ℕ
filled o c n v = bytes_of o (full c n) (over c n) (gathered o c n v)

-- the output after n bits v: the bytes that are full now stand behind those that were full before, the others are untouched
unfoldable pub put_out : Order → List ℕ → State → ℕ → ℕ → List ℕ
put_out o s c n v = sets s c.written (filled o c n v)

-- the writer after bytes: eight bits each
unfoldable pub put_bytes : Order → State → List ℕ → State
put_bytes o c [] = c
put_bytes o c (b ∷ bs) = put_bytes o (put o c 8 b) bs

-- the output after bytes
unfoldable pub put_bytes_out : Order → List ℕ → State → List ℕ → List ℕ
put_bytes_out o s c [] = s
put_bytes_out o s c (b ∷ bs) = put_bytes_out o (put_out o s c 8 b) (put o c 8 b) bs

-- all that was written, as one number of T bits: the field of the full bytes, and the held bits behind it
unfoldable pub story : Order → List ℕ → State → ℕ
story o s c = join o (8 * c.written) c.held (field o s 0 (8 * c.written)) c.number
