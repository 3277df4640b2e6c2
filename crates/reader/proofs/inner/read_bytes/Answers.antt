-- `read_bytes` meets its contract: the bytes go by place, the counts after them are within the slice, and the cursor is made of them.
-- Assumes nothing.
use Prim.Native.Nat.{ℕ, ◌≤◌}
use mathlib.Core.List.{List}
use mathlib.Core.Path.{◌≡◌, sym, ap, ◌∙◌, subst}
use native.Mathlib.Nat.{le_trans}
use native.Mathlib.Omega.{arith}
use lib.ListN.{length}
use Rattle.bits.specs.Refusals.{longest}
use Rattle.counts.specs.declared.Counts.{Counts}
use Rattle.counts.specs.Counts.{Within, after_bytes}
use Rattle.counts.specs.Counts as C
use Rattle.counts.proofs.BytesLaws.{bytes_within}
use Rattle.octets.specs.Octets.{octets}
use Rattle.lookahead.specs.State.{state_of}
use Rattle.reader.specs.declared.Cursor.{Cursor}
use Rattle.reader.specs.Cursor.{with_state, counts_in, cursor_at}
use Rattle.reader.proofs.CursorLaws.{left_inside, bytes_bits, bytes_le}
use Rattle.reader.proofs.inner.read_bytes.Goals as goal

pub bytes_at-requires : goal.bytes_at-requires
bytes_at-requires c =
    let (h, n) = c.requires in
    rw c.place_of.ensures (omega (arith, left_inside h, bytes_bits h n))

pub after_bytes-next-requires : goal.after_bytes-next-requires
after_bytes-next-requires c =
    let a = c.args in
    let (h, n) = c.requires in
    subst (λ (k : Counts). Within (length a.src.now) k × (length a.buf.now ≤ C.bytes_left (length a.src.now) k) × (length a.src.now ≤ longest))
    (sym c.counts_in.ensures) (h.within, le_trans n (bytes_le h), h.short)

-- the counts after the bytes
next_is : (s out : List ℕ) (c : Cursor) {k next : Counts} → next ≡ after_bytes (length s) (length out) k → k ≡ counts_in c
    → next ≡ after_bytes (length s) (length out) (counts_in c)
next_is s out c e f = e ∙ ap (after_bytes (length s) (length out)) f

pub state_at-requires : goal.state_at-requires
state_at-requires c =
    let a = c.args in
    let (h, n) = c.requires in
    subst (Within (length a.src.now)) (sym (next_is a.src.now a.buf.now a.c c.after_bytes-next.ensures c.counts_in.ensures))
    (bytes_within h.within _ (le_trans n (bytes_le h)))

pub returns : goal.returns
unfolding cursor_at
returns c =
    let a = c.args in
    let t = c.state_at.ensures ∙ ap (state_of a.order a.src.now) (next_is a.src.now a.buf.now a.c c.after_bytes-next.ensures c.counts_in.ensures) in record {
      answer = c.with_state.ensures ∙ ap (with_state a.c) t;
      memory = c.bytes_at.ensures ∙ ap (λ (p : ℕ). octets a.order a.src.now p (length a.buf.now)) c.place_of.ensures;
    }
