-- `put_shifted` meets its contract: both loops put a stretch of the bytes, by eight and by one, and the two stretches are all bytes
-- (`stretch_join`, `stretch_all`). Assumes nothing.
use Prim.Native.Nat.{◌+◌, ◌*◌, ◌/◌}
use lib.ListN.{length}
use Rattle.packing.proofs.StretchLaws.{Stretch}
use Rattle.packing.proofs.inner.put_shifted.Given as goal

abbrev pub invariant-loop-word : goal.invariant-loop-word
invariant-loop-word l = Stretch l.order l.src 0 (8 * l.word-index) l.fn.out l.fn.c l.out l.next

abbrev pub invariant-loop-b : goal.invariant-loop-b
invariant-loop-b l = Stretch l.order l.src 0 (length l.src / 8 * 8 + l.b-index) l.fn.out l.fn.c l.out l.next
