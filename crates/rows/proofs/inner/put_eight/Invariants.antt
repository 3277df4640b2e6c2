-- `put_eight` meets its contract: each row stands behind those before it (`one_more`). Assumes nothing.
use mathlib.Core.Path.{◌≡◌}
use Prim.Native.Nat.{◌*◌}
use lib.Seq.{sets}
use Rattle.rows.proofs.StripRowsLaws.{rows_from}
use Rattle.rows.proofs.inner.put_eight.Given as goal

abbrev pub invariant-loop-k : goal.invariant-loop-k
invariant-loop-k l = l.out ≡ sets l.initial.out l.at (rows_from l.src (8 * l.byte) l.k)
