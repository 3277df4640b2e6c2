-- `first_bad` meets its contract: the first bad row among those still to come is the first of all (`next_bad`). Assumes nothing.
use mathlib.Core.Path.{◌≡◌}
use Prim.Native.Nat.{◌+◌, ◌-◌, ◌*◌}
use Rattle.rows.specs.Row.{row_length}
use Rattle.rows.specs.Rows.{bad_from}
use Rattle.rows.proofs.inner.first_bad.Given as goal

abbrev pub invariant-loop-i : goal.invariant-loop-i
invariant-loop-i l = bad_from l.src (8 * (row_length * l.i)) (l.i + 1) (l.n - l.i) ≡ bad_from l.src 0 1 l.n
