-- `over` is safe: the place stays inside the slice, and a whole layout lies behind it whenever it is read. Assumes nothing.
use Prim.Native.Nat.{◌-◌, ◌*◌, ◌≤◌}
use mathlib.Core.Path.{◌≡◌}
use lib.ListN.{length}
use Rattle.bench.proofs.plans.over.Given as goal

abbrev pub invariant-loop-place : goal.invariant-loop-place
invariant-loop-place g l = (l.place ≤ 8 * length l.src) × (length l.results ≡ length l.initial.results) × (1 ≤ l.bits)

abbrev pub decreases-loop-place : goal.decreases-loop-place
decreases-loop-place g l = 8 * length l.src - l.place
