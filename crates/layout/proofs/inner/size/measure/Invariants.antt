-- `measure` meets its contract: what was counted and what is left to count are all, and a plan is short. Assumes nothing.
use Prim.Native.Nat.{◌+◌}
use mathlib.Core.Path.{◌≡◌}
use lib.ListN.{drop}
use Rattle.layout.specs.Steps.{total, ended}
use Rattle.layout.proofs.inner.size.measure.Given as goal

abbrev pub invariant-loop-b : goal.invariant-loop-b
invariant-loop-b l =
    (l.fields + ended (drop l.b-index l.plan) ≡ ended l.plan) × (l.bits + total (drop l.b-index l.plan) ≡ total l.plan)
