-- `read_narrow` meets its contract: at each field, what the check of the others will give is what it gives of all, and what they will be
-- gives what all of them are. Assumes nothing.
use Prim.Native.Nat.{◌+◌, ◌-◌, ◌*◌, ◌≤◌}
use mathlib.Core.Path.{◌≡◌}
use lib.ListN.{length, drop}
use Rattle.layout.specs.Plan.{decode}
use Rattle.layout.specs.Check.{at_field, is_plan}
use Rattle.plan.specs.Run.{fields_of}
use Rattle.plan.proofs.Reading.{Left}
use Rattle.plan.proofs.inner.read_narrow.Given as goal

abbrev pub invariant-loop-i : goal.invariant-loop-i
invariant-loop-i l =
    (l.i ≤ length l.plan) × (l.j ≤ 64) × (l.g ≤ 56) × (l.at ≤ l.place + 64 * l.i) × (at_field 0 l.g (64 - l.j) (drop l.i l.plan) ≡ is_plan l.plan)
    × Left l.order l.src l.place (fields_of l.plan) l.initial.values (decode 0 (drop l.i l.plan)) l.at l.j l.values

abbrev pub decreases-loop-i : goal.decreases-loop-i
decreases-loop-i l = length l.plan - l.i
