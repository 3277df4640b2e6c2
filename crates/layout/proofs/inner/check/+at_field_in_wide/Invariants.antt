-- The loop keeps the plan check from its first step on.
use Prim.Native.Nat.{◌-◌, ◌≤◌}
use mathlib.Core.Path.{◌≡◌}
use lib.ListN.{length, drop}
use Rattle.layout.specs.Check.{at_field}
use Rattle.layout.proofs.inner.check.+at_field_in_wide.Given as goal

abbrev pub decreases-at_field : goal.decreases-at_field
decreases-at_field l = length l.p.now - l.start

abbrev pub decreases-in_wide : goal.decreases-in_wide
decreases-in_wide l = length l.p.now - l.i

abbrev pub invariant-at_field-loop-i : goal.invariant-at_field-loop-i
invariant-at_field-loop-i l =
    (l.start ≤ l.i) × (l.i ≤ length l.p) × (l.g ≤ 56) × (at_field 0 l.g l.n (drop l.i l.p) ≡ at_field 0 l.known l.more (drop l.start l.p))

abbrev pub decreases-at_field-loop-i : goal.decreases-at_field-loop-i
decreases-at_field-loop-i l = length l.p - l.i
