-- `after_eights` meets its contract: the loop keeps that the reads still to be done give what all of them gave at first. Assumes nothing.
use mathlib.Core.Path.{◌≡◌}
use Prim.Native.Nat.{◌-◌, ◌*◌, ◌≤◌}
use Rattle.counts.specs.Counts.{Within, bits_left, after_eights}
use Rattle.counts.proofs.inner.after_eights.Given as goal

abbrev pub invariant-loop : goal.invariant-loop
invariant-loop l =
    Within l.len l.x × (8 * (l.n - l.counter) ≤ bits_left l.len l.x)
    × (after_eights l.len (l.n - l.counter) l.x ≡ after_eights l.len l.n l.initial.x)
