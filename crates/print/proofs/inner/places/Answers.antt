-- `places` meets its contract: the power of ten at or below the number tells how many digits it takes (`places_log`). Assumes nothing.
use Prim.Native.Nat.{max, ◌*◌, ◌^◌, ◌<◌, ◌≤◌}
use native.Mathlib.Omega.{arith}
use Rattle.print.proofs.DigitLaws.{places_log}
use Rattle.print.proofs.inner.places.Goals as goal

pub returns : goal.returns
returns c =
    let k = c.ilog10.result in
    let h = c.ranges.n.fits in
    let l : 10 ^ k ≤ max c.args.n 1 = rw c.max.ensures at c.ilog10.ensures.power_le in
    let m : max c.args.n 1 < 10 * 10 ^ k = rw c.max.ensures at c.ilog10.ensures.next_power_gt in
    (places_log k c.args.n (omega arith) l m, omega arith)
