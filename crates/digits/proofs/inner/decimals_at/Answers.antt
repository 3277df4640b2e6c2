-- `decimals_at` meets its contract: it closes the run at the place by the test of how many digits it has, which are as many as places.
-- Assumes nothing.
use Prim.Native.Nat.{◌-◌}
use mathlib.Core.Path.{◌≡◌}
use mathlib.Core.Bool.{◌&&◌}
use lib.Dec.{leb}
use borrow.Author.Tests.{le-leb, lt-leb}
use Rattle.digits.specs.Reading.{decimals_at}
use Rattle.digits.proofs.PlaceLaws.{next_low, count_is}
use Rattle.digits.proofs.inner.decimals_at.Goals as goal
use Rattle.digits.proofs.inner.decimals_at.Goals.{then-low-count, else-low-count}

pub overflow_sub-count : goal.overflow_sub-count
overflow_sub-count c = next_low c.args.src.now c.args.at c.run_at-run.result c.requires c.run_at-run.ensures

pub returns : goal.returns
unfolding decimals_at
returns c =
    let a = c.args in
    let r = c.run_at-run in
    let n = r.result.next - a.at in
    let test : c.if-low-count.close ≡ (leb a.low n && leb n a.high) =
    elim c.if-low-count.branch [
      | then-low-count w ↦ rw (w.close-is, le-leb a.low n w.if-low-count.true)
      | else-low-count w ↦ rw (w.close-is, lt-leb a.low n w.if-low-count.false)
    ] in
    rw (count_is a.src.now a.at r.result c.requires r.ensures) (rw test at c.close.ensures)
