-- `put_records` meets its contract: the records of the lines still to come, put from here, give what all give from the start
-- (`underway_step`). Assumes nothing.
use Prim.Native.Nat.{◌-◌}
use lib.ListN.{length}
use Rattle.text.proofs.PackLaws.{Underway}
use Rattle.text.proofs.inner.put_records.Given as goal

abbrev pub invariant-loop-at : goal.invariant-loop-at
invariant-loop-at l = Underway l.text l.initial.out l.out l.c l.at

abbrev pub decreases-loop-at : goal.decreases-loop-at
decreases-loop-at l = length l.text - l.at
