-- `put_records` meets its contract: what is still to be put from here is what was to be put at first (`underway_step`). Assumes nothing.
use Rattle.rows.proofs.UnderwayLaws.{Underway}
use Rattle.rows.proofs.inner.put_records.Given as goal

abbrev pub invariant-loop-i : goal.invariant-loop-i
invariant-loop-i l = Underway l.src l.n l.initial.out l.out l.c l.i
