-- `put_strip` meets its contract: what is still to be put from here is what was to be put at first (`underway_step`). Assumes nothing.
use Rattle.strip.proofs.UnderwayLaws.{Underway}
use Rattle.strip.proofs.inner.put_strip.Given as goal

abbrev pub invariant-loop-i : goal.invariant-loop-i
invariant-loop-i l = Underway l.numbers l.n l.initial.out l.out l.c l.i
