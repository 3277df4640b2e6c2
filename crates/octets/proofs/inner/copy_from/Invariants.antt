-- `copy_from` meets its contract: each turn puts the next byte behind those that stand already (`Upto`). Assumes nothing.
use Prim.Native.Nat.{◌+◌}
use lib.ListN.{length, get_or}
use Rattle.octets.proofs.FirstsLaws.{Upto}
use Rattle.octets.proofs.inner.copy_from.Given as goal

abbrev pub invariant-loop-i : goal.invariant-loop-i
invariant-loop-i l = Upto (λ j. get_or l.src (l.at + j) 0) (length l.initial.out) l.out l.i
