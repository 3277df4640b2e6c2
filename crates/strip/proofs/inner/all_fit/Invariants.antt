-- `all_fit` meets its contract: whether the records still to come fit decides at each turn whether all do (`next_fits`). Assumes nothing.
use mathlib.Core.Path.{◌≡◌}
use Prim.Native.Nat.{◌-◌, ◌*◌}
use lib.ListN.{drop}
use Rattle.strip.specs.Strip.{records_in, all_fit}
use Rattle.strip.proofs.inner.all_fit.Given as goal

abbrev pub invariant-loop-i : goal.invariant-loop-i
invariant-loop-i l = all_fit (records_in (l.n - l.i) (drop (6 * l.i) l.numbers)) ≡ all_fit (records_in l.n l.numbers)
