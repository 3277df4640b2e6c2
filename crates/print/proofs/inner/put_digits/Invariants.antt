-- `put_digits` meets its contract: putting what is left of the number in front of a place gives, from the output so far, what all k digits
-- give from the first one. Assumes nothing.
use mathlib.Core.Path.{◌≡◌}
use Prim.Native.Nat.{◌-◌, ◌≤◌}
use lib.Seq.{sets}
use Rattle.print.specs.Print.{digits_of}
use Rattle.print.proofs.inner.put_digits.Given as goal

abbrev pub invariant-loop-i : goal.invariant-loop-i
invariant-loop-i l = record {
  behind : l.at ≤ l.i;
  same : sets l.out l.at (digits_of (l.i - l.at) l.rest) ≡ sets l.initial.out l.at (digits_of l.k l.n);
}
