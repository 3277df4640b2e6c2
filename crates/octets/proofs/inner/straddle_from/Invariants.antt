-- `straddle_from` meets its contract: each turn puts the next straddle behind those that stand already (`Upto`). Assumes nothing.
use Prim.Native.Nat.{ℕ, ◌+◌}
use mathlib.Core.List.{List}
use lib.ListN.{length, get_or}
use Rattle.octets.specs.Octets.{straddled}
use Rattle.octets.proofs.FirstsLaws.{Upto}
use Rattle.octets.proofs.inner.straddle_from.Given as goal

-- byte i of what is filled in
abbrev pub byte : List ℕ → ℕ → ℕ → ℕ → ℕ → ℕ
byte src high low k i = straddled (get_or src (high + i) 0) (get_or src (low + i) 0) k

abbrev pub invariant-loop-i : goal.invariant-loop-i
invariant-loop-i l = Upto (byte l.src l.high l.low l.k) (length l.initial.out) l.out l.i
