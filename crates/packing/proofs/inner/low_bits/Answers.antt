-- `low_bits` meets its contract: 64 bits are all, and fewer are what the mask leaves. Assumes nothing.
use mathlib.Core.Path.{sym, subst}
use Prim.Native.Nat.{ℕ, ◌≤◌}
use native.Mathlib.Nat.{mod-eq_of_lt}
use native.Mathlib.Omega.{arith}
use lib.Pow.{pow_pos}
use Rattle.bits.proofs.WordLaws.{one_shl, mask_is}
use Rattle.packing.proofs.inner.low_bits.Goals as goal

pub returns-then-n-eq64 : goal.returns-then-n-eq64
returns-then-n-eq64 c = rw c.if-n-eq64.true (sym (mod-eq_of_lt c.ranges.v.fits))

pub overflow_sub-result : goal.overflow_sub-result
overflow_sub-result c =
    let n = c.args.n in
    let l : n ≤ 63 = omega arith in
    subst (λ (k : ℕ). 1 ≤ k) (sym (one_shl n l)) (pow_pos n)

pub returns : goal.returns
returns c = let l : c.args.n ≤ 63 = omega arith in mask_is c.args.v c.args.n l
