-- `tail` meets its contract: two shifts are one, and a mask is a remainder. Assumes nothing.
use mathlib.Core.Path.{◌≡◌, sym, subst, ap, ◌∙◌}
use Prim.Native.Nat.{ℕ, ◌+◌, ◌-◌, ◌/◌, ◌^◌, ◌≤◌}
use native.Mathlib.Omega.{arith}
use lib.Pow.{pow_pos, shr-shr}
use Rattle.bits.specs.Word.{rest}
use Rattle.bits.proofs.WordLaws.{one_shl, mask_is}
use Rattle.packing.proofs.inner.tail.Goals as goal

pub overflow_sub-result-in-Big : goal.overflow_sub-result-in-Big
overflow_sub-result-in-Big c =
    let s = c in
    subst (λ (k : ℕ). 1 ≤ k) (sym (one_shl s.args.b s.requires.2)) (pow_pos s.args.b)

pub returns-in-Little : goal.returns-in-Little
unfolding rest
returns-in-Little c =
    let a = c.args in
    let e : a.a - 1 + 1 ≡ a.a = omega arith in
    rw c.in-Little.is (shr-shr a.v (a.a - 1) 1 ∙ ap (λ (k : ℕ). a.v / 2 ^ k) e)

pub returns-in-Big : goal.returns-in-Big
unfolding rest
returns-in-Big c =
    let s = c in
    rw c.in-Big.is (mask_is s.args.v s.args.b s.requires.2)
