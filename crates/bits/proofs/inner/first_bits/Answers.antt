-- `first_bits` meets its contract: a mask is a remainder, and two shifts are one. Assumes nothing.
use mathlib.Core.Path.{◌≡◌, sym, subst, ap, ◌∙◌}
use Prim.Native.Nat.{ℕ, ◌≤◌, ◌+◌, ◌-◌, ◌/◌, ◌^◌}
use native.Mathlib.Omega.{arith}
use lib.Pow.{pow_pos, shr-shr}
use Rattle.bits.specs.Word.{first}
use Rattle.bits.proofs.WordLaws.{one_shl, mask_is}
use Rattle.bits.proofs.inner.first_bits.Goals as goal

pub overflow_sub-result : goal.overflow_sub-result
overflow_sub-result c = subst (λ (k : ℕ). 1 ≤ k) (sym (one_shl c.args.n c.requires)) (pow_pos c.args.n)

pub returns-in-Little : goal.returns-in-Little
unfolding first
returns-in-Little c = rw c.in-Little.is (mask_is c.args.v c.args.n c.requires)

pub returns-in-Big : goal.returns-in-Big
unfolding first
returns-in-Big c =
    let a = c.args in
    let e : 1 + (63 - a.n) ≡ 64 - a.n = omega arith in
    rw c.in-Big.is (shr-shr a.v 1 (63 - a.n) ∙ ap (λ (k : ℕ). a.v / 2 ^ k) e)
