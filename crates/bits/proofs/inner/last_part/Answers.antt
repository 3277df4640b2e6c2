-- `last_part` meets its contract: a mask is a remainder. Assumes nothing.
use mathlib.Core.Path.{sym, subst}
use Prim.Native.Nat.{ℕ, ◌≤◌}
use lib.Pow.{pow_pos}
use Rattle.bits.specs.Word.{rest}
use Rattle.bits.proofs.WordLaws.{one_shl, mask_is}
use Rattle.bits.proofs.inner.last_part.Goals as goal

pub overflow_sub-result : goal.overflow_sub-result
overflow_sub-result c = subst (λ (k : ℕ). 1 ≤ k) (sym (one_shl c.args.b c.requires.1)) (pow_pos c.args.b)

pub returns-in-Little : goal.returns-in-Little
unfolding rest
returns-in-Little c = rw c.in-Little.is

pub returns-in-Big : goal.returns-in-Big
unfolding rest
returns-in-Big c = rw c.in-Big.is (mask_is c.args.v c.args.b c.requires.1)
