-- `bits_left` meets its contract: the place of a cursor that belongs is not past its end. Assumes nothing.
use mathlib.Core.Path.{ap, subst, sym}
use Prim.Native.Nat.{ℕ, ◌-◌, ◌≤◌}
use Rattle.reader.specs.Cursor.{bits_left}
use Rattle.reader.proofs.inner.bits_left.Goals as goal

pub place_of-requires : goal.place_of-requires
place_of-requires c = c.requires

pub overflow_sub-result : goal.overflow_sub-result
overflow_sub-result c = subst (λ (p : ℕ). p ≤ c.args.c.end) (sym c.place_of.ensures) c.requires.reached

pub returns : goal.returns
unfolding bits_left
returns c = ap (λ (p : ℕ). c.args.c.end - p) c.place_of.ensures
