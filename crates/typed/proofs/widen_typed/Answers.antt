-- `widen_typed` meets its contract: the value's case decides. Assumes nothing.
use mathlib.Core.Path.{ap}
use mir.Syntax.{w64}
use mir.ValLaws.{to_z-of_z}
use Rattle.typed.specs.declared.Typed.TheVariants as T
use Rattle.typed.specs.Typed.{widened_typed}
use Rattle.std.proofs.Common.{rules}
use Rattle.typed.proofs.widen_typed.Goals as goal

pub returns-in-Unsigned : goal.returns-in-Unsigned
unfolding widened_typed
returns-in-Unsigned c = rw c.in-Unsigned.is

pub returns-in-Signed : goal.returns-in-Signed
unfolding widened_typed
returns-in-Signed c =
    rw c.in-Signed.is (ap T.Signed (to_z-of_z w64 _ (record { sfits = search rules })))

pub returns-in-Single : goal.returns-in-Single
unfolding widened_typed
returns-in-Single c = rw (c.in-Single.is, c.double_of_single.ensures)

pub returns-in-Double : goal.returns-in-Double
unfolding widened_typed
returns-in-Double c = rw c.in-Double.is
