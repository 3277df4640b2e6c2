-- `bits_of_typed` meets its contract: the value's case decides, and each case's bits are its callee's. Assumes nothing.
use mathlib.Core.Path.{ap, ◌∙◌}
use mir.Syntax.{w64}
use mir.ValLaws.{to_z-of_z}
use Rattle.bits.specs.Signed.{pattern}
use Rattle.typed.specs.Typed.{bits_of}
use Rattle.std.proofs.Common.{rules}
use Rattle.typed.proofs.bits_of_typed.Goals as goal

pub returns-in-Unsigned : goal.returns-in-Unsigned
unfolding bits_of
returns-in-Unsigned c = rw c.in-Unsigned.is

pub returns-in-Signed : goal.returns-in-Signed
unfolding bits_of
returns-in-Signed c =
    rw c.in-Signed.is
    (c.bits_of_signed.ensures ∙ ap (pattern 64) (to_z-of_z w64 _ (record { sfits = search rules })))

pub returns-in-Single : goal.returns-in-Single
unfolding bits_of
returns-in-Single c = rw c.in-Single.is c.bits_of_single.ensures

pub returns-in-Double : goal.returns-in-Double
unfolding bits_of
returns-in-Double c = rw c.in-Double.is c.bits_of_double.ensures
