-- `typed_of_bits` meets its contract: each case makes its value of the bits as the definition does. Assumes nothing.
use mir.Syntax.{w64}
use mir.ValLaws.{to_z-of_z}
use Rattle.typed.specs.Typed.{typed_of}
use Rattle.typed.proofs.typed_of_bits.Goals as goal

pub returns-in-Unsigned : goal.returns-in-Unsigned
unfolding typed_of
returns-in-Unsigned c = rw c.in-Unsigned.is

pub returns-in-Signed : goal.returns-in-Signed
unfolding typed_of
returns-in-Signed c =
    rw (c.in-Signed.is, to_z-of_z w64 _ (record { sfits = c.signed_of_bits.type_inv }), c.signed_of_bits.ensures)

pub returns-in-Single : goal.returns-in-Single
unfolding typed_of
returns-in-Single c = rw (c.in-Single.is, c.single_of_bits.ensures)

pub returns-in-Double : goal.returns-in-Double
unfolding typed_of
returns-in-Double c = rw (c.in-Double.is, c.double_of_bits.ensures)
