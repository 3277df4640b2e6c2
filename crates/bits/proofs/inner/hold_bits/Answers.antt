-- `hold_bits` meets its contract: the double shift loses nothing, since n bits reach at most to the top. Assumes nothing.
use native.Mathlib.Nat.{zero-mul, zero-add, add-zero}
use Rattle.bits.specs.Field.{join}
use Rattle.bits.specs.Word.{held}
use Rattle.bits.proofs.WordLaws.{to_the_top}
use Rattle.bits.proofs.inner.hold_bits.Goals as goal

pub returns-in-Little : goal.returns-in-Little
unfolding held join
returns-in-Little c = rw (c.in-Little.is, zero-mul, zero-add)

pub returns-in-Big : goal.returns-in-Big
unfolding held join
returns-in-Big c = rw (c.in-Big.is, add-zero) (to_the_top c.args.n c.requires.0 c.requires.1)
