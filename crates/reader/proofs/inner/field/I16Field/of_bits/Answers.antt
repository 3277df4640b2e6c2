-- `of_bits` meets its contract: 16 bits are extended at 64, and the number fits 16 as a signed one. Assumes nothing.
use mir.Syntax.{w16}
use Rattle.sign.proofs.SignedLaws.{narrowed}
use Rattle.reader.proofs.inner.field.I16Field.of_bits.Goals as goal

pub overflow_cast-result : goal.overflow_cast-result
overflow_cast-result c = (narrowed w16 c.args.bits c.requires (record { sfits = c.extend.type_inv }) c.extend.ensures).0

pub returns : goal.returns
returns c = (narrowed w16 c.args.bits c.requires (record { sfits = c.extend.type_inv }) c.extend.ensures).1
