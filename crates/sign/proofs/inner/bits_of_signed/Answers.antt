-- `bits_of_signed` meets its contract: the cast writes bits as `pattern` does (`pattern_of_z`). Assumes nothing.
use Rattle.std.proofs.Common.{◌∙◌, sym, w64}
use mir.ValLaws.{to_z-of_z}
use Rattle.sign.proofs.SignedLaws.{pattern_of_z}
use Rattle.sign.proofs.inner.bits_of_signed.Goals as goal

pub returns : goal.returns
returns c = rw (to_z-of_z w64 c.args.z c.ranges.z) at c.cast_unsigned.ensures ∙ sym (pattern_of_z w64 c.args.z c.ranges.z)
