-- `single_of_bits` meets its contract: its test is whether the bits are a NaN's. Assumes nothing.
use lib.Ieee.{binary32}
use Rattle.floats.specs.Floats.{single_of}
use Rattle.floats.proofs.Nans.{above, within, failed}
use Rattle.floats.proofs.single_of_bits.Goals as goal

pub float_from_bits-result : goal.float_from_bits-result
float_from_bits-result c = failed (within binary32 _ c.if-bits-gt2139095040.false)

pub returns-then-bits-gt2139095040 : goal.returns-then-bits-gt2139095040
unfolding single_of
returns-then-bits-gt2139095040 c = rw (above binary32 _ c.if-bits-gt2139095040.true)

pub returns-else-bits-gt2139095040 : goal.returns-else-bits-gt2139095040
unfolding single_of
returns-else-bits-gt2139095040 c = rw (within binary32 _ c.if-bits-gt2139095040.false)
