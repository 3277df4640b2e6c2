-- `double_of_bits` meets its contract: its test is whether the bits are a NaN's. Assumes nothing.
use lib.Ieee.{binary64}
use Rattle.floats.specs.Floats.{double_of}
use Rattle.floats.proofs.Nans.{above, within, failed}
use Rattle.floats.proofs.double_of_bits.Goals as goal

pub float_from_bits-result : goal.float_from_bits-result
float_from_bits-result c = failed (within binary64 _ c.if-bits-gt9218868437227405312.false)

pub returns-then-bits-gt9218868437227405312 : goal.returns-then-bits-gt9218868437227405312
unfolding double_of
returns-then-bits-gt9218868437227405312 c = rw (above binary64 _ c.if-bits-gt9218868437227405312.true)

pub returns-else-bits-gt9218868437227405312 : goal.returns-else-bits-gt9218868437227405312
unfolding double_of
returns-else-bits-gt9218868437227405312 c = rw (within binary64 _ c.if-bits-gt9218868437227405312.false)
