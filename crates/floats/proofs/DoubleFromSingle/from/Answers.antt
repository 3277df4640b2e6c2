-- `Double::from` meets its contract: its test is whether the single's bits are a NaN's, and what other bits mean a double holds as
-- it is. Assumes nothing.
use lib.Ieee.{binary32}
use Rattle.floats.specs.Widening.{widened}
use Rattle.floats.proofs.Nans.{above, within, failed}
use Rattle.floats.proofs.DoubleFromSingle.from.Goals as goal

pub returns-then-pattern-gt2139095040 : goal.returns-then-pattern-gt2139095040
unfolding widened
returns-then-pattern-gt2139095040 c = rw (← c.bits_of_single-pattern.ensures, above binary32 _ c.if-pattern-gt2139095040.true)

pub float_from_bits-number : goal.float_from_bits-number
float_from_bits-number c = failed (within binary32 _ c.if-pattern-gt2139095040.false)

pub returns : goal.returns
unfolding widened
returns c = rw (← c.bits_of_single-pattern.ensures, within binary32 _ c.if-pattern-gt2139095040.false)
