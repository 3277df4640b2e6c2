-- `bits_of_single` meets its contract: every NaN that was computed has the one pattern (`nan_pattern`). Assumes nothing.
use mathlib.Core.Path.{sym, ap, ◌∙◌}
use lib.Ieee.{to_bits, binary32}
use Rattle.floats.specs.Floats.{single_bits}
use Rattle.floats.proofs.Nans.{nan_pattern}
use Rattle.floats.proofs.bits_of_single.Goals as goal

pub returns-in-Number : goal.returns-in-Number
unfolding to_bits single_bits
returns-in-Number c = sym (ap single_bits c.in-Number.is ∙ nan_pattern binary32 _ (sym c.is_nan.ensures.value ∙ c.if-is_nan.true))

pub returns-in-Number-2 : goal.returns-in-Number-2
unfolding single_bits
returns-in-Number-2 c = sym (ap single_bits c.in-Number-2.is)

pub returns-in-Bits : goal.returns-in-Bits
unfolding single_bits
returns-in-Bits c = sym (ap single_bits c.in-Bits.is)
