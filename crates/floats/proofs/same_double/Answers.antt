-- `same_double` meets its contract: `==` compares the two values' bits. Assumes nothing.
use Rattle.floats.specs.Floats.{same_double}
use Rattle.floats.proofs.same_double.Goals as goal

pub returns : goal.returns
unfolding same_double
returns c = c.eq.ensures
