-- `same_single` meets its contract: `==` compares the two values' bits. Assumes nothing.
use Rattle.floats.specs.Floats.{same_single}
use Rattle.floats.proofs.same_single.Goals as goal

pub returns : goal.returns
unfolding same_single
returns c = c.eq.ensures
