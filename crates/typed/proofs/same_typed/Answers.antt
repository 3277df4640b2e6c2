-- `same_typed` meets its contract: `==` compares the kinds, and then the bits. Assumes nothing.
use Rattle.typed.specs.Typed.{same_typed}
use Rattle.typed.proofs.same_typed.Goals as goal

pub returns : goal.returns
unfolding same_typed
returns c = c.eq.ensures
