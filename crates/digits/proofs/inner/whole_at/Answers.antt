-- `whole_at` meets its contract: it closes the run at the place by the test of a whole part. Assumes nothing.
use Rattle.digits.specs.Reading.{whole_at}
use Rattle.digits.proofs.inner.whole_at.Goals as goal

pub returns : goal.returns
unfolding whole_at
returns c = rw c.is_whole-ok.ensures at c.close.ensures
