-- `skip_bits` meets its contract, which is the shift of each order. Assumes nothing.
use Rattle.bits.specs.Word.{skipped}
use Rattle.bits.proofs.inner.skip_bits.Goals as goal

pub returns-in-Little : goal.returns-in-Little
unfolding skipped
returns-in-Little c = rw c.in-Little.is

pub returns-in-Big : goal.returns-in-Big
unfolding skipped
returns-in-Big c = rw c.in-Big.is
