-- `done_with` meets its contract: the cursor is the one with the state. Assumes nothing.
use Rattle.reader.proofs.inner.done_with.Goals as goal

pub returns : goal.returns
returns c = λ i. record { value = c.args.taken.value; cursor = c.with_state.ensures i }
