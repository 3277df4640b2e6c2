-- `run_at` meets its contract: what is left of the run behind the value so far gives the whole run (`Left`), also after one digit more.
-- Assumes nothing.
use Rattle.digits.proofs.PlaceLaws.{Left}
use Rattle.digits.proofs.inner.run_at.Given as goal

abbrev pub invariant-loop-i : goal.invariant-loop-i
invariant-loop-i l = Left l.src l.at l.value l.i
