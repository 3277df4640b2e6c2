-- `decode` meets its contract: at each step, what the others will write gives what all of them write. Assumes nothing.
use lib.ListN.{drop}
use Rattle.plan.proofs.Decoding.{Left}
use Rattle.plan.proofs.inner.decode.Given as goal

abbrev pub invariant-loop-b : goal.invariant-loop-b
invariant-loop-b l = Left l.plan l.initial.layout (drop l.b-index l.plan) l.open l.at l.layout
