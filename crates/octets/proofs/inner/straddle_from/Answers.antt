-- `straddle_from` meets its contract: each turn puts the next straddle behind those that stand already (`Upto`). Assumes nothing.
use native.Mathlib.Omega.{arith}
use Rattle.octets.proofs.FirstsLaws.{upto_none, upto_next, upto_all}
use Rattle.octets.proofs.inner.straddle_from.Invariants.{byte}
use Rattle.octets.proofs.inner.straddle_from.Goals as goal

pub loop-i-init : goal.loop-i-init
loop-i-init c = let a = c.args in upto_none (byte a.src.now a.high a.low a.k) a.out.now

pub loop-i-preserved : goal.loop-i-preserved
loop-i-preserved c =
    upto_next c.loop-i.invariant c.straddle.result (omega arith) c.straddle.ensures

pub returns : goal.returns
returns c = upto_all c.loop-i.invariant (omega arith)
