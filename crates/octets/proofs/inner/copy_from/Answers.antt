-- `copy_from` meets its contract: each turn puts the next byte behind those that stand already (`Upto`). Assumes nothing.
use mathlib.Core.Path.{refl}
use Prim.Native.Nat.{◌+◌}
use native.Mathlib.Omega.{arith}
use lib.ListN.{get_or}
use Rattle.octets.proofs.FirstsLaws.{upto_none, upto_next, upto_all}
use Rattle.octets.proofs.inner.copy_from.Goals as goal

pub loop-i-init : goal.loop-i-init
loop-i-init c = upto_none (λ j. get_or c.args.src.now (c.args.at + j) 0) c.args.out.now

pub loop-i-preserved : goal.loop-i-preserved
loop-i-preserved c =
    let l = c.loop-i in
    let a = c.args in
    upto_next l.invariant (get_or a.src.now (a.at + l.i) 0) (omega arith) refl

pub returns : goal.returns
returns c = upto_all c.loop-i.invariant (omega arith)
