-- `put_take` meets its contract: a refill goes first exactly if less is known than the take wants. Assumes nothing.
use Prim.Native.Nat.{◌<◌, ◌≤◌}
use mathlib.Core.Path.{refl, ◌∙◌}
use native.Mathlib.Numerals.{add-one}
use native.Mathlib.Omega.{arith}
use Rattle.layout.specs.Plan.{count}
use Rattle.layout.proofs.SeamLaws.{refilled_short, after_short, refilled-enough, after-enough}
use Rattle.layout.proofs.inner.compiler.put_take.Goals as goal

pub returns-then-g-n : goal.returns-then-g-n
returns-then-g-n c =
    let k = c in
    let a = k.args in
    let short : a.p.known < count a.t = omega (arith, k.if-g-n.true, k.count-n.ensures) in
    rw (refilled_short a.p.known a.t short, after_short a.p.known a.t short, ← k.count-n.ensures)
    (record {
      answer = refl;
      memory = c.put_byte-then-g-n.ensures ∙ rw (c.put_byte.ensures, add-one);
    })

pub returns : goal.returns
returns c =
    let k = c in
    let a = k.args in
    let enough : count a.t ≤ a.p.known = omega (arith, k.if-g-n.false, k.count-n.ensures) in
    rw (refilled-enough a.p.known a.t enough, after-enough a.p.known a.t enough, ← k.count-n.ensures)
    (record {
      answer = refl;
      memory = c.put_byte-2.ensures;
    })
