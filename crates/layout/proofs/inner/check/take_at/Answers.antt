-- `take_at` meets its contract: the step is a take, or a refill with a take behind it, or with none (TakeLaws). Assumes nothing.
use Rattle.layout.proofs.TakeLaws.{taken_plain, taken_late, taken_none}
use Rattle.layout.proofs.inner.check.take_at.Goals as goal

pub returns-then-b-ne0 : goal.returns-then-b-ne0
returns-then-b-ne0 c = rw c.taken.ensures (taken_plain c.args.p.now c.args.i c.args.g c.requires.0 c.requires.1 c.if-b-ne0.true)

pub returns-then-i-p : goal.returns-then-i-p
returns-then-i-p c =
    rw c.taken-then-i-p.ensures (taken_late c.args.p.now c.args.i c.args.g c.requires.0 c.requires.1 c.if-b-ne0.false c.if-i-p.true)

pub returns : goal.returns
returns c = taken_none c.args.p.now c.args.i c.args.g c.requires.0 c.requires.1 c.if-b-ne0.false c.if-i-p.false
