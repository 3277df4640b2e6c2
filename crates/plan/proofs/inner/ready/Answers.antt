-- `ready` meets its contract: the take is the step itself, or the one behind a refill that is wanted (TakeLaws). Assumes nothing.
use Rattle.layout.proofs.TakeLaws.{ready_plain, ready_late}
use Rattle.plan.proofs.inner.ready.Goals as goal

pub returns-then-plan-i-ne0 : goal.returns-then-plan-i-ne0
returns-then-plan-i-ne0 c = ready_plain c.args.plan.now c.args.i c.args.g c.requires.0 c.requires.2 c.if-plan-i-ne0.true

pub returns-then-wanted : goal.returns-then-wanted
returns-then-wanted c =
    let (more, low) = c.wanted.ensures c.if-wanted.true in
    ready_late c.args.plan.now c.args.i c.args.g c.requires.0 c.if-plan-i-ne0.false more low
