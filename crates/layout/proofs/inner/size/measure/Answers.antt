-- `measure` meets its contract: what was counted and what is left to count are all, and a plan is short. Assumes nothing.
use mathlib.Core.Path.{◌≡◌, ◌∙◌}
use native.Mathlib.Nat.{zero-add}
use native.Mathlib.Omega.{arith}
use Rattle.layout.specs.Steps.{total, ended}
use Rattle.layout.proofs.SizeLaws.{total_at, ended_at, total_end, ended_end, total-le, ended-le, plan_ended, plan_total}
use Rattle.layout.proofs.Theorems.{plan_length}
use Rattle.layout.proofs.inner.size.measure.Goals as goal

pub loop-b-init : goal.loop-b-init
loop-b-init c = (zero-add _, zero-add _)

pub overflow_add-fields : goal.overflow_add-fields
overflow_add-fields c =
    let plan = c.args.plan.now in
    omega (arith, ended_at plan c.loop-b.b-index (omega arith), ended-le plan, plan_length plan c.requires, c.ended-fields.ensures)

pub overflow_add-bits : goal.overflow_add-bits
overflow_add-bits c =
    let plan = c.args.plan.now in
    omega (arith, total_at plan c.loop-b.b-index (omega arith), total-le plan, plan_length plan c.requires)

pub loop-b-preserved : goal.loop-b-preserved
loop-b-preserved c =
    let i = c.loop-b.b-index in
    let plan = c.args.plan.now in
    (omega (arith, ended_at plan i (omega arith), c.ended-fields.ensures), omega (arith, total_at plan i (omega arith)))

pub returns : goal.returns
returns c =
    let l = c.loop-b in
    let plan = c.args.plan.now in
    let fields : l.fields ≡ ended plan = omega (arith, ended_end plan l.b-index (omega arith)) in
    let bits : l.bits ≡ total plan = omega (arith, total_end plan l.b-index (omega arith)) in
    λ j. record { fields = (fields ∙ plan_ended plan) j; bits = (bits ∙ plan_total plan c.requires) j }
