-- `decode` meets its contract: at each step, what the others will write gives what all of them write. Assumes nothing.
use mathlib.Core.Path.{◌≡◌, refl}
use native.Mathlib.Nat.{zero-add}
use native.Mathlib.Omega.{arith}
use lib.ListN.{length}
use Rattle.layout.proofs.StepLaws.{plan_whole}
use Rattle.plan.proofs.RunLaws.{plan_few}
use Rattle.plan.proofs.Decoding.{width, room, next, at_index, at_end}
use Rattle.plan.proofs.inner.decode.Goals as goal

pub loop-b-init : goal.loop-b-init
loop-b-init c = record { closed = plan_whole _ c.requires.0; many = zero-add _; made = refl; size = refl }

pub overflow_add-w : goal.overflow_add-w
overflow_add-w c = omega (arith, width (at_index c.loop-b-test.true c.loop-b.invariant))

pub put_item-at-requires : goal.put_item-at-requires
put_item-at-requires c =
    let left = at_index c.loop-b-test.true c.loop-b.invariant in
    let few = plan_few c.args.plan.now c.requires.0 in
    ((λ e. omega (arith, room left e, left.size, c.requires.1)), omega (arith, left.many))

pub loop-b-preserved : goal.loop-b-preserved
loop-b-preserved c =
    let wrote = c.put_item-at.ensures in
    rw (c.next_open-open.ensures, wrote.answer, wrote.memory) (next (at_index c.loop-b-test.true c.loop-b.invariant))

pub shape_of-layout : goal.shape_of-layout
shape_of-layout c = c.loop-b.invariant.size

pub returns : goal.returns
returns c =
    let e : c.loop-b.b-index ≡ length c.args.plan.now = omega arith in
    let (many, made) = at_end e c.loop-b.invariant in
    record { answer = many; memory = made }
