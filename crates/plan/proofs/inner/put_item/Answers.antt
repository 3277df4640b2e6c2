-- `put_item` meets its contract: `ends` decides, and then two bytes are stored. Assumes nothing.
use mathlib.Core.Path.{◌≡◌, refl, sym, ◌∙◌}
use mathlib.Core.Bool.{true}
use native.Mathlib.Numerals.{add-one}
use native.Mathlib.Omega.{arith}
use lib.ListN.{length-set}
use Rattle.layout.specs.Plan.{ends}
use Rattle.layout.proofs.DecodeLaws.{ends_of}
use Rattle.plan.proofs.inner.put_item.Goals as goal
use Rattle.plan.proofs.inner.put_item.Goals.{Then-ends}

-- the step ends a field
ended : (c : Then-ends) → ends c.args.b ≡ true
ended c = sym c.ends.ensures ∙ c.if-ends.true

pub overflow_sub-layout : goal.overflow_sub-layout
overflow_sub-layout c = omega (arith, (ends_of c.args.b (ended c)).0)

pub bounds-layout-at : goal.bounds-layout-at
bounds-layout-at c = omega (arith, c.requires.0 (ended c))

pub bounds-layout-at-then-ends : goal.bounds-layout-at-then-ends
bounds-layout-at-then-ends c =
    simp length-set (omega (arith, c.requires.0 (ended c)))

pub returns-then-ends : goal.returns-then-ends
returns-then-ends c = rw (ended c) (record {
  answer = refl;
  memory = rw add-one;
})

pub returns : goal.returns
returns c = rw (← c.ends.ensures, c.if-ends.false) (record {
  answer = refl;
  memory = refl;
})
