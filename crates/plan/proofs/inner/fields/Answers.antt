-- `fields` meets its contract: at each field, what the others will give gives what all of them give. Assumes nothing.
use Prim.Native.Nat.{◌+◌, ◌*◌, ◌<◌}
use mathlib.Core.Path.{◌∙◌}
use native.Mathlib.Omega.{arith}
use lib.ListN.{length}
use Rattle.bits.proofs.FieldLaws.{field_lt}
use borrow.Author.Tests.{leb-true}
use Rattle.layout.specs.Layout.{items_of}
use Rattle.layout.proofs.LayoutLaws.{good_of, is_layout_of, length_items, bits_most, first_of, items_cons, items_none}
use Rattle.plan.proofs.Reading.{start, inside, room, next, finish}
use Rattle.plan.proofs.inner.fields.Goals as goal

pub overflow_mul-inside : goal.overflow_mul-inside
overflow_mul-inside c = omega (arith, (is_layout_of _ c.requires.1).1)

pub overflow_add-inside : goal.overflow_add-inside
overflow_add-inside c = omega (arith, (is_layout_of _ c.requires.1).1)

pub overflow_add-inside-2 : goal.overflow_add-inside-2
overflow_add-inside-2 c = omega (arith, (is_layout_of _ c.requires.1).1)

pub loop-j-init : goal.loop-j-init
loop-j-init c =
    let a = c.args in
    let (even, short, good) = is_layout_of a.layout.now c.requires.1 in
    let items = c.chunks_exact.ensures in
    rw (c.into_iter-j-iterator.ensures.into_iter_gives, c.enumerate-j-items.ensures.source, c.enumerate-j-items.ensures.count, items.rest) (
      items.size,
      λ t.
          omega (
            arith,
            leb-true (a.place + 32 * length a.layout.now + 64) (8 * length a.src.now) t,
            bits_most (items_of a.layout.now) good,
            length_items a.layout.now even,
          ),
      good,
      start,
    )

pub field_in-requires : goal.field_in-requires
field_in-requires c =
    let l = c.loop-j in
    let first = first_of c.in-Some.ensures.steps.0.1 l.invariant.0 in
    let left = rw (items_cons first) at l.invariant.3 in
    let (kind, width, _) = good_of _ _ (rw (items_cons first) at l.invariant.2) in
    (width, omega (arith, inside left, c.requires.2), c.requires.0, λ t. omega (arith, inside left, l.invariant.1 t))

pub pattern-requires : goal.pattern-requires
pattern-requires c =
    let l = c.loop-j in
    let first = first_of c.in-Some.ensures.steps.0.1 l.invariant.0 in
    let (kind, width, _) = good_of _ _ (rw (items_cons first) at l.invariant.2) in
    (width, rw c.field_in.ensures (field_lt _ _ _ _))

pub bounds-results-j : goal.bounds-results-j
bounds-results-j c =
    let l = c.loop-j in
    let left = rw (items_cons (first_of c.in-Some.ensures.steps.0.1 l.invariant.0)) at l.invariant.3 in
    omega (arith, room left, left.size, c.requires.3, c.in-Some.ensures.steps.1)

pub overflow_add-at : goal.overflow_add-at
overflow_add-at c =
    let l = c.loop-j in
    let left = rw (items_cons (first_of c.in-Some.ensures.steps.0.1 l.invariant.0)) at l.invariant.3 in
    omega (arith, inside left, c.requires.0, c.requires.2)

pub loop-j-preserved : goal.loop-j-preserved
loop-j-preserved c =
    let l = c.loop-j in
    let (source, at, count, _) = c.in-Some.ensures.steps in
    let first = first_of source.1 l.invariant.0 in
    let left = rw (items_cons first) at l.invariant.3 in
    let (kind, width, others) = good_of _ _ (rw (items_cons first) at l.invariant.2) in
    (source.0 ∙ l.invariant.0, l.invariant.1, others, rw (count, at, c.pattern.ensures, c.field_in.ensures) (next left))

pub returns : goal.returns
returns c =
    let l = c.loop-j in
    let few : length l.j-iterator.iter.rest.now < 2 = omega (arith, c.in-None.ensures.steps.0.1.0, l.invariant.0) in
    let (answer, memory) = finish (rw (items_none l.j-iterator.iter.rest.now few) at l.invariant.3) in
    record { answer = answer; memory = memory }
