-- `put_plan` meets its contract: before each field of the layout, whoever writes the fields left has written all. Assumes nothing.
use mathlib.Core.Path.{ap, ◌∙◌}
use native.Mathlib.Omega.{arith}
use native.Mathlib.Nat.{zero-add}
use Rattle.layout.specs.declared.inner.compiler.Put.{Put}
use Rattle.layout.proofs.LayoutLaws.{first_of}
use Rattle.layout.proofs.Puts.{left_start, left_next, left_end, field_good}
use Rattle.layout.proofs.inner.compiler.put_plan.Goals as goal

pub loop-field-init : goal.loop-field-init
loop-field-init c =
    let items = c.chunks_exact-field-items.ensures in
    rw (c.into_iter-field-iterator.ensures.into_iter_gives, items.rest) (items.size, left_start _ _ c.requires)

pub put_field-p-requires : goal.put_field-p-requires
put_field-p-requires c =
    let l = c.loop-field in
    let (_, piece, _) = c.in-Some.ensures.steps in
    let first = first_of piece l.invariant.0 in
    let (kind, width, _) = field_good l.invariant.1 first in
    (l.invariant.1.low, kind, width, omega (arith, l.invariant.1.near))

pub loop-field-preserved : goal.loop-field-preserved
loop-field-preserved c =
    let l = c.loop-field in
    let (size, piece, _) = c.in-Some.ensures.steps in
    let first = first_of piece l.invariant.0 in
    (size ∙ l.invariant.0, left_next l.invariant.1 first record { next = c.put_field-p.ensures.answer; made = c.put_field-p.ensures.memory })

pub returns : goal.returns
returns c =
    let l = c.loop-field in
    let (_, (few, _), _) = c.in-None.ensures.steps in
    let all = left_end l.invariant.1 (omega (arith, few, l.invariant.0)) in
    record {
      answer = ap (λ (p : Put). p.at) all.next ∙ zero-add _;
      memory = all.made;
    }
