-- `good_fields` meets its contract: what is said of the fields left is what is said of all. Assumes nothing.
use mathlib.Core.Path.{refl, sym, ◌∙◌}
use native.Mathlib.Omega.{arith}
use Rattle.layout.proofs.LayoutLaws.{first_of, good_first, good_none}
use Rattle.layout.proofs.inner.compiler.good_fields.Goals as goal

pub loop-field-init : goal.loop-field-init
loop-field-init c =
    let items = c.chunks_exact-field-items.ensures in
    rw (c.into_iter-field-iterator.ensures.into_iter_gives, items.rest) (items.size, refl)

pub returns-then-not-good_field : goal.returns-then-not-good_field
returns-then-not-good_field c =
    let l = c.loop-field in
    let (_, piece, _) = c.in-Some.ensures.steps in
    let first = first_of piece l.invariant.0 in
    rw (← c.good_field.ensures, c.if-not-good_field.true) at (sym (good_first first) ∙ l.invariant.1)

pub loop-field-preserved : goal.loop-field-preserved
loop-field-preserved c =
    let l = c.loop-field in
    let (size, piece, _) = c.in-Some.ensures.steps in
    let first = first_of piece l.invariant.0 in
    (size ∙ l.invariant.0, rw (← c.good_field.ensures, c.if-not-good_field.false) at (sym (good_first first) ∙ l.invariant.1))

pub returns : goal.returns
returns c =
    let l = c.loop-field in
    let (_, (few, _), _) = c.in-None.ensures.steps in
    sym (good_none l.field-iterator.rest.now (omega (arith, few, l.invariant.0))) ∙ l.invariant.1
