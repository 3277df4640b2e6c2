-- `good_fields` meets its contract: what is said of the fields left is what is said of all. Assumes nothing.
use mathlib.Core.Path.{◌≡◌}
use Rattle.layout.specs.Layout.{items_of, good_items}
use Rattle.layout.proofs.inner.compiler.good_fields.Given as goal

abbrev pub invariant-loop-field : goal.invariant-loop-field
invariant-loop-field l =
    (l.field-iterator.size ≡ 2) × (good_items (items_of l.field-iterator.rest.now) ≡ good_items (items_of l.layout))
