-- `fields` meets its contract: at each field, what the others will give gives what all of them give. Assumes nothing.
use Prim.Native.Nat.{◌+◌, ◌*◌, ◌≤◌}
use mathlib.Core.Path.{◌≡◌}
use mathlib.Core.Bool.{true}
use lib.ListN.{length}
use Rattle.layout.specs.Layout.{items_of, good_items, bits_of}
use Rattle.plan.proofs.Reading.{Left}
use Rattle.plan.proofs.inner.fields.Given as goal

abbrev pub invariant-loop-j : goal.invariant-loop-j
invariant-loop-j l =
    (l.j-iterator.iter.size ≡ 2) × (l.inside ≡ true → l.place + bits_of (items_of l.layout) + 64 ≤ 8 * length l.src)
    × (good_items (items_of l.j-iterator.iter.rest.now) ≡ true)
    × Left l.order l.src l.place (items_of l.layout) l.initial.results (items_of l.j-iterator.iter.rest.now) l.at l.j-iterator.count l.results
