-- `put_plan` meets its contract: before each field of the layout, whoever writes the fields left has written all. Assumes nothing.
use mathlib.Core.Path.{◌≡◌}
use Rattle.layout.proofs.Puts.{Left}
use Rattle.layout.proofs.inner.compiler.put_plan.Given as goal

abbrev pub invariant-loop-field : goal.invariant-loop-field
invariant-loop-field l = (l.field-iterator.size ≡ 2) × Left l.layout l.initial.out l.field-iterator.rest.now l.p l.out
