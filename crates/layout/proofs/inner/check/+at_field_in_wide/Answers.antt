-- `at_field` and `in_wide` meet their contracts: each way on behind a take is one of TakeLaws, the loop keeps the check what it was at
-- the start, and each call is on fewer steps. Assumes nothing.
use mathlib.Core.Path.{refl, sym, ◌∙◌}
use native.Mathlib.Omega.{arith}
use Rattle.layout.proofs.CheckLaws.{at_end, wide_end}
use Rattle.layout.proofs.inner.check.+at_field_in_wide.Goals as goal

-- ---- at a field

pub at_field-loop-i-init : goal.at_field-loop-i-init
at_field-loop-i-init t c = (omega arith, omega arith, omega arith, refl)

pub at_field-returns : goal.at_field-returns
at_field-returns t c =
    let l = c.loop-i in
    sym (at_end 0 l.g l.n c.args.p.now l.i (omega arith)) ∙ l.invariant.3

-- ---- inside a wide field

pub in_wide-returns-then-i-p : goal.in_wide-returns-then-i-p
in_wide-returns-then-i-p t c = let a = c.args in sym (wide_end 0 a.g a.n a.p.now a.i c.if-i-p.true)
