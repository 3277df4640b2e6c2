-- `is_plan` meets its contract: no plan has over 256 bytes, and for the others the check at a field decides. Assumes nothing.
use mathlib.Core.Path.{sym}
use native.Mathlib.Omega.{arith}
use borrow.Author.Tests.{lt-leb}
use Rattle.layout.specs.Check.{is_plan}
use Rattle.bits.proofs.TestLaws.{by_test}
use Rattle.layout.proofs.Theorems.{plan_length}
use Rattle.layout.proofs.inner.check.is_plan.Goals as goal

pub returns-else-p-le256 : goal.returns-else-p-le256
returns-else-p-le256 c =
    let p = c.args.p.now in
    rw (lt-leb _ _ c.if-p-le256.false) (by_test (is_plan p) (λ e. absurd (omega (arith, plan_length p e, c.if-p-le256.false))) sym)
