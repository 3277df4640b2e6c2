-- `units` meets its contract: up to five decimals are units themselves (`units_five`), to more half a unit is added before they are cut
-- (`units_half`). Assumes nothing.
use Rattle.std.proofs.Common.{ℕ, ◌+◌, ◌-◌, ◌*◌, ◌/◌, sym, ap, ◌∙◌, arith}
use Rattle.line.specs.Date.{day}
use Rattle.line.proofs.DateLaws.{ten_some, units_five, units_half}
use Rattle.line.proofs.inner.units.Goals as goal

pub returns-then-count-le5 : goal.returns-then-count-le5
returns-then-count-le5 c = let a = c.args in sym (units_five a.whole a.decimals a.count c.if-count-le5.true)

pub nonzero_div-result-2 : goal.nonzero_div-result-2
nonzero_div-result-2 c = let t = ten_some (c.args.count - 5) in rw c.pow-unit.ensures t

pub returns : goal.returns
returns c =
    let a = c.args in
    ap (λ (x : ℕ). day * a.whole + (a.decimals + x / 2) / x) c.pow-unit.ensures
    ∙ sym (units_half a.whole a.decimals a.count (omega arith))
