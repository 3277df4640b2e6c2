-- `thousandths_at` meets its contract: the decimals are read where the whole part ended (`thousandths_stands`), and both are bounded.
-- Assumes nothing.
use Rattle.std.proofs.Common.{drop, arith}
use Rattle.digits.specs.Digits.{comma, point}
use Rattle.digits.proofs.PartLaws.{whole_small, decimals_few}
use Rattle.line.proofs.PlaceLaws.{thousandths_stands}
use Rattle.line.proofs.inner.thousandths_at.Goals as goal

pub overflow_mul-result : goal.overflow_mul-result
overflow_mul-result c =
    let a = c.args in
    let b = whole_small point (drop a.at a.src.now) in
    let e = c.whole_at-whole.ensures.value in
    omega arith

pub overflow_add-result : goal.overflow_add-result
overflow_add-result c =
    let a = c.args in
    let w = c.whole_at-whole in
    let b = whole_small point (drop a.at a.src.now) in
    let d = (decimals_few 3 3 comma (drop w.result.next a.src.now)).value in
    let e = w.ensures.value in
    let f = c.decimals_at-decimals.ensures.value in
    omega arith

pub returns : goal.returns
returns c =
    let a = c.args in
    let w = c.whole_at-whole in
    let d = c.decimals_at-decimals in
    thousandths_stands a.src.now a.at w.result d.result w.ensures d.ensures
