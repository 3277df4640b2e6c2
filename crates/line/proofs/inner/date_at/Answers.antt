-- `date_at` meets its contract: the decimals are read where the whole part ended (`date_stands`), and both are bounded. Assumes nothing.
use Rattle.std.proofs.Common.{drop, arith}
use Rattle.digits.specs.Digits.{comma, point}
use Rattle.digits.proofs.PartLaws.{whole_small, decimals_few}
use Rattle.line.proofs.PlaceLaws.{date_stands}
use Rattle.line.proofs.inner.date_at.Goals as goal

pub units-requires : goal.units-requires
units-requires c =
    let a = c.args in
    let w = c.whole_at-whole in
    let p = w.ensures.value in
    let q = c.decimals_at-decimals.ensures in
    let v = q.value in
    let n = q.count in
    let b = whole_small point (drop a.at a.src.now) in
    let d = decimals_few 5 12 comma (drop w.result.next a.src.now) in
    let e = d.value in
    let f = d.count in
    (omega arith, omega arith, omega arith)

pub returns : goal.returns
returns c =
    let a = c.args in
    let w = c.whole_at-whole in
    let d = c.decimals_at-decimals in
    date_stands a.src.now a.at w.result d.result w.ensures c.units.result d.ensures c.units.ensures
