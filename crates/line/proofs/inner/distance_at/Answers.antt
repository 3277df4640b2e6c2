-- `distance_at` meets its contract: behind a minus the number is read one byte on and taken below zero (`minus_stands`); with none it lies
-- as far above zero (`plus_stands`). Assumes nothing.
use Rattle.std.proofs.Common.{drop, sym, ◌∙◌, arith}
use Rattle.line.proofs.PlaceLaws.{thousandths_small, minus_stands, plus_stands}
use Rattle.line.proofs.inner.distance_at.Goals as goal

pub returns-then-starts_at : goal.returns-then-starts_at
returns-then-starts_at c =
    let a = c.args in
    let m = c.thousandths_at-number in
    minus_stands a.src.now a.at m.result c.below_zero.result
    (sym c.starts_at.ensures ∙ c.if-starts_at.true) m.ensures c.below_zero.ensures

pub overflow_add-result : goal.overflow_add-result
overflow_add-result c =
    let a = c.args in
    let b = thousandths_small (drop a.at a.src.now) in
    let e = c.thousandths_at-number-2.ensures.value in
    omega arith

pub returns : goal.returns
returns c =
    let a = c.args in
    let m = c.thousandths_at-number-2 in
    plus_stands a.src.now a.at m.result (sym c.starts_at.ensures ∙ c.if-starts_at.false) m.ensures
