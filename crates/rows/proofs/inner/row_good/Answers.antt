-- `row_good` meets its contract: the columns are parts of the three words (`three_words`). Assumes nothing.
use mathlib.Core.Path.{◌∙◌}
use Prim.Native.Nat.{◌*◌}
use Rattle.rows.proofs.PartLaws.{good_numbers, good_numbers_lem, three_words}
use Rattle.rows.proofs.inner.row_good.Goals as goal

pub returns : goal.returns
returns c =
    let third = c in
    let a = third.args in
    let w = three_words a.src.now a.at third.load_whole-high.ensures third.load_whole-date.ensures third.load_whole-low.ensures in
    c.numbers_good.ensures ∙ (λ i. good_numbers (w.star i) (w.date' i) (w.letter i) (w.error i) (w.filter i)) ∙ good_numbers_lem a.src.now (8 * a.at)
