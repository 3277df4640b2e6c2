-- `load_whole` meets its contract: the big-endian field is the little-endian one with its eight bytes swapped (`swapped-field`). Assumes nothing.
use mathlib.Core.Path.{ap, ◌∙◌}
use Rattle.words.specs.Eight.{swapped}
use Rattle.words.proofs.EightLaws.{swapped-field}
use Rattle.words.proofs.inner.load_whole.Goals as goal

pub returns-in-Little : goal.returns-in-Little
returns-in-Little c = rw c.in-Little.is c.load_little.ensures

pub returns-in-Big : goal.returns-in-Big
returns-in-Big c =
    let a = c.args in
    rw c.in-Big.is
    (c.swap8.ensures ∙ ap swapped c.load_little-in-Big.ensures
    ∙ swapped-field a.src.now a.at (λ i. (c.type_inv.src i).fits))
