-- `peek` meets its contract: the first bits of the register are the first of the field that it holds (`peeked`). Assumes nothing.
use mathlib.Core.Path.{◌∙◌}
use Rattle.lookahead.proofs.StateLaws.{peeked}
use Rattle.lookahead.proofs.inner.peek.Goals as goal

pub returns : goal.returns
returns c =
    let a = c.args in
    let h = c.requires in
    c.first_bits.ensures ∙ peeked h.0 a.n h.1
