-- `consume` meets its contract: the register without its first bits is that of the counts after the take (`consumed`). Assumes nothing.
use mathlib.Core.Path.{◌∙◌}
use Prim.Native.Nat.{◌-◌}
use Rattle.lookahead.proofs.StateLaws.{consumed}
use Rattle.lookahead.proofs.inner.consume.Goals as goal

pub returns : goal.returns
returns c =
    let a = c.args in
    let h = c.requires in
    let e = c.skip_bits.ensures ∙ consumed h.0 a.n h.1 in
    λ i. record { offset = a.c.offset; lookahead = a.c.lookahead - a.n; register = e i }
