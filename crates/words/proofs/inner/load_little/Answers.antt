-- `load_little` meets its contract: a little-endian field of 64 bits is its eight bytes, the last the most significant (`little8`). Assumes nothing.
use native.Mathlib.Omega.{arith}
use Rattle.words.proofs.EightLaws.{little8}
use Rattle.words.proofs.inner.load_little.Goals as goal

pub returns : goal.returns
returns c =
    let a = c.args in
    let e = little8 a.src.now a.at (λ i. (c.type_inv.src i).fits) in
    omega (arith, c.from_le_bytes.ensures, e)
