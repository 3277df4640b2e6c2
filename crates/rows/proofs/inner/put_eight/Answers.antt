-- `put_eight` meets its contract: each row stands behind those before it (`one_more`). Assumes nothing.
use mathlib.Core.Path.{◌≡◌, ap, ◌∙◌}
use Prim.Native.Nat.{ℕ, ◌*◌}
use native.Mathlib.Omega.{arith}
use lib.Seq.{sets, length-sets}
use Rattle.rows.proofs.StripRowsLaws.{rows_from, no_row, one_more}
use Rattle.rows.proofs.inner.put_eight.Goals as goal

pub loop-k-init : goal.loop-k-init
loop-k-init c = let a = c.args in no_row a.src.now a.out.now (8 * a.byte) a.at

pub loop-k-preserved : goal.loop-k-preserved
loop-k-preserved c = let a = c.args in one_more a.src.now a.out.now (8 * a.byte) a.at c.loop-k.k _ _ c.loop-k.invariant c.put_nth.ensures

pub returns : goal.returns
returns c =
    let a = c.args in
    let all : c.loop-k.k ≡ 8 = omega arith in
    c.loop-k.invariant ∙ ap (λ (k : ℕ). sets a.out.now a.at (rows_from a.src.now (8 * a.byte) k)) all

pub shape_of-out : goal.shape_of-out
shape_of-out c = rw (returns c, length-sets)
