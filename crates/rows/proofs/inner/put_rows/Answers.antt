-- `put_rows` meets its contract: in both loops what is left to be stored from here is what was left at first (`left_step`). Assumes nothing.
use mathlib.Core.Path.{◌≡◌, ap, ◌∙◌}
use Prim.Native.Nat.{ℕ, ◌+◌, ◌-◌, ◌*◌, ◌/◌}
use native.Mathlib.Nat.{sub-zero}
use native.Mathlib.Omega.{arith}
use lib.Seq.{sets}
use Rattle.record.specs.Record.{record_bits}
use Rattle.rows.specs.Row.{row_length}
use Rattle.rows.proofs.StripRowsLaws.{rows_from, one_row, left_start, left_step, left_none}
use Rattle.rows.proofs.inner.put_rows.Goals as goal

pub loop-i-init : goal.loop-i-init
loop-i-init c = let a = c.args in left_start a.src.now a.count a.out.now 0 0 0 (omega arith) (omega arith) (omega arith)

pub put_eight-requires : goal.put_eight-requires
put_eight-requires c = (omega arith, omega arith)

pub loop-i-preserved : goal.loop-i-preserved
loop-i-preserved c =
    let a = c.args in
    let l = c.loop-i in
    let i : 8 * (l.i + 1) ≡ 8 * l.i + 8 = omega arith in
    let at : 144 * (l.i + 1) ≡ 144 * l.i + 144 = omega arith in
    rw (i, at)
    (left_step a.src.now a.count a.out.now 0 0 0 l.out (8 * l.i) (8 * (record_bits * l.i)) (144 * l.i) l.invariant 8 (omega arith) (omega arith) c.put_eight.ensures)

pub loop-i-2-init : goal.loop-i-2-init
loop-i-2-init c =
    let a = c.args in
    let i = 8 * (c.saturating_sub-groups.result / 8) in
    left_start a.src.now a.count c.loop-i.out i (record_bits * i) (row_length * i) (omega arith) (omega arith) (omega arith)

pub put_row_at-requires : goal.put_row_at-requires
put_row_at-requires c = (omega arith, omega arith, omega arith)

pub loop-i-2-preserved : goal.loop-i-2-preserved
loop-i-2-preserved c =
    let a = c.args in
    let l = c.loop-i-2 in
    let first = 8 * (c.saturating_sub-groups.result / 8) in
    let at : row_length * (l.i + 1) ≡ row_length * l.i + row_length = omega arith in
    rw at
    (left_step a.src.now a.count c.loop-i.out first (record_bits * first) (row_length * first) l.out l.i (record_bits * l.i) (row_length * l.i) l.invariant 1 (omega arith) (omega arith)
    (c.put_row_at.ensures ∙ ap (sets l.out (row_length * l.i)) (one_row a.src.now (record_bits * l.i))))

pub shape_of-out : goal.shape_of-out
shape_of-out c = c.loop-i-2.invariant.size ∙ c.loop-i.invariant.size

pub returns : goal.returns
returns c =
    let a = c.args in
    let one = c.loop-i in
    let l = c.loop-i-2 in
    let first = 8 * (c.saturating_sub-groups.result / 8) in
    let at : row_length * first ≡ 144 * one.i = omega arith in
    let place : record_bits * first ≡ 8 * (record_bits * one.i) = omega arith in
    let left : a.count - first ≡ a.count - 8 * one.i = omega arith in
    left_none a.src.now a.count one.out first (record_bits * first) (row_length * first) l.out l.i (record_bits * l.i) (row_length * l.i) l.invariant c.loop-i-2-test.false
    ∙ (λ j. sets one.out (at j) (rows_from a.src.now (place j) (left j)))
    ∙ one.invariant.rows ∙ ap (λ (k : ℕ). sets a.out.now 0 (rows_from a.src.now 0 k)) (sub-zero a.count)
