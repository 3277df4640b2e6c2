-- `first_bad` meets its contract: the first bad row among those still to come is the first of all (`next_bad`). Assumes nothing.
use mathlib.Core.Path.{◌≡◌, sym, ap, ◌∙◌}
use mathlib.Core.Bool.{Bool, cond}
use mathlib.Core.List.{List}
use Prim.Native.Nat.{ℕ, ◌+◌, ◌-◌, ◌*◌, ◌<◌}
use native.Mathlib.Nat.{sub-zero}
use native.Mathlib.Omega.{arith}
use Rattle.rows.specs.Row.{columns_at, in_range, row_length}
use Rattle.rows.specs.Rows.{bad_from, named}
use Rattle.rows.proofs.AnswerLaws.{some_named}
use Rattle.rows.proofs.RowsLaws.{next_bad, none_bad}
use Rattle.rows.proofs.inner.first_bad.Goals as goal

pub loop-i-init : goal.loop-i-init
loop-i-init c = ap (bad_from c.args.src.now 0 1) (sub-zero c.args.n)

pub row_good-requires : goal.row_good-requires
row_good-requires c = (omega arith, omega arith)

-- what was found of row i, with the first bad row behind it, decides
decides :
    (s : List ℕ) (n i : ℕ) {t : Bool} {k : ℕ} → i < n → t ≡ in_range (columns_at s (8 * (row_length * i))) →
    bad_from s (8 * (row_length * i)) (i + 1) (n - i) ≡ k →
    cond t (bad_from s (8 * (row_length * (i + 1))) (i + 1 + 1) (n - (i + 1))) (i + 1) ≡ k
decides s n i more found before =
    let e : row_length * (i + 1) ≡ row_length * i + 18 = omega arith in
    rw e (ap (λ (t : Bool). cond t (bad_from s (8 * (row_length * i + 18)) (i + 1 + 1) (n - (i + 1))) (i + 1)) found ∙ sym (next_bad s n i (row_length * i) more) ∙ before)

pub loop-i-preserved : goal.loop-i-preserved
loop-i-preserved c = rw c.if-not-row_good.false at (decides c.args.src.now c.args.n c.loop-i.i c.loop-i-test.true c.row_good.ensures c.loop-i.invariant)

pub returns-then-not-row_good : goal.returns-then-not-row_good
returns-then-not-row_good c =
    some_named _ (λ z. omega arith)
    ∙ ap named (rw c.if-not-row_good.true at (decides c.args.src.now c.args.n c.loop-i.i c.loop-i-test.true c.row_good.ensures c.loop-i.invariant))

pub returns : goal.returns
returns c =
    let l = c.loop-i in
    let a = c.args in
    ap named (sym (none_bad a.src.now a.n l.i (8 * (row_length * l.i)) (l.i + 1) c.loop-i-test.false) ∙ l.invariant)
