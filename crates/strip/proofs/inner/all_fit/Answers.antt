-- `all_fit` meets its contract: whether the records still to come fit decides at each turn whether all do (`next_fits`). Assumes nothing.
use mathlib.Core.Path.{◌≡◌, sym, ap, ◌∙◌}
use mathlib.Core.Bool.{Bool, ◌&&◌}
use mathlib.Core.List.{List}
use Prim.Native.Nat.{ℕ, ◌+◌, ◌-◌, ◌*◌, ◌<◌, ◌≤◌}
use native.Mathlib.Nat.{sub-zero}
use native.Mathlib.Omega.{arith}
use lib.ListN.{length, drop}
use Rattle.record.specs.Record.{fits}
use Rattle.strip.specs.Strip.{record_in, records_in, all_fit}
use Rattle.strip.proofs.ListLaws.{next_fits, no_record_left}
use Rattle.strip.proofs.inner.all_fit.Goals as goal

pub loop-i-init : goal.loop-i-init
loop-i-init c = ap (λ (k : ℕ). all_fit (records_in k c.args.numbers.now)) (sub-zero c.args.n)

-- what was found of the six numbers of record i, with the records behind, decides
decides : (ns : List ℕ) (n i : ℕ) (t : Bool) → i < n → 6 * n ≤ length ns → t ≡ fits (record_in (drop (6 * i) ns))
    → all_fit (records_in (n - i) (drop (6 * i) ns)) ≡ all_fit (records_in n ns)
    → (t && all_fit (records_in (n - (i + 1)) (drop (6 * (i + 1)) ns))) ≡ all_fit (records_in n ns)
decides ns n i t more there found before =
    let e : 6 * (i + 1) ≡ 6 * i + 6 = omega arith in
    rw e (ap (λ (t : Bool). t && all_fit (records_in (n - (i + 1)) (drop (6 * i + 6) ns))) found ∙ sym (next_fits ns n i (6 * i) more (omega arith)) ∙ before)

pub loop-i-preserved : goal.loop-i-preserved
loop-i-preserved c =
    let a = c.args in
    rw c.if-not-fit.false at (decides a.numbers.now a.n c.loop-i.i _ c.loop-i-test.true c.requires (c.fit.ensures ∙ ap fits c.numbers_at.ensures) c.loop-i.invariant)

pub returns-then-not-fit : goal.returns-then-not-fit
returns-then-not-fit c =
    let a = c.args in
    rw c.if-not-fit.true at (decides a.numbers.now a.n c.loop-i.i _ c.loop-i-test.true c.requires (c.fit.ensures ∙ ap fits c.numbers_at.ensures) c.loop-i.invariant)

pub returns : goal.returns
unfolding all_fit
returns c =
    let l = c.loop-i in
    let a = c.args in
    ap all_fit (sym (no_record_left (drop (6 * l.i) a.numbers.now) a.n l.i c.loop-i-test.false)) ∙ l.invariant
