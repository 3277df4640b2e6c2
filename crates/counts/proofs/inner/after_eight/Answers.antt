-- `after_eight` meets its contract: with under 8 bits ahead a refill gives 8 (`refill-enough`), and a read of
-- 8 bits refills exactly then. Assumes nothing.
use mathlib.Core.Path.{sym, ap, ◌∙◌, subst}
use Prim.Native.Nat.{◌≤◌}
use native.Mathlib.Omega.{arith}
use Rattle.counts.specs.declared.Counts.{Counts}
use Rattle.counts.specs.Counts.{after_take}
use Rattle.counts.proofs.CountLaws.{refill-enough, read_held, read_refilled}
use Rattle.counts.proofs.inner.after_eight.Goals as goal

pub overflow_sub-result : goal.overflow_sub-result
overflow_sub-result c =
    let h = c.requires in
    subst (λ (k : Counts). 8 ≤ k.lookahead) (sym c.after_refill-f.ensures) (refill-enough h.0 8 (omega arith) h.1)

pub returns-then-k-lt8 : goal.returns-then-k-lt8
returns-then-k-lt8 c =
    let a = c.args in
    ap (after_take 8) c.after_refill-f.ensures ∙ read_refilled a.len 8 a.k (omega arith) c.if-k-lt8.true

pub returns : goal.returns
returns c =
    let a = c.args in
    read_held a.len 8 a.k (omega arith) c.if-k-lt8.false
