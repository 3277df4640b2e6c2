-- `read_narrow` meets its contract: at each field, what the check of the others will give is what it gives of all, and what they will be
-- gives what all of them are. Assumes nothing.
use Prim.Native.Nat.{◌+◌, ◌-◌}
use mathlib.Core.Path.{◌≡◌, refl, sym, ◌∙◌}
use mathlib.Core.List.{[]}
use native.Mathlib.Omega.{arith}
use lib.ListN.{length, drop}
use lib.Seq.{drop-length}
use Rattle.bits.proofs.FieldLaws.{field_lt}
use Rattle.layout.specs.Plan.{decode}
use Rattle.layout.specs.Take.{Ready}
use Rattle.layout.proofs.CheckLaws.{at_end}
use Rattle.layout.proofs.TakeLaws.{ready_next, ready_field}
use Rattle.plan.proofs.Reading.{start, next, finish}
use Rattle.plan.proofs.inner.read_narrow.Goals as goal

pub loop-i-init : goal.loop-i-init
loop-i-init c = (omega arith, omega arith, omega arith, omega arith, refl, start)

pub pattern-requires : goal.pattern-requires
pattern-requires c =
    let r : Ready c.args.plan.now c.loop-i.i c.loop-i.g c.in_ok-k.k c.in_ok-k.known = c.in_ok-k.ensures in
    (omega (arith, c.if-known-w.false, r.known), rw c.whole_field.ensures (field_lt _ _ _ _))

pub loop-i-preserved : goal.loop-i-preserved
loop-i-preserved c =
    let l = c.loop-i in
    let r : Ready c.args.plan.now l.i l.g c.in_ok-k.k c.in_ok-k.known = c.in_ok-k.ensures in
    let w = c.count-w.ensures in
    let last = sym c.ends.ensures ∙ c.if-not-ends.false in
    let fit = c.if-known-w.false in
    let fewer : 64 - l.j - 1 ≡ 64 - (l.j + 1) = omega arith in (
      omega (arith, r.there),
      omega (arith, c.if-j-eq64.false),
      omega (arith, r.known),
      omega (arith, l.invariant.3, r.ahead, fit, r.known),
      rw (w, ← fewer) (sym (ready_next r last (64 - l.j) (omega (arith, fit, w)) (λ z. omega (arith, c.if-j-eq64.false))) ∙ l.invariant.4),
      rw (c.pattern.ensures, c.whole_field.ensures, w) (next (rw (ready_field r last) at l.invariant.5)),
    )

pub returns : goal.returns
unfolding decode
returns c =
    let l = c.loop-i in
    let plan = c.args.plan.now in
    let e : l.i ≡ length plan = omega arith in
    let none : decode 0 (drop l.i plan) ≡ [] = rw (e, drop-length) in
    let left = rw none at l.invariant.5 in
    let (end, out) = finish left in
    record {
      answer = (sym l.invariant.4 ∙ at_end 0 l.g (64 - l.j) plan l.i e, omega (arith, left.many), end, omega (arith, l.invariant.3, l.invariant.0));
      memory = out;
    }
