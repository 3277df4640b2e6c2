-- `after_eights` meets its contract: the loop keeps that the reads still to be done give what all of them gave at first. Assumes nothing.
use mathlib.Core.Path.{◌≡◌, sym, ap, ◌∙◌, subst}
use Prim.Native.Nat.{ℕ, ◌+◌, ◌-◌}
use native.Mathlib.Omega.{arith}
use Rattle.counts.specs.Counts.{after_read, after_eights}
use Rattle.counts.proofs.CountLaws.{Moved, read_moved, moved_room}
use Rattle.counts.proofs.BytesLaws.{eights_next}
use Rattle.counts.proofs.inner.after_eights.Goals as goal

pub loop-init : goal.loop-init
loop-init c =
    let a = c.args in
    let z : a.n - 0 ≡ a.n = omega arith in
    (c.requires.0, omega arith, ap (λ (n : ℕ). after_eights a.len n a.k) z)

pub after_eight-x-requires : goal.after_eight-x-requires
after_eight-x-requires c = (c.loop.invariant.0, omega arith)

pub loop-preserved : goal.loop-preserved
loop-preserved c =
    let a = c.args in
    let l = c.loop in
    let left = a.n - l.counter in
    let e = c.after_eight-x.ensures in
    let f : left - 1 ≡ a.n - (l.counter + 1) = omega arith in
    let x : Moved a.len 8 l.x (after_read a.len 8 l.x) = read_moved l.invariant.0 8 (omega arith) (omega arith) in
    let y : Moved a.len 8 l.x c.after_eight-x.result = subst (Moved a.len 8 l.x) (sym e) x in (
      y.within,
      moved_room y l.invariant.0 (omega arith),
      ap (after_eights a.len (a.n - (l.counter + 1))) e ∙ (rw f at (sym (eights_next a.len left l.x (omega arith)))) ∙ l.invariant.2,
    )

pub returns : goal.returns
unfolding after_eights
returns c =
    let a = c.args in
    let l = c.loop in
    let z : a.n - l.counter ≡ 0 = omega arith in
    subst (λ (n : ℕ). after_eights a.len n l.x ≡ after_eights a.len a.n a.k) z l.invariant.2
