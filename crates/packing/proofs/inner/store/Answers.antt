-- `store` meets its contract: what is still to be stored from here is what was to be stored at first (`store_step`). Assumes nothing.
use mathlib.Core.Path.{◌≡◌, refl, ap, ◌∙◌}
use Prim.Native.Nat.{ℕ, ◌+◌, ◌-◌, ◌*◌, ◌/◌, ◌%◌, ◌<◌}
use native.Mathlib.Omega.{arith}
use lib.ListN.{set, length-set}
use lib.Seq.{sets}
use Rattle.bits.specs.declared.Order.TheVariants.{Little}
use Rattle.bits.specs.Word.{first, skipped}
use Rattle.packing.specs.Packing.{bytes_of}
use Rattle.packing.proofs.HeldLaws.{store_step}
use Rattle.packing.proofs.inner.store.Goals as goal

pub loop-k-init : goal.loop-k-init
loop-k-init c =
    let a = c.args in
    let e : a.at + a.n - a.at ≡ a.n = omega arith in
    (refl, c.ranges.word.fits, ap (λ (m : ℕ). sets a.out.now a.at (bytes_of Little m (64 - 8 * m) a.word)) e)

pub loop-k-preserved : goal.loop-k-preserved
unfolding first skipped
loop-k-preserved c =
    let l = c.loop-k in
    let a = c.args in
    let left : ℕ = a.at + a.n - l.k in
    let p : 0 < left = omega arith in
    let e : a.at + a.n - (l.k + 1) ≡ left - 1 = omega arith in (
      length-set l.out l.k (l.left % 256) ∙ l.invariant.0,
      omega arith,
      ap (λ (m : ℕ). sets (set l.out l.k (l.left % 256)) (l.k + 1) (bytes_of Little m (64 - 8 * m) (l.left / 256))) e
          ∙ store_step Little l.out l.k left l.left p (omega arith) l.invariant.1 ∙ l.invariant.2,
    )

pub returns : goal.returns
unfolding bytes_of
returns c =
    let l = c.loop-k in
    let a = c.args in
    let e : 0 ≡ a.at + a.n - l.k = omega arith in
    ap (λ (m : ℕ). sets l.out l.k (bytes_of Little m (64 - 8 * m) l.left)) e ∙ l.invariant.2
