-- `put_copied` meets its contract: what is still to be stored from here is what was to be stored at first. Assumes nothing.
use mathlib.Core.Path.{◌≡◌, refl, sym, ap, ap₂, ◌∙◌}
use Prim.Native.Nat.{ℕ, suc, ◌+◌}
use native.Mathlib.Nat.{add-zero}
use native.Mathlib.Numerals.{add-one}
use native.Mathlib.Omega.{arith}
use mathlib.Core.List.{◌∷◌}
use lib.ListN.{get_or, drop, set, length-set, drop_of_length-le}
use lib.Seq.{sets, drop-cons}
use Rattle.packing.proofs.inner.put_copied.Goals as goal

pub loop-i-init : goal.loop-i-init
loop-i-init c = (refl, ap (λ (k : ℕ). sets c.args.out.now k c.args.src.now) (add-zero c.args.at))

pub loop-i-preserved : goal.loop-i-preserved
loop-i-preserved c =
    let a = c.args in
    let l = c.loop-i in
    let src = a.src.now in
    let b = get_or src l.i 0 in
    let e : a.at + (l.i + 1) ≡ suc (a.at + l.i) = omega arith in
    let d : b ∷ drop (suc l.i) src ≡ drop l.i src = sym (drop-cons src l.i 0 (omega arith)) in (
      length-set l.out (a.at + l.i) b ∙ l.invariant.0,
      ap₂ (λ (k j : ℕ). sets (set l.out (a.at + l.i) b) k (drop j src)) e (add-one l.i) ∙ ap (sets l.out (a.at + l.i)) d ∙ l.invariant.1,
    )

pub returns : goal.returns
returns c =
    let a = c.args in
    let l = c.loop-i in
    ap (sets l.out (a.at + l.i)) (sym (drop_of_length-le a.src.now (omega arith))) ∙ l.invariant.1
