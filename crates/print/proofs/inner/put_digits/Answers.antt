-- `put_digits` meets its contract: putting what is left of the number in front of a place gives, from the output so far, what all k digits
-- give from the first one. Assumes nothing.
use mathlib.Core.Path.{◌≡◌, sym, ap, ◌∙◌}
use Prim.Native.Nat.{ℕ, ◌+◌, ◌-◌}
use lib.Seq.{sets}
use native.Mathlib.Omega.{arith}
use Rattle.print.specs.Print.{digits_of}
use Rattle.print.proofs.StoreLaws.{digits_store}
use Rattle.print.proofs.inner.put_digits.Goals as goal

pub loop-i-init : goal.loop-i-init
loop-i-init c =
    let a = c.args in
    let e : a.at + a.k - a.at ≡ a.k = omega arith in
    record { behind = omega arith; same = ap (λ (x : ℕ). sets a.out.now a.at (digits_of x a.n)) e }

pub loop-i-preserved : goal.loop-i-preserved
loop-i-preserved c =
    let l = c.loop-i in
    record { behind = omega arith; same = digits_store l.out c.args.at l.i l.rest c.loop-i-test.true ∙ l.invariant.same }

pub returns : goal.returns
unfolding digits_of
returns c =
    let l = c.loop-i in
    let z : l.i - c.args.at ≡ 0 = omega arith in
    sym (ap (λ (x : ℕ). sets l.out c.args.at (digits_of x l.rest)) z) ∙ l.invariant.same
