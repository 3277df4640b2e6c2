-- `check_run` meets its contract: its tests are those of `run_refusal`, in the same order. Assumes nothing.
use Prim.Native.Nat.{◌<◌, ◌≤◌}
use mathlib.Core.Path.{sym, ap, ◌∙◌}
use native.Mathlib.Omega.{arith}
use lib.ListN.{length}
use borrow.Author.Tests.{lt-ltb, le-ltb, ne_eqb}
use Rattle.bits.specs.Refusals.{done, or_else, first_refusal}
use Rattle.bits.proofs.RefusalLaws.{handed_on, number_ne}
use Rattle.reader.specs.Cursor.{bits_left}
use Rattle.reader.proofs.CursorLaws.{refusal_own}
use Rattle.layout.specs.declared.inner.size.Size.{Size}
use Rattle.layout.specs.Layout.{bits_of}
use Rattle.plan.specs.Run.{fields_of, run_refusal}
use Rattle.plan.proofs.RunLaws.{bits_decide}
use Rattle.plan.proofs.inner.check_run.Goals as goal

pub returns-then-plan-gt-LONGEST : goal.returns-then-plan-gt-LONGEST
unfolding run_refusal first_refusal or_else
returns-then-plan-gt-LONGEST c = rw (lt-ltb _ _ c.if-plan-gt-LONGEST.true)

pub returns-in_err-check : goal.returns-in_err-check
unfolding run_refusal first_refusal or_else
returns-in_err-check c =
    rw (handed_on _ _ c.from_residual.ensures.1, le-ltb _ _ c.if-plan-gt-LONGEST.false, ← c.in_err-check.ensures, ne_eqb _ done (number_ne c.in_err-check.field-0.0))

pub returns-then-not-is_plan : goal.returns-then-not-is_plan
unfolding run_refusal first_refusal or_else
returns-then-not-is_plan c =
    rw (le-ltb _ _ c.if-plan-gt-LONGEST.false, ← c.in_ok-check.ensures, ← c.is_plan.ensures, c.if-not-is_plan.true)

pub measure-size-requires : goal.measure-size-requires
measure-size-requires c = sym c.is_plan.ensures ∙ c.if-not-is_plan.false

pub returns-then-room-size : goal.returns-then-room-size
unfolding run_refusal first_refusal or_else
returns-then-room-size c =
    let cramped : c.args.room < length (fields_of c.args.plan.now) = omega (arith, ap (λ (x : Size). x.fields) c.measure-size.ensures, c.if-room-size.true) in
    rw (le-ltb _ _ c.if-plan-gt-LONGEST.false, ← c.in_ok-check.ensures, ← c.is_plan.ensures, c.if-not-is_plan.false, lt-ltb _ _ cramped)

pub bits_left-requires : goal.bits_left-requires
bits_left-requires c = (refusal_own (sym c.in_ok-check.ensures)).fits

pub returns-then-bits_left-size : goal.returns-then-bits_left-size
returns-then-bits_left-size c =
    let a = c.args in
    let fits : length (fields_of a.plan.now) ≤ a.room = omega (arith, ap (λ (x : Size). x.fields) c.measure-size.ensures, c.if-room-size.false) in
    let few : bits_left a.src.now a.cursor < bits_of (fields_of a.plan.now) = omega (arith, ap (λ (x : Size). x.bits) c.measure-size.ensures, c.bits_left.ensures, c.if-bits_left-size.true) in
    sym (bits_decide _ _ _ _ _ c.if-plan-gt-LONGEST.false (sym c.in_ok-check.ensures) (sym c.is_plan.ensures ∙ c.if-not-is_plan.false) fits ∙ rw (lt-ltb _ _ few))

pub returns : goal.returns
returns c =
    let a = c.args in
    let fits : length (fields_of a.plan.now) ≤ a.room = omega (arith, ap (λ (x : Size). x.fields) c.measure-size.ensures, c.if-room-size.false) in
    let enough : bits_of (fields_of a.plan.now) ≤ bits_left a.src.now a.cursor = omega (arith, ap (λ (x : Size). x.bits) c.measure-size.ensures, c.bits_left.ensures, c.if-bits_left-size.false) in
    sym (bits_decide _ _ _ _ _ c.if-plan-gt-LONGEST.false (sym c.in_ok-check.ensures) (sym c.is_plan.ensures ∙ c.if-not-is_plan.false) fits ∙ rw (le-ltb _ _ enough))
