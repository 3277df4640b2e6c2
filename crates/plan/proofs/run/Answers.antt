-- `run` meets its contract: in one go where `run_quick` gets through; else it reads only if nothing is refused, and then every field from
-- the cursor's place on. Assumes nothing.
use mathlib.Core.Path.{refl, sym, ap, ◌∙◌}
use native.Mathlib.Omega.{arith}
use Rattle.bits.proofs.RefusalLaws.{handed_on, number_ne}
use Rattle.reader.specs.Cursor.{gone_to}
use Rattle.reader.proofs.CursorLaws.{stop-inside}
use Rattle.plan.proofs.RunLaws.{granted, run_refused, run-done}
use Rattle.plan.proofs.run.Goals as goal

-- ---- in one go

pub gone_to-requires : goal.gone_to-requires
gone_to-requires c =
    let (accepted, end) = c.in-Some.ensures.answer in
    let r = granted _ _ _ _ _ accepted in
    (omega (arith, end, r.inside, stop-inside r.belongs.fits), r.belongs.fits.short)

pub returns-in-Some : goal.returns-in-Some
returns-in-Some c =
    let a = c.args in
    let (accepted, end) = c.in-Some.ensures.answer in
    let (answer, out) = run-done _ _ _ _ _ (sym accepted) refl (c.gone_to.ensures ∙ ap (gone_to a.order a.src.now a.cursor) end) c.in-Some.ensures.memory in
    record { answer = answer; memory = out }

-- ---- step by step

pub returns-in_err-check_run : goal.returns-in_err-check_run
returns-in_err-check_run c =
    let same = c.in_default.ensures.memory in
    let (answer, out) = run_refused _ _ _ _ _ (rw same at c.in_err-check_run.ensures) (number_ne _) in
    record { answer = rw (handed_on _ _ c.from_residual.ensures.1) answer; memory = same ∙ out }

pub place_of-place-requires : goal.place_of-place-requires
place_of-place-requires c = (granted _ _ _ _ _ (sym c.in_ok-check_run.ensures)).belongs.fits

pub run_plan-end-requires : goal.run_plan-end-requires
run_plan-end-requires c =
    let r = granted _ _ _ _ _ (sym c.in_ok-check_run.ensures) in
    (r.belongs.fits.short, r.passes, omega (arith, c.place_of-place.ensures, r.inside, stop-inside r.belongs.fits), r.fits)

pub gone_to-requires-2 : goal.gone_to-requires-2
gone_to-requires-2 c =
    let r = granted _ _ _ _ _ (sym c.in_ok-check_run.ensures) in
    (omega (arith, c.run_plan-end.ensures.answer, c.place_of-place.ensures, r.inside, stop-inside r.belongs.fits), r.belongs.fits.short)

pub returns : goal.returns
returns c =
    let a = c.args in
    let same = c.in_default.ensures.memory in
    let end = c.gone_to-2.ensures ∙ ap (gone_to a.order a.src.now a.cursor) (rw c.place_of-place.ensures at c.run_plan-end.ensures.answer) in
    let put = rw (c.place_of-place.ensures, same) at c.run_plan-end.ensures.memory in
    let (answer, out) = run-done _ _ _ _ _ (rw same at c.in_ok-check_run.ensures) refl end put in
    record { answer = answer; memory = out }
