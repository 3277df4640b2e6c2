-- `run_narrow` meets its contract: what was read is put where there is room for it. Assumes nothing.
use Prim.Native.Nat.{ℕ, ◌≤◌}
use mathlib.Core.List.{List, ◌++◌}
use mathlib.Core.Path.{sym, ap, ◌∙◌}
use native.Mathlib.Omega.{arith}
use lib.ListN.{length, drop}
use Rattle.std.proofs.Common.{length-take-le}
use Rattle.plan.specs.Run.{values_of, fields_of}
use Rattle.plan.proofs.RunLaws.{plan_few}
use Rattle.plan.proofs.ValueLaws.{front_copied, length_values}
use Rattle.plan.proofs.inner.run_narrow.Goals as goal

pub slice_bounds-values-end : goal.slice_bounds-values-end
slice_bounds-values-end c =
    let (passes, fields, _, _) = c.in_ok-read.ensures.answer in
    omega (arith, fields, plan_few c.args.plan.now passes)

pub slice_bounds-copy_from_slice-end-3 : goal.slice_bounds-copy_from_slice-end-3
slice_bounds-copy_from_slice-end-3 c =
    let (passes, fields, _, _) = c.in_ok-read.ensures.answer in
    let many : c.in_ok-read.read.fields ≤ length c.read_narrow.new.values = omega (arith, fields, plan_few c.args.plan.now passes) in
    sym (length-take-le _ _ many)

pub copy_from_slice-requires : goal.copy_from_slice-requires
copy_from_slice-requires c =
    let (passes, fields, _, _) = c.in_ok-read.ensures.answer in
    let many : c.in_ok-read.read.fields ≤ length c.read_narrow.new.values = omega (arith, fields, plan_few c.args.plan.now passes) in
    length-take-le _ _ c.if-results-n.false ∙ sym (length-take-le _ _ many)

pub returns-clause-memory : goal.returns-clause-memory
returns-clause-memory c =
    let a = c.args in
    let (passes, fields, _, _) = c.in_ok-read.ensures.answer in
    let many = length_values a.order a.src.now a.place (fields_of a.plan.now) in
    let few = plan_few a.plan.now passes in
    ap (λ (l : List ℕ). l ++ drop c.in_ok-read.read.fields a.results.now) c.copy_from_slice.ensures.after
    ∙ front_copied a.results.now _ (values_of a.order a.src.now a.place (fields_of a.plan.now)) c.in_ok-read.ensures.memory (fields ∙ sym many) (omega (arith, many, few)) (omega (arith, many, fields, c.if-results-n.false))
