-- `fields` is safe: what `decode` wrote are the bytes of the plan's layout, and `measure` has its size. Assumes nothing.
use Prim.Native.Nat.{ℕ, ◌*◌, ◌≤◌}
use mathlib.Core.Path.{◌≡◌, refl, sym, ap, subst, ◌∙◌}
use mathlib.Core.Bool.{true}
use mathlib.Core.List.{List}
use native.Mathlib.Omega.{arith}
use lib.ListN.{length, take}
use lib.Seq.{sets, length-sets}
use Rattle.layout.specs.declared.inner.size.Size.{Size}
use Rattle.layout.specs.Bytes.{bytes_of}
use Rattle.layout.proofs.LayoutLaws.{length_bytes}
use Rattle.layout.specs.Check.{is_plan}
use Rattle.layout.proofs.Theorems.{plan_layout, bytes_items, bytes_layout}
use Rattle.plan.specs.Run.{fields_of}
use Rattle.plan.proofs.RunLaws.{plan_few}
use Rattle.bits.proofs.StoreLaws.{front_take}
use Rattle.bench.proofs.plans.fields.Goals as goal

-- what `decode` wrote, read back
written :
    (plan zeros : List ℕ) {layout : List ℕ} {n : ℕ} → is_plan plan ≡ true → 128 ≤ length zeros → n ≡ 2 * length (fields_of plan) →
    layout ≡ sets zeros 0 (bytes_of (fields_of plan)) → take n layout ≡ bytes_of (fields_of plan)
written plan zeros passes room many made =
    let fs = fields_of plan in
    let few : length (bytes_of fs) ≤ length zeros = omega (arith, length_bytes fs, plan_few plan passes) in
    rw (many, made, ← length_bytes fs) (front_take (bytes_of fs) zeros few)

pub measure-size-requires : goal.measure-size-requires
measure-size-requires g c = sym c.is_plan.ensures ∙ c.if-is_plan.true

pub slice_bounds-decode-end : goal.slice_bounds-decode-end
slice_bounds-decode-end g c = refl

pub decode-n-requires : goal.decode-n-requires
decode-n-requires g c = (sym c.is_plan.ensures ∙ c.if-is_plan.true, omega arith)

pub slice_bounds-space-end : goal.slice_bounds-space-end
slice_bounds-space-end g c =
    let few = plan_few c.args.plan.now (sym c.is_plan.ensures ∙ c.if-is_plan.true) in
    rw (c.decode-n.ensures.memory, length-sets) (omega (arith, c.decode-n.ensures.answer))

pub slice_bounds-over-end : goal.slice_bounds-over-end
slice_bounds-over-end g c =
    let decoded = c.decode-n.ensures in
    let passes = sym c.is_plan.ensures ∙ c.if-is_plan.true in
    decoded.answer ∙ sym (ap length (written c.args.plan.now _ passes (omega arith) decoded.answer decoded.memory) ∙ length_bytes _)

pub over-requires : goal.over-requires
over-requires g c =
    let decoded = c.decode-n.ensures in
    let passes = sym c.is_plan.ensures ∙ c.if-is_plan.true in
    let sized = c.measure-size.ensures in
    let room = subst (λ (z : Size). z.fields ≤ length c.args.results.now) sized c.if-results-size.false in
    rw (written c.args.plan.now _ passes (omega arith) decoded.answer decoded.memory, bytes_items, bytes_layout)
    (c.if-src-gt-LONGEST.false, (plan_layout _ passes).0, sym (ap (λ (z : Size). z.bits) sized), room)
