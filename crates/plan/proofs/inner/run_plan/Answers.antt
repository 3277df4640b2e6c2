-- `run_plan` meets its contract: what `decode` wrote are the bytes of the plan's layout, and `fields` reads its fields. Assumes nothing.
use Prim.Native.Nat.{ℕ, ◌*◌, ◌≤◌}
use mathlib.Core.Path.{◌≡◌, refl, sym, ap, ◌∙◌}
use mathlib.Core.Bool.{true}
use mathlib.Core.List.{List}
use native.Mathlib.Omega.{arith}
use lib.ListN.{length, take}
use lib.Seq.{sets, length-sets}
use Rattle.layout.specs.Bytes.{bytes_of}
use Rattle.layout.specs.Check.{is_plan}
use Rattle.layout.proofs.LayoutLaws.{length_bytes}
use Rattle.layout.proofs.Theorems.{plan_layout, bytes_items, bytes_layout}
use Rattle.plan.specs.Run.{fields_of}
use Rattle.plan.proofs.RunLaws.{plan_few}
use Rattle.bits.proofs.StoreLaws.{front_take}
use Rattle.plan.proofs.inner.run_plan.Goals as goal

-- what `decode` wrote, read back
written :
    (plan zeros : List ℕ) {layout : List ℕ} {n : ℕ} → is_plan plan ≡ true → 128 ≤ length zeros → n ≡ 2 * length (fields_of plan) →
    layout ≡ sets zeros 0 (bytes_of (fields_of plan)) → take n layout ≡ bytes_of (fields_of plan)
written plan zeros passes room many made =
    let fs = fields_of plan in
    let few : length (bytes_of fs) ≤ length zeros = omega (arith, length_bytes fs, plan_few plan passes) in
    rw (many, made, ← length_bytes fs) (front_take (bytes_of fs) zeros few)

pub slice_bounds-decode-end : goal.slice_bounds-decode-end
slice_bounds-decode-end c = refl

pub decode-n-requires : goal.decode-n-requires
decode-n-requires c = (c.requires.1, omega arith)

pub slice_bounds-space-end : goal.slice_bounds-space-end
slice_bounds-space-end c =
    let few = plan_few c.args.plan.now c.requires.1 in
    rw (c.decode-n.ensures.memory, length-sets) (omega (arith, c.decode-n.ensures.answer))

pub slice_bounds-fields-end : goal.slice_bounds-fields-end
slice_bounds-fields-end c =
    let decoded = c.decode-n.ensures in
    decoded.answer ∙ sym (ap length (written c.args.plan.now _ c.requires.1 (omega arith) decoded.answer decoded.memory) ∙ length_bytes _)

pub fields-requires : goal.fields-requires
fields-requires c =
    let decoded = c.decode-n.ensures in
    rw (written c.args.plan.now _ c.requires.1 (omega arith) decoded.answer decoded.memory, bytes_items, bytes_layout)
    (c.requires.0, (plan_layout _ c.requires.1).0, c.requires.2, c.requires.3)

pub returns : goal.returns
returns c =
    let decoded = c.decode-n.ensures in
    let wrote = written c.args.plan.now _ c.requires.1 (omega arith) decoded.answer decoded.memory in
    record {
      answer = rw (wrote, bytes_items) at c.fields.ensures.answer;
      memory = rw (wrote, bytes_items) at c.fields.ensures.memory;
    }
