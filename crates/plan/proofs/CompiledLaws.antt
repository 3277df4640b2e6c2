-- Laws of running a compiled layout, from a cursor that belongs, into results with room.
use Prim.Native.Nat.{ℕ, ◌+◌, ◌≤◌}
use mathlib.Core.Path.{◌≡◌, refl, sym, ◌∙◌}
use mathlib.Core.Bool.{true, cond}
use mathlib.Core.List.{List}
use native.Mathlib.Omega.{arith}
use lib.ListN.{length}
use lib.Seq.{sets}
use lib.Dec.{ltb}
use borrow.Author.Tests.{le-ltb}
use Rattle.bits.specs.declared.Order.{Order}
use Rattle.bits.specs.Refusals.{longest, done, too_few}
use Rattle.reader.specs.declared.Cursor.{Cursor}
use Rattle.reader.specs.Cursor.{place, bits_left, gone_to, cursor_refusal}
use Rattle.reader.specs.Answers.{moved}
use Rattle.layout.specs.Layout.{Item, are_layout, bits_of}
use Rattle.layout.specs.Plan.{compile}
use Rattle.layout.proofs.LayoutLaws.{layout_of}
use Rattle.layout.proofs.Theorems.{compiled_passes, decode_compiled, plan_length}
use Rattle.plan.specs.Run.{values_of, fields_of, run_refusal, run_of, run_out}
use Rattle.plan.proofs.RunLaws.{bits_decide, run-done}

module _ (o : Order) (s : List ℕ) (c : Cursor) (fs : List Item) (out : List ℕ) (layout : are_layout fs ≡ true) (own : cursor_refusal o s c ≡ done) (room : length fs ≤ length out) where
  -- the plan's fields are the layout's
  same_fields : fields_of (compile fs) ≡ fs
  same_fields = decode_compiled fs (layout_of fs layout).1

  -- the bits left decide
  pub compiled_refusal : run_refusal o s c (compile fs) (length out) ≡ cond (ltb (bits_left s c) (bits_of fs)) too_few done
  compiled_refusal =
      let plan = compile fs in
      let passes = compiled_passes fs layout in
      let short : length plan ≤ longest = omega (arith, plan_length plan passes) in
      let fits : length (fields_of plan) ≤ length out = rw same_fields room in
      bits_decide o s c plan (length out) short own passes fits ∙ rw same_fields

  module _ (enough : bits_of fs ≤ bits_left s c) where
    pub compiled_done : run_refusal o s c (compile fs) (length out) ≡ done
    compiled_done = compiled_refusal ∙ rw (le-ltb (bits_left s c) (bits_of fs) enough)

    pub compiled_ran :
        (moved done (gone_to o s c (place c + bits_of fs)) ≡ run_of o s c (compile fs) (length out))
        × (sets out 0 (values_of o s (place c) fs) ≡ run_out o s c (compile fs) out)
    compiled_ran = run-done o s c (compile fs) out (sym compiled_done) refl (rw same_fields) (rw same_fields)
