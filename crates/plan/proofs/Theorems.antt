-- The theorems of running: a compiled layout is run to its fields' values, and that is what reading field by field gives.
use Prim.Native.Nat.{ℕ, ◌+◌, ◌<◌, ◌≤◌}
use mathlib.Core.Path.{◌≡◌, refl, sym, ap, ◌∙◌, subst}
use mathlib.Core.Bool.{true, cond}
use mathlib.Core.List.{List}
use native.Mathlib.Omega.{arith}
use lib.ListN.{length, take, drop, get_or}
use lib.Seq.{sets}
use lib.Dec.{ltb}
use borrow.Author.Tests.{lt-ltb, ltb-true, ltb-false}
use Rattle.bits.specs.declared.Order.{Order}
use Rattle.bits.specs.Refusals.{done, too_few}
use Rattle.bits.specs.Field.{field}
use Rattle.reader.specs.declared.Cursor.{Cursor}
use Rattle.reader.specs.Cursor.{place, bits_left, cursor_refusal}
use Rattle.reader.specs.Answers.{Moved, moved}
use Rattle.reader.proofs.CursorLaws.{own_done, gone_place, gone_own}
use Rattle.layout.specs.Layout.{Item, item, are_layout, bits_of}
use Rattle.layout.specs.Plan.{compile}
use Rattle.layout.proofs.LayoutLaws.{layout_of}
use Rattle.bits.proofs.StoreLaws.{front_drop, front_at}
use Rattle.bits.proofs.TestLaws.{by_test}
use Rattle.bits.proofs.RefusalLaws.{if_done_lem}
use Rattle.plan.specs.Run.{pattern_of, values_of, run_refusal, run_of, run_out}
use Rattle.plan.specs.FieldReads.{read_fields}
use Rattle.plan.proofs.RunLaws.{granted, run_refused}
use Rattle.plan.proofs.ValueLaws.{length_values, value_at}
use Rattle.plan.proofs.FieldReadLaws.{read_all, read_few}
use Rattle.plan.proofs.CompiledLaws.{compiled_refusal, compiled_done, compiled_ran}

-- a run that is done answers a cursor that belongs to the slice
pub run-belongs : (o : Order) (s : List ℕ) (c : Cursor) (plan : List ℕ) (room : ℕ) → run_refusal o s c plan room ≡ done → cursor_refusal o s (run_of o s c plan room).cursor ≡ done
unfolding run_of
run-belongs o s c plan room z =
    let g = granted o s c plan room z in
    subst (λ (d : Cursor). cursor_refusal o s d ≡ done) (if_done_lem refl _ _ z) (own_done (gone_own o s c g.belongs g.inside))

-- a layout fs, a cursor c that belongs to the slice s, and results out with room
module _ (o : Order) (s : List ℕ) (c : Cursor) (fs : List Item) (out : List ℕ) (layout : are_layout fs ≡ true) (own : cursor_refusal o s c ≡ done) (room : length fs ≤ length out) where
  -- a run is refused by 9 exactly if fewer bits are left than the fields take, and is done otherwise
  pub compile-run_refusal : (run_of o s c (compile fs) (length out)).refusal ≡ cond (ltb (bits_left s c) (bits_of fs)) too_few done
  unfolding run_of
  compile-run_refusal = compiled_refusal o s c fs out layout own room

  -- with too few bits, the cursor and the results are as they were
  pub compile-run_short : bits_left s c < bits_of fs → (run_of o s c (compile fs) (length out) ≡ moved too_few c) × (run_out o s c (compile fs) out ≡ out)
  compile-run_short few =
      let e : run_refusal o s c (compile fs) (length out) ≡ too_few = compiled_refusal o s c fs out layout own room ∙ rw (lt-ltb (bits_left s c) (bits_of fs) few) in
      let (answer, results) = run_refused o s c (compile fs) out (sym e) (λ z. omega arith) in
      (sym answer, sym results)

  -- reading field by field is refused exactly if running is, and by the same number
  pub run_reads_refusal : (run_of o s c (compile fs) (length out)).refusal ≡ (read_fields o s c fs).refusal
  run_reads_refusal =
      let good = (layout_of fs layout).1 in
      compile-run_refusal
      ∙ by_test (ltb (bits_left s c) (bits_of fs))
      (λ t. rw t (sym (read_few o s c fs own good (ltb-true _ _ t))))
      (λ t. rw t (sym (read_all o s c fs own good (ltb-false _ _ t)).accepted))

  module _ (enough : bits_of fs ≤ bits_left s c) where
    -- with enough bits, the run is done, the results are the values of the fields, and the new cursor is where the last field ends
    pub compile-run :
        ((run_of o s c (compile fs) (length out)).refusal ≡ done) × (run_out o s c (compile fs) out ≡ sets out 0 (values_of o s (place c) fs))
        × (place (run_of o s c (compile fs) (length out)).cursor ≡ place c + bits_of fs)
    compile-run =
        let (answer, results) = compiled_ran o s c fs out layout own room enough in (
          sym (ap (λ (m : Moved). m.refusal) answer),
          sym results,
          sym (ap (λ (m : Moved). place m.cursor) answer) ∙ gone_place o s c (place c + bits_of fs),
        )

    -- the new cursor belongs to the slice
    pub compile-run-belongs : cursor_refusal o s (run_of o s c (compile fs) (length out)).cursor ≡ done
    compile-run-belongs = run-belongs o s c (compile fs) (length out) (compiled_done o s c fs out layout own room enough)

    -- reading field by field gives the values of the fields, and a cursor where the last field ends
    pub fields_read : ((read_fields o s c fs).values ≡ values_of o s (place c) fs) × (place (read_fields o s c fs).cursor ≡ place c + bits_of fs)
    fields_read = let all = read_all o s c fs own (layout_of fs layout).1 enough in (all.values, all.ahead)

    -- so running gives what reading field by field gives
    pub run_reads :
        (run_out o s c (compile fs) out ≡ sets out 0 (read_fields o s c fs).values)
        × (place (run_of o s c (compile fs) (length out)).cursor ≡ place (read_fields o s c fs).cursor)
    run_reads =
        let (values, end) = fields_read in
        let (_, results, ahead) = compile-run in
        (results ∙ ap (sets out 0) (sym values), ahead ∙ sym end)

    -- result i is the value of field i, which lies behind the fields before it
    pub field_value :
        (i : ℕ) → i < length fs →
        let f = get_or fs i (item 0 0) in
        get_or (run_out o s c (compile fs) out) i 0 ≡ pattern_of f.kind f.width (field o s (place c + bits_of (take i fs)) f.width)
    field_value i h =
        let n = length_values o s (place c) fs in
        ap (λ (l : List ℕ). get_or l i 0) compile-run.1 ∙ front_at (values_of o s (place c) fs) out (omega arith) i (omega arith)
        ∙ value_at o s (place c) fs i h

    -- the results behind those of the fields are untouched
    pub others_kept : drop (length fs) (run_out o s c (compile fs) out) ≡ drop (length fs) out
    others_kept =
        let n = length_values o s (place c) fs in
        ap (drop (length fs)) compile-run.1 ∙ (rw n at (front_drop (values_of o s (place c) fs) out (omega arith)))
