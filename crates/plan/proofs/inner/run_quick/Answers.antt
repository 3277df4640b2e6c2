-- `run_quick` meets its contract: where it runs, nothing would be refused. Assumes nothing.
use Prim.Native.Nat.{ℕ, ◌+◌, ◌*◌, ◌≤◌}
use mathlib.Core.Path.{◌≡◌, ap, ◌∙◌}
use mathlib.Core.Bool.{true}
use mathlib.Core.List.{List}
use native.Mathlib.Omega.{arith}
use lib.ListN.{length}
use lib.Seq.{sets}
use Rattle.std.specs.Prelude.{Option, Some, None, IfSome, MatchOption}
use Rattle.bits.specs.declared.Order.{Order}
use Rattle.bits.specs.Refusals.{done}
use Rattle.reader.specs.declared.Cursor.{Cursor}
use Rattle.reader.specs.Cursor.{place}
use Rattle.layout.specs.Layout.{bits_of}
use Rattle.layout.specs.Check.{is_plan}
use Rattle.plan.specs.Run.{values_of, fields_of, run_refusal, Clear}
use Rattle.plan.proofs.RunLaws.{clear_short, clear_inside, clear_done}
use Rattle.plan.proofs.inner.run_quick.Goals as goal

-- what `run_narrow` ensures, said of the cursor's place
module _ {o : Order} {s : List ℕ} {c : Cursor} {plan : List ℕ} {p : ℕ} (clear : Clear o s c plan p) (out : List ℕ) where
  ran :
      (r : Option ℕ) →
      IfSome r (λ end. (is_plan plan ≡ true) × (length (fields_of plan) ≤ length out) × (end ≡ p + bits_of (fields_of plan)) × (end ≤ p + 64 * length plan)) →
      IfSome r (λ end. (run_refusal o s c plan (length out) ≡ done) × (end ≡ place c + bits_of (fields_of plan)))
  ran None h = h
  ran (Some end) (passes, fits, at, within) = (clear_done clear passes fits (omega (arith, at, within)), omega (arith, at, clear.at))

  wrote :
      (new : List ℕ) (r : Option ℕ) → MatchOption r (new ≡ out) (λ end. new ≡ sets out 0 (values_of o s p (fields_of plan))) →
      MatchOption r (new ≡ out) (λ end. new ≡ sets out 0 (values_of o s (place c) (fields_of plan)))
  wrote new None h = h
  wrote new (Some end) h = h ∙ ap (λ (q : ℕ). sets out 0 (values_of o s q (fields_of plan))) clear.at

pub run_narrow-requires : goal.run_narrow-requires
run_narrow-requires c = let clear = c.in_ok-place.ensures in (clear_short clear, clear.steps, clear_inside clear)

pub run_narrow-requires-in-Big : goal.run_narrow-requires-in-Big
run_narrow-requires-in-Big c = let clear = c.in_ok-place.ensures in (clear_short clear, clear.steps, clear_inside clear)

pub returns-in-Little : goal.returns-in-Little
returns-in-Little c =
    let narrow = c.run_narrow.ensures in
    record {
      answer = ran c.in_ok-place.ensures _ _ narrow.answer;
      memory = wrote c.in_ok-place.ensures _ _ _ (rw (← c.in-Little.is) at narrow.memory);
    }

pub returns-in-Big : goal.returns-in-Big
returns-in-Big c =
    let narrow = c.run_narrow-in-Big.ensures in
    record {
      answer = ran c.in_ok-place.ensures _ _ narrow.answer;
      memory = wrote c.in_ok-place.ensures _ _ _ (rw (← c.in-Big.is) at narrow.memory);
    }
