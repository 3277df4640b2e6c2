-- Laws of runs: what decides their refusal, what one that is not refused may rely on, and the answer either way.
use Prim.Native.Nat.{ℕ, ◌+◌, ◌*◌, ◌≤◌}
use mathlib.Core.Path.{◌≡◌, sym, ◌∙◌}
use mathlib.Core.Bool.{true, false}
use mathlib.Core.List.{List}
use native.Mathlib.Omega.{arith}
use lib.ListN.{length}
use lib.Seq.{sets}
use lib.Dec.{ltb}
use borrow.Author.Tests.{le-ltb}
use Rattle.std.specs.Prelude.{Result, Ok, Err}
use Rattle.std.specs.Result.{is_err}
use Rattle.bits.specs.declared.Order.{Order}
use Rattle.bits.specs.declared.Refusal.{Refusal}
use Rattle.bits.specs.Refusals.{number_of, longest, done, too_few, or_else, ◌⟶◌, first_refusal}
use Rattle.bits.proofs.RefusalLaws.{passed, test_held, at_most, if_refused, if_done_lem, answer_refused, answer_done}
use Rattle.reader.specs.declared.Cursor.{Cursor}
use Rattle.reader.specs.Cursor.{place, stop, bits_left, gone_to, cursor_refusal, Own}
use Rattle.reader.proofs.CursorLaws.{left_stop, refusal_own, stop-inside}
use Rattle.reader.specs.Answers.{moved}
use Rattle.layout.specs.Layout.{bits_of}
use Rattle.layout.specs.Check.{is_plan}
use Rattle.layout.proofs.LayoutLaws.{layout_of}
use Rattle.layout.proofs.Theorems.{plan_layout}
use Rattle.plan.specs.Run.{values_of, fields_of, run_refusal, Clear, run_of, run_out}

-- a plan has at most 64 fields
pub plan_few : (plan : List ℕ) → is_plan plan ≡ true → length (fields_of plan) ≤ 64
plan_few plan e = (layout_of (fields_of plan) (plan_layout plan e).0).0

-- a test of the cursor that is no refusal: it is not refused
pub own_told : {A : Type 0} (r : Result A Refusal) {n : ℕ} → number_of r ≡ n → is_err r ≡ false → n ≡ done
own_told (Ok x) e h = sym e
own_told (Err f) e h = absurd (let z : ◌≡◌ true false = h in cc)

-- ---- what decides

module _ (o : Order) (s : List ℕ) (c : Cursor) (plan : List ℕ) (room : ℕ) (short : length plan ≤ longest) (own : cursor_refusal o s c ≡ done) (e : is_plan plan ≡ true) (fits : length (fields_of plan) ≤ room) where
  -- where the cursor belongs, the plan is one, and there is room, the bits left decide
  pub bits_decide : run_refusal o s c plan room ≡ (ltb (bits_left s c) (bits_of (fields_of plan)) ⟶ too_few)
  unfolding run_refusal first_refusal or_else
  bits_decide = rw (le-ltb _ _ short, own, e, le-ltb _ _ fits)

  -- and nothing is refused where the fields end at the stop or before
  pub not_refused : place c + bits_of (fields_of plan) ≤ stop s c → run_refusal o s c plan room ≡ done
  not_refused inside =
      let enough : bits_of (fields_of plan) ≤ bits_left s c = omega (arith, inside, left_stop (refusal_own own).fits) in
      bits_decide ∙ rw (le-ltb _ _ enough)

-- ---- what a run that is not refused may rely on

-- the cursor belongs, the plan is one, there are room and bits for its fields, and they end at the stop or before
pub record Granted (o : Order) (s : List ℕ) (c : Cursor) (plan : List ℕ) (room : ℕ) : Type 0 where
  pub belongs : Own o s c
  pub passes : is_plan plan ≡ true
  pub fits : length (fields_of plan) ≤ room
  pub enough : bits_of (fields_of plan) ≤ bits_left s c
  pub inside : place c + bits_of (fields_of plan) ≤ stop s c

pub granted : (o : Order) (s : List ℕ) (c : Cursor) (plan : List ℕ) (room : ℕ) → run_refusal o s c plan room ≡ done → Granted o s c plan room
unfolding run_refusal
granted o s c plan room z =
    let (_, (own, (passes, (fits, few)))) = passed _ z in
    let h = refusal_own own in
    let enough = at_most _ _ _ few in
    record { belongs = h; passes = test_held _ _ passes; fits = at_most _ _ _ fits; enough = enough; inside = omega (arith, enough, left_stop h.fits) }

-- so may one in one go
module _ {o : Order} {s : List ℕ} {c : Cursor} {plan : List ℕ} {p : ℕ} (clear : Clear o s c plan p) where
  pub clear_short : length s ≤ longest
  clear_short = (refusal_own clear.own).fits.short

  pub clear_inside : p + 64 * length plan + 64 ≤ 8 * length s
  clear_inside = omega (arith, clear.ahead, stop-inside (refusal_own clear.own).fits)

  -- what got through is not refused
  pub clear_done :
      {room : ℕ} → is_plan plan ≡ true → length (fields_of plan) ≤ room → p + bits_of (fields_of plan) ≤ p + 64 * length plan →
      run_refusal o s c plan room ≡ done
  clear_done {room} passes fits within =
      not_refused o s c plan room (omega (arith, clear.steps)) clear.own passes fits (omega (arith, within, clear.ahead, clear.at))

-- ---- answers

module _ (o : Order) (s : List ℕ) (c : Cursor) (plan out : List ℕ) {e : ℕ} (found : e ≡ run_refusal o s c plan (length out)) where
  -- with a refusal, the cursor and the results are as they were
  pub run_refused : (e ≡ done → ⊥) → (moved e c ≡ run_of o s c plan (length out)) × (out ≡ run_out o s c plan out)
  unfolding run_of run_out
  run_refused h = (answer_refused found moved _ _ h, if_refused found _ _ h)

  -- and else the cursor is where the last field ends, and the results are the fields' patterns
  pub run-done :
      e ≡ done → {d : Cursor} → d ≡ gone_to o s c (place c + bits_of (fields_of plan)) →
      {r : List ℕ} → r ≡ sets out 0 (values_of o s (place c) (fields_of plan)) →
      (moved done d ≡ run_of o s c plan (length out)) × (r ≡ run_out o s c plan out)
  unfolding run_of run_out
  run-done z p q = (answer_done found moved _ _ z p, q ∙ if_done_lem found _ _ z)
