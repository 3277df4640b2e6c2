-- Laws of answers: what refuses them, and what an output with room holds.
use Prim.Native.Nat.{ℕ, ◌<◌, ◌≤◌}
use mathlib.Core.Path.{◌≡◌, refl, sym, ap, ap₂, ◌∙◌}
use mathlib.Core.Bool.{Bool, true, false, cond}
use mathlib.Core.List.{List}
use lib.ListN.{length, take}
use lib.Seq.{sets, length-sets}
use lib.Dec.{eqb, ltb}
use native.Mathlib.Omega.{arith}
use borrow.Author.Tests.{lt-ltb, le-ltb, eqb-true}
use Rattle.std.specs.Prelude.{Result, Ok, Err}
use Rattle.std.specs.Result.{IsOk}
use Rattle.bits.specs.declared.Refusal.{Refusal}
use Rattle.bits.specs.Refusals.{longest, done, too_long, no_room, or_else, first_refusal, if_done, LengthTold, length_told}
use Rattle.bits.proofs.StoreLaws.{front_take}
use Rattle.bits.proofs.RefusalLaws.{number_ne}
use Rattle.text.specs.Text.{text_of}
use Rattle.text.specs.Answers.{list_refusal, list_of, list_out}
use Rattle.jobs.specs.Jobs.{most_taken, too_long_said, list_answer}
use Rattle.jobs.specs.Answers.{answer_refusal, answered_of, answered_out}

-- an answer of two parts
abbrev pub answered : ℕ → ℕ → LengthTold
answered e n = record { refusal = e; length = n }

-- what a job answers and leaves for an answer x
abbrev pub Done : List ℕ → List ℕ → LengthTold → List ℕ → Type 0
Done x out r last = (r ≡ answered_of x (length out)) × (last ≡ answered_out x out)

module _ (x out : List ℕ) where
  pub out_long : longest < length out → Done x out (answered too_long 0) out
  unfolding answered_of answered_out answer_refusal first_refusal or_else
  out_long h = let e = lt-ltb longest (length out) h in (rw e, rw e)

  module _ (short : length out ≤ longest) where
    pub out_short : length out < length x → Done x out (answered no_room 0) out
    unfolding answered_of answered_out answer_refusal first_refusal or_else
    out_short h =
        let e = le-ltb longest (length out) short in
        let f = lt-ltb (length out) (length x) h in
        (rw (e, f), rw (e, f))

    pub has_room : length x ≤ length out → {n : ℕ} {last : List ℕ} → n ≡ length x → last ≡ sets out 0 x → Done x out (answered done n) last
    unfolding answered_of answered_out answer_refusal first_refusal or_else
    has_room h e f = rw (le-ltb longest (length out) short, le-ltb (length out) (length x) h) (ap (answered done) e, f)

    -- where there is room, the job is not refused
    module _ (h : length x ≤ length out) (r : Result ℕ Refusal) (e : length_told r ≡ answered_of x (length out)) where
      told_done : length_told r ≡ answered done (length x)
      told_done = e ∙ sym (has_room h {last = sets out 0 x} refl refl).0

      pub told_whole : IsOk r
      told_whole = by r told_done
        where
          by : (r : Result ℕ Refusal) → length_told r ≡ answered done (length x) → IsOk r
          by (Ok n) d = refl
          by (Err f) d = absurd (number_ne f (ap (λ (a : LengthTold). a.refusal) d))

      -- and the answer is what stands at the front, as long as it is told
      pub whole_answer : {last : List ℕ} → last ≡ answered_out x out → {n : ℕ} → r ≡ Ok n → (n ≤ length last) × (take n last ≡ x)
      whole_answer {last} f {n} k =
          let size : n ≡ length x = ap (λ (a : LengthTold). a.length) (sym (ap length_told k) ∙ told_done) in
          let put : last ≡ sets out 0 x = f ∙ sym (has_room h {n = length x} {last = sets out 0 x} refl refl).1 in
          let l : length last ≡ length out = ap length put ∙ length-sets out 0 x in
          (omega arith, ap₂ (λ (k : ℕ) (u : List ℕ). take k u) size put ∙ front_take x out h)

-- a call that gives x where the refusals of x are none, and else the refusal alone, does the job
pub done_alike : {A : Type 0} (told : A → LengthTold) (out : List ℕ) {x made last : List ℕ} {e : ℕ} {a b r : A}
    → e ≡ answer_refusal x (length out) → made ≡ x → told a ≡ answered done (length made) → told b ≡ answered e 0
    → r ≡ if_done e a b → last ≡ if_done e (sets out 0 made) out → Done x out (told r) last
unfolding answered_of answered_out
done_alike told out {x} {made} {last} {e} {a} {b} {r} p same da db er el =
    rw (sym p, sym same) (ap told er ∙ by (eqb e done) refl, el)
  where
    by : (t : Bool) → eqb e done ≡ t → told (cond t a b) ≡ answered e (cond t (length made) 0)
    by true z = da ∙ ap (λ (k : ℕ). answered k (length made)) (sym (eqb-true e done z))
    by false z = db

-- ---- the list job

-- the outcome of listing is told as a job's
pub listed_answered : (r : Result ℕ Refusal) → length_told r ≡ answered (length_told r).refusal (length_told r).length
listed_answered (Ok n) = refl
listed_answered (Err e) = refl

module _ (s : List ℕ) where
  pub list_long : most_taken < length s → list_answer s ≡ too_long_said
  unfolding list_answer
  list_long h = rw (lt-ltb most_taken (length s) h)

  module _ (h : length s ≤ most_taken) where
    pub list_short : list_answer s ≡ text_of s
    unfolding list_answer
    list_short = rw (le-ltb most_taken (length s) h)

    -- the text's own answer is the job's
    pub list_done : (out : List ℕ) {l : LengthTold} {last : List ℕ} → l ≡ list_of s (length out) → last ≡ list_out s out
        → Done (list_answer s) out (answered l.refusal l.length) last
    unfolding list_of list_out list_refusal answered_of answered_out answer_refusal first_refusal or_else
    list_done out e f =
        let k : ltb longest (length s) ≡ false = le-ltb longest (length s) (omega arith) in
        rw list_short (ap (λ (x : LengthTold). answered x.refusal x.length) e ∙ rw k, f ∙ rw k)
