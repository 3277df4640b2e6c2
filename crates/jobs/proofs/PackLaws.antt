-- Laws of the pack job: what its answer is, and that the text's own answer is the job's, but for a bad line.
use Prim.Native.Nat.{ℕ, ◌+◌, ◌<◌, ◌≤◌}
use mathlib.Core.Path.{◌≡◌, sym, ap, ◌∙◌}
use mathlib.Core.Bool.{Bool, true, false, ◌&&◌}
use mathlib.Core.List.{List}
use lib.ListN.{length}
use lib.Dec.{ltb, eqb}
use native.Mathlib.Omega.{arith}
use borrow.Author.Tests.{lt-ltb, le-ltb, ltb-true}
use Rattle.bits.specs.Refusals.{longest, too_long, bad_line, no_room, ◌⟶◌, or_else, first_refusal}
use Rattle.bits.proofs.TestLaws.{both, by_test}
use Rattle.strip.specs.Strip.{strip_bytes}
use Rattle.strip.proofs.StripLaws.{length_strip}
use Rattle.text.specs.Text.{header, headed, body_of, bad_line_of}
use Rattle.text.specs.Answers.{Packed, pack_refusal, pack_of, pack_out}
use Rattle.jobs.specs.Jobs.{most_taken, too_long_said, bad_line_said, pack_answer}
use Rattle.jobs.specs.Answers.{answer_refusal, answered_of, answered_out}
use Rattle.jobs.proofs.AnswerLaws.{answered, Done, out_long}
use Rattle.jobs.proofs.MessageLaws.{bad_line_bytes, bad_line_is, numbered_few}
use Rattle.jobs.proofs.RoomLaws.{body_long}

-- no answer is refused as a bad row is
pub refusal_few : (x : List ℕ) (len : ℕ) → answer_refusal x len ≤ no_room
unfolding answer_refusal first_refusal or_else
refusal_few x len = by (ltb longest len) (ltb len (length x))
  where
    by : (a b : Bool) → or_else (a ⟶ too_long) (b ⟶ no_room) ≤ no_room
    by true b = omega arith
    by false true = omega arith
    by false false = omega arith

-- or as a bad line is
never_bad : (x : List ℕ) (len : ℕ) → answer_refusal x len ≡ bad_line → ⊥
unfolding answer_refusal first_refusal or_else
never_bad x len = by (ltb longest len) (ltb len (length x))
  where
    by : (a b : Bool) → or_else (a ⟶ too_long) (b ⟶ no_room) ≡ bad_line → ⊥
    by true b e = omega arith
    by false true e = omega arith
    by false false e = omega arith

module _ (t : List ℕ) where
  -- whether the text packs
  abbrev good : Bool
  good = headed header t && (body_of t).good

  pub pack_long : most_taken < length t → pack_answer t ≡ too_long_said
  unfolding pack_answer
  pack_long h = rw (lt-ltb most_taken (length t) h)

  module _ (h : length t ≤ most_taken) where
    pub pack_good : good ≡ true → pack_answer t ≡ strip_bytes (body_of t).records
    unfolding pack_answer
    pack_good e = rw (le-ltb most_taken (length t) h, e)

    pub pack_bad : good ≡ false → pack_answer t ≡ bad_line_said (bad_line_of t)
    unfolding pack_answer
    pack_bad e = rw (le-ltb most_taken (length t) h, e)

    short : ltb longest (length t) ≡ false
    short = le-ltb longest (length t) (omega arith)

    good_refusal : (len : ℕ) → good ≡ true → pack_refusal t len ≡ answer_refusal (strip_bytes (body_of t).records) len
    unfolding pack_refusal answer_refusal first_refusal or_else
    good_refusal len e = let (a, b) = both {a = headed header t} {b = (body_of t).good} e in rw (short, a, b, length_strip (body_of t).records)

    bad_refusal : (len : ℕ) → good ≡ false → ltb longest len ≡ false → pack_refusal t len ≡ bad_line
    unfolding pack_refusal first_refusal or_else
    bad_refusal len e k =
        by_test (headed header t)
        (λ a. let b : (body_of t).good ≡ false = ap (λ (x : Bool). x && (body_of t).good) (sym a) ∙ e in rw (short, k, a, b))
        (λ a. rw (short, k, a))

    long_refusal : (len : ℕ) → ltb longest len ≡ true → pack_refusal t len ≡ too_long
    unfolding pack_refusal first_refusal or_else
    long_refusal len k = rw (short, k)

    module _ (out : List ℕ) {p : Packed} (e : p ≡ pack_of t (length out)) where
      refusal_is : p.refusal ≡ pack_refusal t (length out)
      unfolding pack_of
      refusal_is = ap (λ (x : Packed). x.refusal) e

      -- a bad line is told, and nothing was written
      pub pack_said : p.refusal ≡ bad_line → (pack_answer t ≡ bad_line_said p.line) × (pack_out t out ≡ out)
      unfolding pack_of pack_out
      pack_said z =
          let r : pack_refusal t (length out) ≡ bad_line = sym refusal_is ∙ z in
          let bad : good ≡ false = by_test good (λ g. absurd (never_bad _ _ (sym (good_refusal (length out) g) ∙ r))) (λ g. g) in
          let line : p.line ≡ bad_line_of t = ap (λ (x : Packed). x.line) e ∙ rw r in
          (pack_bad bad ∙ ap bad_line_said (sym line), rw r)

      -- what tells no line tells no bad line
      pub no_line : p.line ≡ 0 → p.refusal ≡ bad_line → ⊥
      unfolding pack_of
      no_line l z =
          let r : pack_refusal t (length out) ≡ bad_line = sym refusal_is ∙ z in
          let line : p.line ≡ bad_line_of t = ap (λ (x : Packed). x.line) e ∙ rw r in
          by_test (headed header t)
          (λ a. let n : bad_line_of t ≡ length (body_of t).records + 2 = rw a in omega arith)
          (λ a. let n : bad_line_of t ≡ 1 = rw a in omega arith)

      module _ {last : List ℕ} (f : last ≡ pack_out t out) where
        -- a good text's answer is the job's
        done_good : good ≡ true → Done (pack_answer t) out (answered p.refusal p.length) last
        unfolding pack_of pack_out answered_of answered_out
        done_good g =
            let r = good_refusal (length out) g in
            rw (pack_good g) (ap (λ (x : Packed). answered x.refusal x.length) e ∙ rw (r, length_strip (body_of t).records), f ∙ rw r)

        -- and so is the refusal of an output past the limit
        done_long : ltb longest (length out) ≡ true → Done (pack_answer t) out (answered p.refusal p.length) last
        unfolding pack_of pack_out
        done_long k =
            let r = long_refusal (length out) k in
            let (told, made) = out_long (pack_answer t) out (ltb-true _ _ k) in
            let a : answered p.refusal p.length ≡ answered too_long 0 = ap (λ (x : Packed). answered x.refusal x.length) e ∙ rw r in
            let b : last ≡ out = f ∙ rw r in
            (a ∙ told, b ∙ made)

        -- what is not refused as a bad line is one of them
        pub pack_done : (p.refusal ≡ bad_line → ⊥) → Done (pack_answer t) out (answered p.refusal p.length) last
        pack_done n =
            let neither : good ≡ false → ltb longest (length out) ≡ false → ⊥ = λ g k. n (refusal_is ∙ bad_refusal (length out) g k) in
            by_test good done_good (λ g. by_test (ltb longest (length out)) done_long (λ k. absurd (neither g k)))

-- the number of a bad line is small
pub bad_line_small : (t : List ℕ) → bad_line_of t ≤ length t + 2
bad_line_small t =
    let a = body_long t in
    by_test (headed header t)
    (λ e. let n : bad_line_of t ≡ length (body_of t).records + 2 = rw e in omega arith)
    (λ e. let n : bad_line_of t ≡ 1 = rw e in omega arith)

pub line_few : (t : List ℕ) (len : ℕ) {p : Packed} → p ≡ pack_of t len → p.line ≤ length t + 2
unfolding pack_of
line_few t len {p} e =
    let a = bad_line_small t in
    let l = ap (λ (x : Packed). x.line) e in
    by_test (eqb (pack_refusal t len) bad_line)
    (λ b. let m : p.line ≡ bad_line_of t = l ∙ rw b in omega arith)
    (λ b. let m : p.line ≡ 0 = l ∙ rw b in omega arith)

-- how long an answer can be for a text that is taken
pub pack_few : (t : List ℕ) → length t ≤ most_taken → length (pack_answer t) ≤ 28024
pack_few t h =
    let few = body_long t in
    let k = bad_line_small t in
    let message = numbered_few bad_line_bytes (bad_line_of t) (omega arith) in
    let strip = length_strip (body_of t).records in
    by_test (headed header t && (body_of t).good)
    (λ g. let a = ap length (pack_good t h g) in omega arith)
    (λ g. let a = ap length (pack_bad t h g ∙ bad_line_is (bad_line_of t)) in omega arith)
