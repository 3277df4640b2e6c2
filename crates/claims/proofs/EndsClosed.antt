-- Each statement of specs/Ends.antt, by the laws of the reader: what a call adds to them stands here. Assumes nothing.
use Prim.Native.Nat.{ℕ, ◌+◌, ◌/◌, ◌≤◌}
use mathlib.Core.Path.{◌≡◌, refl, sym, ap, ap₂, ◌∙◌, subst}
use mathlib.Core.List.{List, [], ◌∷◌}
use native.Mathlib.Nat.{add-zero}
use native.Mathlib.Omega.{arith}
use lib.ListN.{length, take}
use lib.Seq.{sets}
use lib.Dec.{eqb}
use borrow.Author.Tests.{eqb-true}
use Rattle.bits.specs.declared.Order.{Order}
use Rattle.bits.specs.declared.Order.TheVariants.{Big}
use Rattle.bits.specs.Refusals.{done, if_done}
use Rattle.bits.proofs.RefusalLaws.{passed, at_most, if_refused, if_alike}
use Rattle.bits.proofs.TestLaws.{by_test}
use Rattle.bits.specs.Signed.{signed}
use Rattle.reader.specs.declared.Cursor.{Cursor}
use Rattle.reader.specs.Cursor.{place, stop, gone_to, bits_left, cursor_refusal, ending_at, Alike}
use Rattle.reader.specs.Answers as R
use Rattle.reader.specs.Answers.{moved}
use Rattle.reader.proofs.CursorLaws.{refusal_own, left_stop, gone_place}
use Rattle.reader.proofs.AnswerLaws.{read_refusal_lem}
use Rattle.reader.proofs.ReadLaws.{refill_advanced}
use Rattle.reader.proofs.EndLaws as E
use Rattle.reader.proofs.AlikeLaws as A
use Rattle.typed.specs.declared.Kind.{Kind}
use Rattle.typed.specs.declared.Typed.{Typed}
use Rattle.typed.specs.Typed.{width_of, meaning}
use Rattle.typed.specs.Answers as T
use Rattle.layout.specs.Layout.{Item, bits_of}
use Rattle.plan.proofs.RunLaws.{granted}
use Rattle.plan.specs.Run.{pattern_of, values_of, fields_of, run_refusal, run_of, run_out}
use Rattle.record.specs.Record.{record_bits}
use Rattle.strip.specs.Bits.{record_at}
use Rattle.strip.specs.Answers as S
use Rattle.claims.proofs.ReachedLaws.{called_belongs, called_stop}
use Rattle.claims.specs.Ends as C
use Rattle.claims.specs.Ends.{SameMove, SameTyped}

-- ---- what moves it

pub ends_stay : C.EndsStay
ends_stay o s c d x = (
  called_stop x,
  λ own.
      let z = called_belongs own x in
      let h = left_stop (refusal_own z).fits in
      (z, omega (arith, h)),
)

pub ends_lower : C.EndsLower
unfolding R.lower_of
ends_lower o s c e own = (
  (E.lower_within o s c e, λ h. E.lower_enough o s c e own h.0 h.1),
  λ z.
      let same = E.lower_done o s c e z in (
        λ i. moved (z i) (same i),
        ap (stop s) (sym same) ∙ E.lower_stop o s c e z,
        subst (λ (d : Cursor). cursor_refusal o s d ≡ done) same (E.lower_belongs o s c e z),
      ),
  λ h. λ i. moved (E.lower_else o s c e own h i) (sym (if_refused refl (ending_at c e) c h) i),
)

-- ---- what goes by it

pub slice_end : C.SliceEnd
slice_end o s c whole =
    let same = E.whole_refusal o s c whole in (
      same,
      E.whole_remainder o s c whole ∙ same,
      E.whole_read o s c whole,
      E.whole_fill o s c whole,
      E.whole_manual o s c whole,
      λ z.
          let own = same ∙ z in
          (E.whole_left o s c whole own, E.whole_bytes o s c whole own, E.whole-unfetched o s c whole own, E.whole-ahead o s c whole own, E.whole_part o s c whole own),
    )

pub ends_decide : C.EndsDecide
unfolding R.bytes_of R.peek_of R.refill_of
ends_decide o s c e = (
  λ w z y. E.two_read o s c e w (sym (read_refusal_lem o s c w) ∙ z) (sym (read_refusal_lem o s (ending_at c e) w) ∙ y),
  λ out z y. E.two_bytes o s c e out z y,
  λ n z y. E.two_peek o s c e n z y,
  λ z y. E.two_refill o s c e z y,
)

-- ---- nothing behind it is read

-- typed answers of one refusal and one value, with cursors at one place
typed_same : (e f : ℕ) (v w : Typed) (c d : Cursor) → e ≡ f → v ≡ w → place c ≡ place d → SameTyped (T.answered e v c) (T.answered f w d)
unfolding T.answered
typed_same e f v w c d same value gone =
    by_test (eqb e done) (λ u. rw (← same, u) (value, gone)) (λ u. rw (← same, u) (refl, gone))

-- a refill of a cursor that belongs
refill-done : (o : Order) (s : List ℕ) (c : Cursor) → cursor_refusal o s c ≡ done → (R.refill_of o s c).refusal ≡ done
unfolding R.refill_of
refill-done o s c own = own

refill-place : (o : Order) (s : List ℕ) (c : Cursor) → cursor_refusal o s c ≡ done → place (R.refill_of o s c).cursor ≡ place c
refill-place o s c own = (refill_advanced o s c own).ahead ∙ add-zero _

module _ (o : Order) (s : List ℕ) (c : Cursor) (t : List ℕ) (d : Cursor) (h : Alike o s c t d) where
  -- a plan's fields, and a record's
  alike_values : (p : ℕ) (fs : List Item) → p + bits_of fs ≤ stop s c → values_of o s p fs ≡ values_of o t p fs
  unfolding values_of bits_of
  alike_values p [] l = refl
  alike_values p (f ∷ fs) l =
      ap₂ (λ (v : ℕ) (vs : List ℕ). pattern_of f.kind f.width v ∷ vs) (A.alike_field o s c t d h p f.width (omega arith)) (alike_values (p + f.width) fs (omega arith))

  alike_run : (p : List ℕ) (room : ℕ) → run_refusal o s c p room ≡ run_refusal o t d p room
  unfolding run_refusal
  alike_run p room = rw (h.belongs, h.too, A.alike_left o s c t d h)

  alike_ran : (p out : List ℕ) → run_out o s c p out ≡ run_out o t d p out
  unfolding run_out
  alike_ran p out =
      if_alike (alike_run p (length out))
      (λ z. ap (sets out 0) (alike_values (place c) (fields_of p) (granted o s c p (length out) z).inside ∙ ap (λ (k : ℕ). values_of o t k (fields_of p)) h.here)) refl

  -- a cursor gone on by n bits, or the one that came
  alike_gone : (a b n : ℕ) → a ≡ b → place (if_done a (gone_to o s c (place c + n)) c) ≡ place (if_done b (gone_to o t d (place d + n)) d)
  alike_gone a b n same =
      by_test (eqb a done)
      (λ u. rw (← same, u) (gone_place o s c (place c + n) ∙ ap (λ (k : ℕ). k + n) h.here ∙ sym (gone_place o t d (place d + n))))
      (λ u. rw (← same, u) h.here)

  alike_moved : (p : List ℕ) (room : ℕ) → SameMove (run_of o s c p room) (run_of o t d p room)
  unfolding run_of
  alike_moved p room = (alike_run p room, alike_gone _ _ (bits_of (fields_of p)) (alike_run p room))

  -- the number of a read
  numbers : (w : ℕ) → (R.read_of o s c w).refusal ≡ (R.read_of o t d w).refusal
  numbers w = read_refusal_lem o s c w ∙ A.alike_refusal o s c t d h w ∙ sym (read_refusal_lem o t d w)

  -- a value of one kind
  alike_typed : (k : Kind) (w : ℕ) → SameTyped (T.read_of o s c k w) (T.read_of o t d k w)
  unfolding T.read_of
  alike_typed k w =
      let (value, gone) = A.alike_read o s c t d h (width_of k w) in
      typed_same _ _ _ _ _ _ (numbers (width_of k w)) (ap (meaning k w) value) gone

  alike_lowered : (e : ℕ) → SameMove (R.lower_of o s c e) (R.lower_of o t d e)
  unfolding R.lower_of
  alike_lowered e =
      let same = A.alike_lower o s c t d h e in
      (same, by_test (eqb (R.lower_refusal o s c e) done) (λ u. rw (← same, u) h.here) (λ u. rw (← same, u) h.here))

  alike_refills : SameMove (R.refill_of o s c) (R.refill_of o t d)
  alike_refills = (
    refill-done o s c h.belongs ∙ sym (refill-done o t d h.too),
    refill-place o s c h.belongs ∙ h.here ∙ sym (refill-place o t d h.too),
  )

-- a record
module _ (s : List ℕ) (c : Cursor) (t : List ℕ) (d : Cursor) (h : Alike Big s c t d) where
  record_refusal : S.read_refusal s c ≡ S.read_refusal t d
  unfolding S.read_refusal
  record_refusal = rw (h.belongs, h.too, A.alike_left Big s c t d h)

  record_there : S.read_refusal s c ≡ done → record_bits ≤ bits_left s c
  unfolding S.read_refusal
  record_there z = let (_, enough) = passed _ z in at_most _ _ _ enough

  record_same : record_bits ≤ bits_left s c → record_at s (place c) ≡ record_at t (place d)
  unfolding record_at
  record_same l =
      let left = left_stop (refusal_own h.belongs).fits in
      let f = A.alike_field Big s c t d h in
      let p = place c in
      let at : record_at s p ≡ record_at t p =
      λ i. record {
        star = f p 20 (omega (arith, l, left)) i;
        date = f (p + 20) 38 (omega (arith, l, left)) i;
        limit = f (p + 58) 1 (omega (arith, l, left)) i;
        magnitude = signed 16 (f (p + 59) 16 (omega (arith, l, left)) i);
        error = f (p + 75) 10 (omega (arith, l, left)) i;
        filter = f (p + 85) 4 (omega (arith, l, left)) i;
      } in
      at ∙ ap (record_at t) h.here

  alike_record :
      ((S.read_of s c).value ≡ (S.read_of t d).value)
      × SameMove (moved (S.read_of s c).refusal (S.read_of s c).cursor) (moved (S.read_of t d).refusal (S.read_of t d).cursor)
  unfolding S.read_of
  alike_record =
      by_test (eqb (S.read_refusal s c) done)
      (λ u.
      rw (← record_refusal, u) (
        record_same (record_there (eqb-true _ _ u)),
        (refl, gone_place Big s c (place c + record_bits) ∙ ap (λ (k : ℕ). k + record_bits) h.here ∙ sym (gone_place Big t d (place d + record_bits))),
      ))
      (λ u. rw (← record_refusal, u) (refl, (refl, h.here)))

pub answers_alike : C.AnswersAlike
unfolding R.bytes_of R.consume_of
answers_alike o s c t d h = (
  λ w. let (value, gone) = A.alike_read o s c t d h w in (value, (numbers o s c t d h w, gone)),
  alike_typed o s c t d h,
  λ out. (A.alike_out o s c t d h out, (A.alike_fill o s c t d h (length out), A.alike_bytes_place o s c t d h (length out))),
  λ p out. (alike_ran o s c t d h p out, alike_moved o s c t d h p (length out)),
  λ big. alike_record s c t d (subst (λ (q : Order). Alike q s c t d) big h),
  alike_lowered o s c t d h,
  A.alike_left o s c t d h,
  A.alike_bytes o s c t d h,
  (A.alike_start o s c t d h, A.alike_rest o s c t d h, A.alike_partial o s c t d h),
  (alike_refills o s c t d h, A.alike_refilled o s c t d h),
  λ held.
      (A.alike_unfetched o s c t d h held, λ n. let (gone, ahead) = A.alike_consume o s c t d h held n in (A.alike_peek o s c t d h held n, (A.alike_manual o s c t d h held n, gone), ahead)),
)

pub cut_there : C.CutThere
cut_there o s c own even =
    let t = take (stop s c / 8) s in
    let (belongs, here, whole) = A.cut_there o s c own even in
    (A.cut_alike o s c own even, (gone_to o t c (place c), belongs, here, whole))
