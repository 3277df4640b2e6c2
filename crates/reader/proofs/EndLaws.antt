-- Laws of the end: it moves by `lower_end` alone; where it is the slice's, every refusal and count is that of the state; and reading up to it
-- is reading the slice cut there.
use Prim.Native.Nat.{ℕ, ◌*◌, ◌/◌, ◌%◌, ◌≤◌}
use mathlib.Core.Path.{◌≡◌, refl, sym, ap, ◌∙◌, subst}
use mathlib.Core.Bool.{false}
use mathlib.Core.List.{List, [], ◌∷◌}
use native.Mathlib.Omega.{arith}
use lib.ListN.{length, drop}
use lib.Seq.{take-length, slice}
use lib.Dec.{eqb, ltb}
use borrow.Author.Tests.{le-ltb, eq-eqb, eqb-true, eqb-false}
use Rattle.bits.specs.declared.Order.{Order}
use Rattle.bits.specs.Refusals.{longest, done, too_long, too_wide, too_few, foreign, past_lookahead, bad_end, or_else, ◌⟶◌, first_refusal, if_done}
use Rattle.bits.proofs.RefusalLaws.{or_else-first, or_else_second, all_pass, if_done_lem}
use Rattle.bits.proofs.TestLaws.{by_test}
use Rattle.counts.specs.declared.Counts.{Counts}
use Rattle.counts.specs.Counts as C
use Rattle.counts.proofs.CountLaws.{left_place}
use Rattle.lookahead.specs.State.{state_refusal}
use Rattle.lookahead.proofs.StateLaws.{refusal_belongs}
use Rattle.floats.proofs.FloatLaws.{cond_either}
use Rattle.reader.specs.declared.Cursor.{Cursor}
use Rattle.reader.specs.Cursor.{state_in, counts_in, ending_at, place, stop, cursor_at, bits_left, bytes_left, unfetched, ahead_in, cursor_refusal}
use Rattle.reader.proofs.CursorLaws.{refusal_own, own_done, at_stop}
use Rattle.reader.specs.Answers.{ReadTold, read_refusal, read_of, bytes_refusal, bytes_of, bytes_out, manual_refusal, peek_of, consume_of, refill_of, remainder_refusal, start_of, remainder_of, lower_refusal, lower_of}
use Rattle.reader.proofs.AnswerLaws.{lower_granted}
use Rattle.reader.proofs.ReadLaws.{read_done, read_value, bytes_octets}

-- ---- the end stays

module _ (o : Order) (s : List ℕ) (c : Cursor) where
  -- where a refusal decides between a cursor gone on and the one that came
  pub stop_stays : (e : ℕ) (d : Cursor) → stop s d ≡ stop s c → stop s (if_done e d c) ≡ stop s c
  stop_stays e d same = cond_either (λ (x : Cursor). stop s x ≡ stop s c) (eqb e done) (λ t. same) (λ t. refl)

  pub read_stop : (w : ℕ) → stop s (read_of o s c w).cursor ≡ stop s c
  unfolding read_of
  read_stop w = cond_either (λ (r : ReadTold ℕ). stop s r.cursor ≡ stop s c) (eqb (read_refusal o s c w) done) (λ t. at_stop o s c _) (λ t. refl)

  pub read_end : (w : ℕ) → (read_of o s c w).cursor.end ≡ c.end
  unfolding stop
  read_end = read_stop

  pub bytes_stop : (n : ℕ) → stop s (bytes_of o s c n).cursor ≡ stop s c
  unfolding bytes_of
  bytes_stop n = stop_stays (bytes_refusal o s c n) (cursor_at o s c (C.after_bytes (length s) n (counts_in c))) (at_stop o s c _)

  pub consume_stop : (n : ℕ) → stop s (consume_of o s c n).cursor ≡ stop s c
  unfolding consume_of
  consume_stop n = stop_stays (manual_refusal o s c n) (cursor_at o s c (C.after_take n (counts_in c))) (at_stop o s c _)

  pub refill-stop : stop s (refill_of o s c).cursor ≡ stop s c
  unfolding refill_of
  refill-stop = stop_stays (cursor_refusal o s c) (cursor_at o s c (C.after_refill (length s) (counts_in c))) (at_stop o s c _)

  -- ---- a lower one

  pub lower_enough : (e : ℕ) → cursor_refusal o s c ≡ done → place c ≤ e → e ≤ stop s c → lower_refusal o s c e ≡ done
  unfolding lower_refusal stop
  lower_enough e own a b = all_pass _ (own, (rw (le-ltb _ _ b), rw (le-ltb _ _ a)))

  -- a cursor that belongs is refused with 13 alone
  pub lower_else : (e : ℕ) → cursor_refusal o s c ≡ done → (lower_refusal o s c e ≡ done → ⊥) → lower_refusal o s c e ≡ bad_end
  unfolding lower_refusal first_refusal or_else stop
  lower_else e own h =
      by_test (ltb c.end e) (λ t. rw (own, t))
      (λ t. by_test (ltb e (place c)) (λ u. rw (own, t, u)) (λ u. absurd (h (rw (own, t, u)))))

  module _ (e : ℕ) (z : lower_refusal o s c e ≡ done) where
    pub lower_done : (lower_of o s c e).cursor ≡ ending_at c e
    unfolding lower_of
    lower_done = sym (if_done_lem refl _ _ z)

    pub lower_within : (place c ≤ e) × (e ≤ stop s c)
    unfolding stop
    lower_within = let (h, low, reached) = lower_granted o s c e z in (reached, low)

    pub lower_stop : stop s (lower_of o s c e).cursor ≡ e
    unfolding stop
    lower_stop = ap (λ (d : Cursor). d.end) lower_done

    pub lower_place : place (lower_of o s c e).cursor ≡ place c
    lower_place = ap place lower_done

    -- the cursor with it belongs
    pub lower_belongs : cursor_refusal o s (lower_of o s c e).cursor ≡ done
    lower_belongs =
        let (h, low, reached) = lower_granted o s c e z in
        subst (λ (d : Cursor). cursor_refusal o s d ≡ done) (sym lower_done)
        (own_done
        (record {
          fits = record { short = h.fits.short; within = h.fits.within; reached = reached; stops = omega (arith, low, h.fits.stops) };
          holds = h.holds;
        }))

-- ---- done with two ends

module _ (o : Order) (s : List ℕ) (c : Cursor) (e : ℕ) where
  abbrev other : Cursor
  other = ending_at c e

  pub two_read : (w : ℕ) → read_refusal o s c w ≡ done → read_refusal o s other w ≡ done →
      ((read_of o s other w).value ≡ (read_of o s c w).value) × ((read_of o s other w).cursor ≡ ending_at (read_of o s c w).cursor e)
  unfolding cursor_at
  two_read w z y = (
    read_value o s other w y ∙ sym (read_value o s c w z),
    ap (λ (r : ReadTold ℕ). r.cursor) (read_done o s other w y) ∙ ap (λ (r : ReadTold ℕ). ending_at r.cursor e) (sym (read_done o s c w z)),
  )

  -- the cursor of a call that is done either way
  two_gone : (a b : ℕ) (k : Counts) → a ≡ done → b ≡ done → if_done b (cursor_at o s other k) other ≡ ending_at (if_done a (cursor_at o s c k) c) e
  unfolding cursor_at
  two_gone a b k z y = rw (z, y)

  pub two_bytes : (out : List ℕ) → bytes_refusal o s c (length out) ≡ done → bytes_refusal o s other (length out) ≡ done →
      (bytes_out o s other out ≡ bytes_out o s c out) × ((bytes_of o s other (length out)).cursor ≡ ending_at (bytes_of o s c (length out)).cursor e)
  unfolding bytes_of
  two_bytes out z y = (bytes_octets o s other out y ∙ sym (bytes_octets o s c out z), two_gone _ _ _ z y)

  pub two_peek : (n : ℕ) → manual_refusal o s c n ≡ done → manual_refusal o s other n ≡ done →
      (peek_of o s other n ≡ peek_of o s c n) × ((consume_of o s other n).cursor ≡ ending_at (consume_of o s c n).cursor e)
  unfolding peek_of consume_of
  two_peek n z y = (rw (z, y), two_gone _ _ _ z y)

  pub two_refill : cursor_refusal o s c ≡ done → cursor_refusal o s other ≡ done → (refill_of o s other).cursor ≡ ending_at (refill_of o s c).cursor e
  unfolding refill_of
  two_refill z y = two_gone _ _ _ z y

-- ---- the slice's own end

-- a table whose later rows refuse nothing that the first lets pass refuses as the first does
first_alone : (e f : ℕ) → (e ≡ done → f ≡ done) → or_else e f ≡ e
first_alone e f h =
    by_test (eqb e done)
    (λ t. let z = eqb-true e done t in or_else_second e f z ∙ h z ∙ sym z)
    (λ t. or_else-first e f (eqb-false e done t))

module _ (o : Order) (s : List ℕ) (c : Cursor) (whole : stop s c ≡ 8 * length s) where
  -- a cursor is refused as its state is, and so is a remainder
  pub whole_refusal : cursor_refusal o s c ≡ state_refusal o s (state_in c)
  unfolding cursor_refusal first_refusal or_else stop
  whole_refusal =
      first_alone (state_refusal o s (state_in c)) (or_else (ltb c.end (place c) ⟶ foreign) (ltb (8 * length s) c.end ⟶ foreign))
      (λ e.
      let h = refusal_belongs o s (state_in c) e in
      let reached : place c ≤ c.end = omega (arith, left_place h.within, whole) in
      let stops : c.end ≤ 8 * length s = omega (arith, whole) in
      rw (le-ltb _ _ reached, le-ltb _ _ stops))

  pub whole_remainder : remainder_refusal o s c ≡ cursor_refusal o s c
  unfolding remainder_refusal first_refusal stop
  whole_remainder = first_alone _ _ (λ e. let w : c.end % 8 ≡ 0 = omega (arith, whole) in rw (eq-eqb _ _ w))

  -- the part goes to the slice's end
  pub whole_part : cursor_refusal o s c ≡ done → remainder_of o s c ≡ drop (start_of o s c) s
  unfolding remainder_of stop
  whole_part own =
      let n : c.end / 8 ≡ length s = omega (arith, whole) in
      sym (if_done_lem refl _ _ (whole_remainder ∙ own)) ∙ ap (λ (k : ℕ). slice (start_of o s c) k s) n ∙ ap (drop (start_of o s c)) (take-length s)

  module _ (own : cursor_refusal o s c ≡ done) where
    pub whole_left : bits_left s c ≡ C.bits_left (length s) (counts_in c)
    unfolding bits_left stop
    whole_left = omega (arith, left_place (refusal_own own).fits.within, whole)

    pub whole_bytes : bytes_left s c ≡ C.bytes_left (length s) (counts_in c)
    unfolding bytes_left
    whole_bytes = omega (arith, whole_left)

    pub whole-unfetched : unfetched s c ≡ C.unfetched (length s) (counts_in c)
    unfolding unfetched stop
    whole-unfetched = omega (arith, whole)

    pub whole-ahead : ahead_in s c ≡ c.lookahead
    unfolding ahead_in
    whole-ahead = omega (arith, whole_left)

  -- what holds of a cursor that belongs, and of one that does not
  decided : {X : Type 0} → (cursor_refusal o s c ≡ done → X) → (eqb (cursor_refusal o s c) done ≡ false → X) → X
  decided f g = by_test (eqb (cursor_refusal o s c) done) (λ t. f (eqb-true _ _ t)) g

  -- so each table is that of the state
  pub whole_read : (w : ℕ) → read_refusal o s c w ≡
      first_refusal (state_refusal o s (state_in c) ∷ ltb 64 w ⟶ too_wide ∷ ltb (C.bits_left (length s) (counts_in c)) w ⟶ too_few ∷ [])
  unfolding read_refusal first_refusal or_else
  whole_read w = decided (λ own. rw (← whole_refusal, own, whole_left own) refl) (λ t. rw (← whole_refusal, t) refl)

  pub whole_fill : (n : ℕ) → bytes_refusal o s c n ≡
      first_refusal (ltb longest n ⟶ too_long ∷ state_refusal o s (state_in c) ∷ ltb (C.bytes_left (length s) (counts_in c)) n ⟶ too_few ∷ [])
  unfolding bytes_refusal first_refusal or_else
  whole_fill n = decided (λ own. rw (← whole_refusal, own, whole_bytes own) refl) (λ t. rw (← whole_refusal, t) refl)

  pub whole_manual : (n : ℕ) → manual_refusal o s c n ≡ first_refusal (state_refusal o s (state_in c) ∷ ltb c.lookahead n ⟶ past_lookahead ∷ [])
  unfolding manual_refusal first_refusal or_else
  whole_manual n = decided (λ own. rw (← whole_refusal, own, whole-ahead own) refl) (λ t. rw (← whole_refusal, t) refl)
