-- Laws of cursors: what a refusal tells, what is left up to the stop, and that a cursor gone on still belongs.
use Prim.Native.Nat.{ℕ, ◌+◌, ◌*◌, ◌≤◌}
use mathlib.Core.Path.{◌≡◌, refl, sym}
use mathlib.Core.Bool.{true, false, true≢false}
use mathlib.Core.List.{List}
use native.Mathlib.Omega.{arith}
use lib.ListN.{length}
use borrow.Author.Tests.{le-ltb}
use Rattle.std.specs.Prelude.{Result, Ok, Err}
use Rattle.std.specs.Result.{is_err}
use Rattle.bits.specs.declared.Order.{Order}
use Rattle.bits.specs.declared.Refusal.{Refusal}
use Rattle.bits.specs.Refusals.{done, number_of}
use Rattle.bits.proofs.RefusalLaws.{passed, all_pass, at_most, number_ne}
use Rattle.counts.specs.declared.Counts.{Counts}
use Rattle.counts.specs.Counts as C
use Rattle.counts.proofs.CountLaws as L
use Rattle.counts.proofs.PlaceLaws as P
use Rattle.lookahead.specs.State.{Belongs}
use Rattle.lookahead.proofs.StateLaws as S
use Rattle.reader.specs.declared.Cursor.{Cursor}
use Rattle.reader.specs.Cursor.{state_in, counts_in, place, stop, cursor_at, gone_to, bits_left, bytes_left, ahead_in, cursor_refusal, Fits, Own}

-- ---- what is left

module _ {s : List ℕ} {c : Cursor} (h : Fits s c) where
  -- the bits before the place and the bits left go up to the stop
  pub left_stop : place c + bits_left s c ≡ stop s c
  unfolding bits_left stop
  left_stop = omega (arith, h.reached)

  -- which is within the slice
  pub stop-inside : stop s c ≤ 8 * length s
  unfolding stop
  stop-inside = h.stops

  pub left_inside : place c + bits_left s c ≤ 8 * length s
  left_inside = omega (arith, left_stop, stop-inside)

  -- no more than the slice has behind the place
  pub left_le : bits_left s c ≤ C.bits_left (length s) (counts_in c)
  left_le = omega (arith, left_inside, L.left_place h.within)

  pub bytes_bits : {n : ℕ} → n ≤ bytes_left s c → 8 * n ≤ bits_left s c
  unfolding bytes_left
  bytes_bits a = omega arith

  pub bits_bytes : {n : ℕ} → 8 * n ≤ bits_left s c → n ≤ bytes_left s c
  unfolding bytes_left
  bits_bytes a = omega arith

  pub bytes_le : bytes_left s c ≤ C.bytes_left (length s) (counts_in c)
  unfolding bytes_left
  bytes_le = omega (arith, left_le)

  -- the lookahead is no more than what is left
  pub ahead_left : ahead_in s c ≤ bits_left s c
  unfolding ahead_in
  ahead_left = omega arith

  pub ahead-held : ahead_in s c ≤ c.lookahead
  unfolding ahead_in
  ahead-held = omega arith

-- ---- refusals

module _ {o : Order} {s : List ℕ} {c : Cursor} where
  pub own_state : Own o s c → Belongs o s (state_in c)
  own_state h = record { short = h.fits.short; within = h.fits.within; holds = h.holds }

  -- a cursor that is not refused belongs
  pub refusal_own : cursor_refusal o s c ≡ done → Own o s c
  unfolding cursor_refusal
  refusal_own e =
      let (own, (reached, stops)) = passed _ e in
      let h = S.refusal_belongs o s (state_in c) own in
      record {
        fits = record { short = h.short; within = h.within; reached = at_most _ _ _ reached; stops = at_most _ _ _ stops };
        holds = h.holds;
      }

  -- and one that belongs is not refused
  pub own_done : Own o s c → cursor_refusal o s c ≡ done
  unfolding cursor_refusal
  own_done h =
      all_pass _ (S.belongs_refusal o s (state_in c) (own_state h), (rw (le-ltb _ _ h.fits.reached), rw (le-ltb _ _ h.fits.stops)))

-- what a test tells by whether it is an error
module _ {A : Type 0} where
  pub told_refused : (r : Result A Refusal) → is_err r ≡ true → number_of r ≡ done → ⊥
  told_refused (Ok x) t z = true≢false (sym t)
  told_refused (Err e) t z = number_ne e z

  pub told_done : (r : Result A Refusal) → is_err r ≡ false → number_of r ≡ done
  told_done (Ok x) t = refl
  told_done (Err e) t = absurd (true≢false t)

-- ---- cursors gone on

module _ (o : Order) (s : List ℕ) (c : Cursor) where
  pub at_place : (k : Counts) → place (cursor_at o s c k) ≡ C.place k
  unfolding cursor_at
  at_place k = refl

  pub at_stop : (k : Counts) → stop s (cursor_at o s c k) ≡ stop s c
  unfolding cursor_at stop
  at_stop k = refl

  pub gone_place : (p : ℕ) → place (gone_to o s c p) ≡ p
  unfolding gone_to cursor_at
  gone_place p = P.at_place p

  pub gone_stop : (p : ℕ) → stop s (gone_to o s c p) ≡ stop s c
  unfolding gone_to cursor_at stop
  gone_stop p = refl

  module _ (h : Own o s c) where
    -- a cursor that belongs is the one with its counts
    pub own_at : cursor_at o s c (counts_in c) ≡ c
    unfolding cursor_at
    own_at = λ i. record { offset = c.offset; lookahead = c.lookahead; register = sym h.holds i; end = c.end }

    -- a cursor gone on to counts of the slice belongs, if they are not past the stop
    pub at_own : {k : Counts} → C.Within (length s) k → C.place k ≤ stop s c → Own o s (cursor_at o s c k)
    unfolding cursor_at stop
    at_own w a = record { fits = record { short = h.fits.short; within = w; reached = a; stops = h.fits.stops }; holds = refl }

    -- so does one gone on to a place that is not past it
    pub gone_own : {p : ℕ} → p ≤ stop s c → Own o s (gone_to o s c p)
    unfolding gone_to
    gone_own {p} a = at_own (P.at_within (omega (arith, a, stop-inside h.fits))) (omega (arith, a, P.at_place p))
