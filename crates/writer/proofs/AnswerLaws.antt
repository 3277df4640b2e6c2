-- Laws of refusals and answers: what a call that is done has tested, and what a call answers and leaves behind, refused or done.
use mathlib.Core.Path.{◌≡◌, refl, sym, ap, ◌∙◌}
use mathlib.Core.Bool.{and-false}
use mathlib.Core.List.{List}
use Prim.Native.Nat.{ℕ, ◌+◌, ◌*◌, ◌%◌, ◌^◌, ◌<◌, ◌≤◌}
use native.Mathlib.Nat.{mod-one}
use native.Mathlib.Omega.{arith}
use lib.IntN.{ℤ}
use lib.ListN.{length}
use borrow.Author.Tests.{le-ltb, lt-leb}
use Rattle.bits.specs.declared.Order.{Order}
use Rattle.std.specs.Prelude.{Result, Ok, Err}
use Rattle.bits.specs.declared.Refusal.{Refusal}
use Rattle.bits.specs.Refusals.{done, retired_kind, or_else, first_refusal, if_done, number}
use Rattle.bits.proofs.RefusalLaws.{or_else-behind, passed, all_pass, test_failed, at_most, number_ne, if_refused, if_done_lem, answer_refused, answer_done}
use Rattle.packing.specs.declared.State.{State}
use Rattle.packing.specs.Packing.{Belongs, state_refusal, put, put_out}
use Rattle.packing.proofs.BelongsLaws.{refusal_belongs, belongs_refusal}
use Rattle.packing.proofs.PutLaws.{put_none, put_none_out}
use Rattle.writer.specs.declared.Writer.{Writer}
use Rattle.writer.specs.Writer.{state_in, writer_with, bits_written, writer_refusal, oversized, room_refusal, write_refusal, signed_refusal, single_refusal, bytes_refusal, padding}
use Rattle.writer.specs.Answers.{Wrote, wrote_told, wrote}
use Rattle.writer.proofs.WidthLaws.{fits_width}

-- the refusal of a writer is that of its state, which the code takes out of it
pub own_refusal : (len : ℕ) {w : Writer} {c : State} {e : ℕ} → c ≡ state_in w → e ≡ state_refusal len c → writer_refusal len w ≡ e
own_refusal len p q = sym (q ∙ ap (state_refusal len) p)

-- ---- tests that were passed

-- a writer that belongs to an output of len bytes and has room for n bits more
pub record Room (len : ℕ) (w : Writer) (n : ℕ) : Type 0 where
  pub belongs : Belongs len (state_in w)
  pub enough : bits_written w + n ≤ 8 * len

module _ (len : ℕ) (w : Writer) where
  pub write_passed : (n v : ℕ) → write_refusal len w n v ≡ done → (n ≤ 64) × Room len w n
  unfolding write_refusal
  write_passed n v z =
      let (of, (narrow, (_, room))) = passed _ z in
      (at_most _ _ _ narrow, record { belongs = refusal_belongs len (state_in w) of; enough = at_most _ _ _ room })

  -- and the value fits a width that is not 0
  pub write_fits : (n v : ℕ) → write_refusal len w n v ≡ done → 1 ≤ n → v < 2 ^ 64 → v < 2 ^ n
  unfolding write_refusal
  write_fits n v z some hv = let (_, (narrow, (fits, _))) = passed _ z in fits_width n v some (at_most _ _ _ narrow) hv (test_failed _ _ fits)

  pub signed_passed : (n : ℕ) (z : ℤ) → signed_refusal len w n z ≡ done → (n ≤ 64) × Room len w n
  unfolding signed_refusal
  signed_passed n _ z =
      let (of, (narrow, room)) = passed _ z in
      (at_most _ _ _ narrow, record { belongs = refusal_belongs len (state_in w) of; enough = at_most _ _ _ room })

  -- a single never passes
  pub single_never : single_refusal len w ≡ done → ⊥
  unfolding single_refusal
  single_never z = let (_, (_, never)) = passed _ z in omega (arith, never)

  -- it is refused as any 32 bits are, and with 16 where these are written
  pub single_refused : (v : ℕ) → v < 2 ^ 32 → single_refusal len w ≡ or_else (write_refusal len w 32 v) retired_kind
  unfolding single_refusal write_refusal oversized first_refusal or_else
  single_refused v h = rw (lt-leb (2 ^ 32) v h) (or_else-behind (writer_refusal len w) (room_refusal len w 32) retired_kind)

  pub bytes_passed : (n : ℕ) → bytes_refusal len w n ≡ done → Room len w (8 * n)
  unfolding bytes_refusal
  bytes_passed n z = let (_, (of, room)) = passed _ z in record { belongs = refusal_belongs len (state_in w) of; enough = at_most _ _ _ room }

  -- a flush always has room
  pub flush_passed : writer_refusal len w ≡ done → Room len w (padding w)
  flush_passed z = let h = refusal_belongs len (state_in w) z in record { belongs = h; enough = omega arith }

  -- with room, a value below 2 to its width is written
  pub write_accepted : (n v : ℕ) → n ≤ 64 → v < 2 ^ n → Room len w n → write_refusal len w n v ≡ done
  unfolding write_refusal oversized
  write_accepted n v h l r =
      all_pass _ (
        belongs_refusal len (state_in w) r.belongs,
        (rw (le-ltb 64 n h), (simp (lt-leb (2 ^ n) v l, and-false), rw (le-ltb (8 * len) (bits_written w + n) r.enough))),
      )

-- ---- answers

-- an answer of two parts
abbrev reply : ℕ → Writer → Wrote
reply e w = record { refusal = e; writer = w }

-- of a call with the refusal number e: a refusal leaves writer and output as they came
module _ (w : Writer) (s : List ℕ) where
  pub refused : {r : Result Writer Refusal} {f : Refusal} {e : ℕ} → r ≡ Err f → number f ≡ e → (c : State) (t : List ℕ)
      → (wrote_told w r ≡ wrote e w c) × (s ≡ if_done e t s)
  refused {f = f} p told c t = rw p (answer_refused told reply (writer_with c) w (number_ne f), if_refused told t s (number_ne f))

  -- done leaves the writer with the state c, and the output t
  pub answered : {v : Writer} {e : ℕ} {u t : List ℕ} {c d : State} → done ≡ e → v ≡ writer_with d → d ≡ c → u ≡ t
      → (wrote_told w (Ok v) ≡ wrote e w c) × (u ≡ if_done e t s)
  answered {t = t} {c = c} told p f q = (answer_done told reply _ _ refl (p ∙ ap writer_with f), q ∙ if_done_lem told t s refl)

-- no bits put leave writer and output as they came
module _ (o : Order) (s : List ℕ) (w : Writer) (h : Belongs (length s) (state_in w)) where
  nothing_put : {n v : ℕ} → n ≡ 0 → v ≡ 0 → (state_in w ≡ put o (state_in w) n v) × (s ≡ put_out o s (state_in w) n v)
  nothing_put e f = rw (e, f) (sym (put_none o (state_in w) h.small h.few), sym (put_none_out o (state_in w) h.small h.few s))

  -- at width 0
  pub write_nothing : (n v : ℕ) → n ≡ 0 → (state_in w ≡ put o (state_in w) n (v % 2 ^ n)) × (s ≡ put_out o s (state_in w) n (v % 2 ^ n))
  write_nothing n v e = nothing_put e (ap (λ (k : ℕ). v % 2 ^ k) e ∙ mod-one v)

  -- where no bit is held, so that there is nothing to pad
  pub flush_nothing : w.held ≤ 0 → (w ≡ writer_with (put o (state_in w) (padding w) 0)) × (s ≡ put_out o s (state_in w) (padding w) 0)
  flush_nothing l =
      let e : padding w ≡ 0 = omega arith in
      let p = nothing_put e refl in
      (ap writer_with p.0, p.1)
