-- Calls one after the other: packing each record and flushing is packing the strip, and reading again and again gives the strip's records.
use mathlib.Core.Path.{◌≡◌, refl, sym, ap, ap₂, ◌∙◌, subst}
use mathlib.Core.List.{List, [], ◌∷◌}
use Prim.Native.Nat.{ℕ, zero, suc, ◌+◌, ◌*◌, ◌<◌, ◌≤◌}
use native.Mathlib.Nat.{zero-add}
use native.Mathlib.Omega.{arith}
use lib.ListN.{length}
use lib.Seq.{sets}
use borrow.Author.Tests.{lt-ltb, le-ltb}
use Rattle.bits.specs.declared.Order.TheVariants.{Big}
use Rattle.bits.specs.Refusals.{longest, done, too_few, or_else, first_refusal}
use Rattle.bits.proofs.RefusalLaws.{all_pass, if_done_lem}
use Rattle.packing.specs.declared.State.{State}
use Rattle.packing.specs.Packing.{put, put_out}
use Rattle.packing.proofs.BelongsLaws.{belongs_refusal}
use Rattle.reader.specs.declared.Cursor.{Cursor}
use Rattle.reader.specs.Cursor.{place, bits_left, gone_to, cursor_refusal}
use Rattle.reader.specs.Answers.{new_of, ReadTold}
use Rattle.reader.proofs.CursorLaws.{left_stop, refusal_own, own_done, gone_place, gone_stop}
use Rattle.reader.proofs.ReadLaws.{fresh_belongs, fresh_place, fresh_left}
use Rattle.writer.specs.declared.Writer.{Writer}
use Rattle.writer.specs.Writer.{writer_with, padding}
use Rattle.writer.specs.Answers as W
use Rattle.record.specs.declared.Record.{Record}
use Rattle.record.specs.Record.{record_bits}
use Rattle.record.proofs.FitLaws.{true-fits}
use Rattle.strip.specs.Bits.{bits_of, record_at}
use Rattle.strip.specs.Strip.{strip_length, strip_bytes, count_of}
use Rattle.strip.specs.Answers.{pack_refusal, pack_of, pack_out, read_refusal, read_of}
use Rattle.strip.specs.Calls.{Left, pack_each, read_times}
use Rattle.strip.proofs.AnswerLaws.{pack_done, flush_done, record_gone}
use Rattle.strip.proofs.MidwayLaws.{Midway, midway_fits, midway_room, midway_step, midway_length, midway_out}

-- ---- packing

-- a call that is done, and those behind it
pack_next : (s : List ℕ) (w : Writer) (r : Record) (rs : List Record) → pack_refusal (length s) w r ≡ done
    → pack_each s w (r ∷ rs) ≡ pack_each (pack_out s w r) (pack_of (length s) w r).writer rs
unfolding pack_each pack_of
pack_next s w r rs z = sym (if_done_lem refl _ _ z)

module _ (rs : List Record) (out₀ : List ℕ) (room : strip_length (length rs) ≤ length out₀) where
  -- the next record packs
  next_packs : (out : List ℕ) (c : State) (r : Record) (left : List Record) → Midway rs out₀ out c (r ∷ left) → pack_refusal (length out) (writer_with c) r ≡ done
  unfolding pack_refusal
  next_packs out c r left g =
      all_pass _
      (belongs_refusal (length out) c g.belongs, (rw (true-fits r (midway_fits rs out₀ out c r left g)), rw (le-ltb _ _ (midway_room rs out₀ out c r left g room))))

  -- nothing was refused, and a flush gives the strip
  abbrev pub Packs : Left → Type 0
  Packs e =
      (e.refusal ≡ done)
      × ((W.flush_of Big (length out₀) e.writer).refusal ≡ done)
      × ((W.flush_of Big (length out₀) e.writer).writer.written ≡ strip_length (length rs))
      × (W.flush_out Big e.out e.writer ≡ sets out₀ 0 (strip_bytes rs))

  -- those left pack
  pub each_packs : (out : List ℕ) (c : State) (left : List Record) → Midway rs out₀ out c left → Packs (pack_each out (writer_with c) left)
  unfolding pack_each W.flush_of
  each_packs out c [] g =
      let belongs = subst (λ (n : ℕ). (W.flush_of Big n (writer_with c)).refusal ≡ done) g.same (belongs_refusal (length out) c g.belongs) in (
        refl,
        belongs,
        ap (λ (w : Writer). w.written) (sym (if_done_lem refl (writer_with (put Big c (padding (writer_with c)) 0)) (writer_with c) belongs)) ∙ midway_length rs out₀ out c g,
        flush_done out c g.belongs ∙ midway_out rs out₀ out c g,
      )
  each_packs out c (r ∷ left) g =
      let z = next_packs out c r left g in
      let t : List ℕ = put_out Big out c record_bits (bits_of r) in
      let d : State = put Big c record_bits (bits_of r) in
      let (writer-is, out-is) = pack_done out (writer_with c) r z in
      let same : pack_each out (writer_with c) (r ∷ left) ≡ pack_each t (writer_with d) left =
      pack_next out (writer_with c) r left z ∙ ap₂ (λ (l : List ℕ) (w : Writer). pack_each l w left) out-is writer-is in
      subst Packs (sym same) (each_packs t d left (midway_step rs out₀ out c r left g room t d refl refl))

-- ---- reading

-- a cursor behind i records of a strip
pub record Behind (s : List ℕ) (i : ℕ) (c : Cursor) : Type 0 where
  pub belongs : cursor_refusal Big s c ≡ done
  pub here : place c ≡ record_bits * i
  pub left : bits_left s c + record_bits * i ≡ 8 * length s

module _ (s : List ℕ) where
  pub behind_none : length s ≤ longest → Behind s 0 (new_of s).cursor
  behind_none short = record { belongs = fresh_belongs s short Big; here = fresh_place s; left = omega (arith, fresh_left s short) }

  module _ (i : ℕ) (c : Cursor) (g : Behind s i c) where
    -- the next record is read, if there is one
    module _ (more : i < count_of s) where
      next_there : record_bits ≤ bits_left s c
      next_there = omega (arith, g.left)

      next_reads : read_refusal s c ≡ done
      unfolding read_refusal
      next_reads = all_pass _ (g.belongs, rw (le-ltb _ _ next_there))

      next_answer : read_of s c ≡ record { refusal = done; value = record_at s (place c); cursor = gone_to Big s c (place c + record_bits) }
      unfolding read_of
      next_answer = sym (if_done_lem refl _ _ next_reads)

      pub read_found : ((read_of s c).refusal ≡ done) × ((read_of s c).value ≡ record_at s (record_bits * i))
      read_found = (ap (λ (r : ReadTold Record). r.refusal) next_answer, ap (λ (r : ReadTold Record). r.value) next_answer ∙ ap (record_at s) g.here)

      pub behind_more : Behind s (suc i) (read_of s c).cursor
      behind_more =
          let own = refusal_own g.belongs in
          let p : ℕ = place c + record_bits in
          let d : Cursor = gone_to Big s c p in
          let o = record_gone s c next_reads in
          let at : place d ≡ p = gone_place Big s c p in
          subst (Behind s (suc i)) (sym (ap (λ (r : ReadTold Record). r.cursor) next_answer))
          (record {
            belongs = own_done o;
            here = omega (arith, at, g.here);
            left = omega (arith, left_stop o.fits, at, gone_stop Big s c p, left_stop own.fits, g.left, g.here);
          })

    -- behind the last there is none
    pub none_read : count_of s ≤ i → (read_of s c).refusal ≡ too_few
    unfolding read_of read_refusal first_refusal or_else
    none_read all =
        let few : bits_left s c < record_bits = omega (arith, g.left) in
        rw (g.belongs, lt-ltb _ _ few)

  pub behind_times : (n i : ℕ) (c : Cursor) → Behind s i c → n + i ≤ count_of s → Behind s (n + i) (read_times n s c)
  unfolding read_times
  behind_times zero i c g h = subst (λ (k : ℕ). Behind s k c) (sym (zero-add i)) g
  behind_times (suc n) i c g h =
      let e : n + suc i ≡ suc n + i = omega arith in
      subst (λ (k : ℕ). Behind s k (read_times n s (read_of s c).cursor)) e
      (behind_times n (suc i) (read_of s c).cursor (behind_more i c g (omega arith)) (omega arith))
