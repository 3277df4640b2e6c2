-- What typed values promise: bits are kept at every kind, a typed read is done or refused as the read of its kind's width is, what was
-- written is read back, and a single becomes a double that is written and read back as it is.
use mathlib.Core.Path.{◌≡◌, refl, sym, ap, ◌∙◌}
use mathlib.Core.List.{List}
use mathlib.Core.Bool.{true}
use Prim.Native.Nat.{ℕ, ◌%◌, ◌^◌, ◌<◌, ◌≤◌}
use native.Mathlib.Nat.{mod-lt, mod-eq_of_lt}
use lib.ListN.{length}
use lib.Pow.{pow_pos}
use borrow.Author.Tests.{ne_eqb}
use Rattle.bits.specs.declared.Order.{Order}
use Rattle.bits.specs.Refusals.{done}
use Rattle.bits.specs.Field.{field}
use Rattle.sign.proofs.SignedLaws.{pattern-signed}
use Rattle.floats.specs.declared.Single.{Single}
use Rattle.floats.specs.Floats.{single_of, single_bits, double_of, double_bits}
use Rattle.floats.specs.Widening.{widened}
use Rattle.floats.proofs.FloatLaws.{single_kept, double_kept, double_bits-lt}
use Rattle.floats.proofs.WideningLaws.{widened-held, widened-back}
use Rattle.reader.specs.declared.Cursor.{Cursor}
use Rattle.reader.specs.Answers.{ReadTold}
use Rattle.reader.specs.Cursor.{place, bits_left, cursor_refusal}
use Rattle.reader.specs.Answers as R
use Rattle.reader.proofs.AnswerLaws.{read_refusal_lem}
use Rattle.reader.proofs.ReadLaws.{read_enough, read_value}
use Rattle.reader.proofs.ReadLaws as L
use Rattle.writer.specs.declared.Writer.{Writer}
use Rattle.writer.specs.Writer.{bits_written}
use Rattle.writer.specs.Answers.{flush_out}
use Rattle.writer.specs.Answers as W
use Rattle.writer.proofs.FlushLaws.{stored_found}
use Rattle.typed.specs.declared.Kind.{Kind}
use Rattle.typed.specs.declared.Kind.TheVariants as K
use Rattle.typed.specs.declared.Typed.{Typed}
use Rattle.typed.specs.declared.Typed.TheVariants as T
use Rattle.typed.specs.Typed.{typed_of, bits_of, kind_of, same_typed, widened_typed, width_of, meaning, Fits}
use Rattle.typed.specs.Answers.{Done, Refused, answered, read_of, write_of, write_out}
use Rattle.typed.proofs.WrittenLaws.{typed_passed, typed_stored, typed_same}

-- bits turned into a value of a kind and back are the same: all 64, and 32 of a single
pub bits_kept : (k : Kind) (b : ℕ) → b < 2 ^ width_of k 64 → bits_of (typed_of k b) ≡ b
unfolding bits_of typed_of width_of
bits_kept K.Unsigned b h = refl
bits_kept K.Signed b h = pattern-signed 64 b h
bits_kept K.Single b h = ap (λ (n : ℕ). single_bits (single_of n)) (mod-eq_of_lt h) ∙ single_kept b h
bits_kept K.Double b h = double_kept b h

-- and the value's case is the kind that was asked for
pub kind_kept : (k : Kind) (b : ℕ) → kind_of (typed_of k b) ≡ k
unfolding kind_of typed_of
kind_kept K.Unsigned b = refl
kind_kept K.Signed b = refl
kind_kept K.Single b = refl
kind_kept K.Double b = refl

-- ---- reads

module _ (o : Order) (s : List ℕ) (c : Cursor) (k : Kind) (w : ℕ) where
  -- where the read of the kind's width is done, so is the typed read: the value is the field at the place, by the kind's meaning
  pub read_done : (R.read_of o s c (width_of k w)).refusal ≡ done
      → read_of o s c k w ≡ Done (meaning k w (field o s (place c) (width_of k w))) (R.read_of o s c (width_of k w)).cursor
  unfolding answered read_of
  read_done e = rw (e, read_value o s c (width_of k w) (sym (read_refusal_lem o s c (width_of k w)) ∙ e))

  -- where it is refused, the typed read is by the same number, with the cursor that came
  pub read_refused : ((R.read_of o s c (width_of k w)).refusal ≡ done → ⊥)
      → read_of o s c k w ≡ Refused (R.read_of o s c (width_of k w)).refusal c
  unfolding answered read_of
  read_refused h =
      let kept = L.read_refused o s c (width_of k w) (λ z. h (read_refusal_lem o s c (width_of k w) ∙ z)) in
      rw (ne_eqb (R.read_of o s c (width_of k w)).refusal done h)
      (ap (λ (d : Cursor). Refused (R.read_of o s c (width_of k w)).refusal d) (ap (λ (r : ReadTold ℕ). r.cursor) kept))

-- ---- there and back

-- a value that was written behind anything, and flushed: at the place where it was written its width is read, and finds its low bits
module _ (o : Order) (s : List ℕ) (w : Writer) (v : Typed) (n : ℕ) (z : (write_of o (length s) w v n).refusal ≡ done) where
  abbrev after : List ℕ
  after = flush_out o (write_out o s w v n) (write_of o (length s) w v n).writer

  abbrev wide : ℕ
  wide = width_of (kind_of v) n

  written_found : (c : Cursor) → cursor_refusal o after c ≡ done → place c ≡ bits_written w → wide ≤ bits_left after c →
      ((R.read_of o after c wide).refusal ≡ done) × (field o after (place c) wide ≡ bits_of v % 2 ^ wide)
  written_found c own at enough =
      let (narrow, room) = typed_passed o s w v n z in (
        read_refusal_lem o after c wide ∙ read_enough o after c wide own narrow enough,
        ap (λ (p : ℕ). field o after p wide) at
            ∙ stored_found o s w room.belongs (mod-lt (bits_of v) (pow_pos wide)) (typed_stored o s w v n z),
      )

-- so it is read as the value that its low bits make. Where it fits its width, that value is the same.
pub typed_back : (o : Order) (s : List ℕ) (w : Writer) (v : Typed) (n : ℕ) → (write_of o (length s) w v n).refusal ≡ done →
    let t = flush_out o (write_out o s w v n) (write_of o (length s) w v n).writer in
    let k = width_of (kind_of v) n in
    let back = meaning (kind_of v) n (bits_of v % 2 ^ k) in
    (c : Cursor) → cursor_refusal o t c ≡ done → place c ≡ bits_written w → k ≤ bits_left t c →
    (read_of o t c (kind_of v) n ≡ Done back (R.read_of o t c k).cursor) × (Fits n v → same_typed back v ≡ true)
typed_back o s w v n z c own at enough =
    let t : List ℕ = flush_out o (write_out o s w v n) (write_of o (length s) w v n).writer in
    let k : ℕ = width_of (kind_of v) n in
    let (e, found) = written_found o s w v n z c own at enough in
    (read_done o t c (kind_of v) n e ∙ ap (λ (b : ℕ). Done (meaning (kind_of v) n b) (R.read_of o t c k).cursor) found, typed_same v n)

-- ---- singles as doubles

-- a value of another kind is kept
pub others_kept : (v : Typed) → (kind_of v ≡ K.Single → ⊥) → widened_typed v ≡ v
unfolding kind_of widened_typed
others_kept (T.Unsigned n) h = refl
others_kept (T.Signed z) h = refl
others_kept (T.Single x) h = absurd (h refl)
others_kept (T.Double x) h = refl

-- the double's bits are 64
pub wide-lt : (x : Single) → double_bits (widened x) < 2 ^ 64
wide-lt x = double_bits-lt (widened x) (widened-held x)

-- written, and flushed, they are read at the place where they were written, and make the double again
pub wide_back : (o : Order) (s : List ℕ) (w : Writer) (x : Single) →
    let d = double_bits (widened x) in
    (W.write_of o (length s) w 64 d).refusal ≡ done →
    let t = flush_out o (W.write_out o s w 64 d) (W.write_of o (length s) w 64 d).writer in
    (c : Cursor) → cursor_refusal o t c ≡ done → place c ≡ bits_written w → 64 ≤ bits_left t c →
    ((R.read_of o t c 64).refusal ≡ done) × (double_of (R.read_of o t c 64).value ≡ widened x)
unfolding write_of write_out bits_of kind_of width_of
wide_back o s w x z c own at enough =
    let d : ℕ = double_bits (widened x) in
    let t : List ℕ = flush_out o (W.write_out o s w 64 d) (W.write_of o (length s) w 64 d).writer in
    let (e, found) = written_found o s w (T.Double (widened x)) 64 z c own at enough in
    let value : (R.read_of o t c 64).value ≡ d =
    read_value o t c 64 (sym (read_refusal_lem o t c 64) ∙ e) ∙ found ∙ mod-eq_of_lt (wide-lt x) in
    (e, ap double_of value ∙ widened-back x)
