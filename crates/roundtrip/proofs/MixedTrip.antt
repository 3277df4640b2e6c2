-- The mixed round trip holds: what was written and flushed is, in the written bytes, all items as one number with zeros behind it.
use Prim.Native.Nat.{ℕ, ◌+◌, ◌*◌, ◌/◌, ◌≤◌}
use mathlib.Core.Path.{◌≡◌, sym, ap, ap₂, ◌∙◌, subst}
use mathlib.Core.List.{List, ◌∷◌}
use lib.ListN.{length, take}
use lib.Seq.{length-take-le, get_or-take}
use native.Mathlib.Nat.{zero-add}
use native.Mathlib.Omega.{arith}
use Rattle.bits.specs.declared.Order.{Order}
use Rattle.bits.specs.Refusals.{longest}
use Rattle.bits.specs.Field.{field, join}
use Rattle.bits.proofs.JoinLaws.{none_join}
use Rattle.bits.proofs.FieldLaws.{field_same, bit_same}
use Rattle.packing.specs.Packing.{Belongs, story}
use Rattle.reader.proofs.ReadLaws.{fresh_done, fresh_belongs, fresh_place, fresh_left}
use Rattle.reader.specs.Cursor.{place}
use Rattle.reader.specs.Answers as R
use Rattle.writer.specs.declared.Writer.{Writer}
use Rattle.writer.specs.Writer.{state_in, bits_written, padding}
use Rattle.writer.specs.Answers as W
use Rattle.writer.specs.Answers.{flush_of, flush_out}
use Rattle.writer.proofs.WriteLaws.{new_done, new_belongs, new_written, new_story, Stored}
use Rattle.roundtrip.specs.Mixed.{Written, flushed, Item, Fit, size, write_all, carried, back, MixedRoundTrip}
use Rattle.writer.proofs.FlushLaws.{flush_of_lem, flushed-whole, flushed_holds}
use Rattle.roundtrip.proofs.WayOut.{pack, Went, all_written}
use Rattle.roundtrip.proofs.WayBack.{Came, all_read}

-- ---- the written bytes alone

-- they are bytes of the output
flush_within : (o : Order) (s : List ℕ) (w : Writer) → Belongs (length s) (state_in w) → (flush_of o (length s) w).writer.written ≤ length (flush_out o s w)
flush_within o s w h = let f = flush_of_lem o s w h in omega (arith, f.belongs.within, f.same_length)

-- after a flush, they are all that was written, and the padding
record Alone (o : Order) (n pad x : ℕ) (b : List ℕ) : Type 0 where
  pub short : length b ≤ longest
  pub whole : 8 * length b ≡ n + pad
  pub holds : field o b 0 (n + pad) ≡ join o n pad x 0

alone : (o : Order) (s : List ℕ) (w : Writer) → Belongs (length s) (state_in w)
    → Alone o (bits_written w) (padding w) (story o s (state_in w)) (take (flush_of o (length s) w).writer.written (flush_out o s w))
alone o s w h =
    let m : Writer = (flush_of o (length s) w).writer in
    let t : List ℕ = flush_out o s w in
    let b : List ℕ = take m.written t in
    let f : Stored o s w (padding w) 0 t (flush_of o (length s) w) = flush_of_lem o s w h in
    let all : 8 * m.written ≡ bits_written w + padding w = flushed-whole o s w h in
    let l : length b ≡ m.written = length-take-le m.written t (flush_within o s w h) in
    record {
      short = omega (arith, f.same_length, f.belongs.short);
      whole = omega arith;
      holds =
          field_same o b t 0 0 (bits_written w + padding w) (λ k lt. bit_same o b t (0 + k) (get_or-take m.written t ((0 + k) / 8) 0 (omega arith)))
          ∙ flushed_holds o s w h;
    }

-- ---- the theorem

-- all items by a fresh writer, before the flush
abbrev unflushed : Order → List ℕ → List Item → Written
unflushed o s es = write_all o s (W.new_of (length s)).writer es

module _ (o : Order) (s : List ℕ) (es : List Item) (short : length s ≤ longest) (fit : Fit es) (room : size 0 es ≤ 8 * length s) where
  went : Went o s (W.new_of (length s)).writer 0 es (unflushed o s es)
  went = all_written o s (W.new_of (length s)).writer 0 es (new_belongs (length s) short) (new_written (length s)) fit (omega arith)

  -- the writer still belongs to the output
  belongs : Belongs (length (unflushed o s es).out) (state_in (unflushed o s es).writer)
  belongs = subst (λ (k : ℕ). Belongs k (state_in (unflushed o s es).writer)) (sym went.same_length) went.belongs

pub mixed_round_trip : MixedRoundTrip
unfolding flushed
mixed_round_trip o s es short fit room =
    let q : Written = unflushed o s es in
    let all : ℕ = size 0 es in
    let g : Went o s (W.new_of (length s)).writer 0 es q = went o s es short fit room in
    let h : Belongs (length q.out) (state_in q.writer) = belongs o s es short fit room in
    let n : bits_written q.writer ≡ all = g.written ∙ zero-add all in
    let x : story o q.out (state_in q.writer) ≡ pack o 0 es =
    g.stands ∙ ap (λ (j : ℕ). join o 0 all j (pack o 0 es)) (new_story o s (length s)) ∙ none_join o all (pack o 0 es) in
    let pad : ℕ = padding q.writer in
    let b : List ℕ = carried o s es in
    let a : Alone o all pad (pack o 0 es) b =
    subst (λ (k : ℕ). Alone o k pad (pack o 0 es) b) n (subst (λ (k : ℕ). Alone o (bits_written q.writer) pad k b) x (alone o q.out q.writer h)) in
    let came : Came o b pad es (back o s es) =
    all_read o b (R.new_of b).cursor 0 pad es a.short (fresh_belongs b a.short o) fit (fresh_left b a.short ∙ a.whole) (zero-add _ ∙ fresh_left b a.short)
    (ap (λ (k : ℕ). field o b k (all + pad)) (fresh_place b) ∙ a.holds) in
    record {
      new_writer = new_done (length s) short;
      written =
          ap₂ (λ (k : ℕ) (ks : List ℕ). k ∷ ks) (flush_of_lem o q.out q.writer h).accepted g.accepted;
      new_cursor = fresh_done b a.short;
      read = came.accepted;
      values = came.values;
      few = omega (arith, came.left);
      zeros = ap (field o b (place (back o s es).cursor)) came.left ∙ came.zeros;
    }
