-- Laws of a flushed output: it starts with all that was written, as one number, and zeros up to a byte. So what was stored is found at the
-- place where it was stored, at every width and in both orders.
use Prim.Native.Nat.{ℕ, ◌+◌, ◌*◌, ◌^◌, ◌<◌}
use mathlib.Core.Path.{◌≡◌, sym, ap, ◌∙◌, subst}
use mathlib.Core.List.{List}
use lib.ListN.{length}
use lib.Pow.{pow_pos}
use native.Mathlib.Nat.{zero-add}
use native.Mathlib.Omega.{arith}
use Rattle.bits.specs.declared.Order.{Order}
use Rattle.bits.specs.Refusals.{done}
use Rattle.bits.specs.Field.{field, join}
use Rattle.bits.proofs.FieldLaws.{head_is, tail_is}
use Rattle.packing.specs.Packing.{Belongs, story}
use Rattle.packing.proofs.BelongsLaws.{belongs_refusal}
use Rattle.packing.proofs.StoryLaws.{story-lt, story_aligned}
use Rattle.writer.specs.declared.Writer.{Writer}
use Rattle.writer.specs.Writer.{state_in, bits_written, writer_refusal, padding}
use Rattle.writer.specs.Answers.{Wrote, flush_of, flush_out}
use Rattle.writer.proofs.WriteLaws.{Stored, flush_stored, flush_whole}

module _ (o : Order) (s : List ℕ) (w : Writer) (h : Belongs (length s) (state_in w)) where
  accepted : writer_refusal (length s) w ≡ done
  accepted = belongs_refusal (length s) (state_in w) h

  -- the flush itself
  pub flush_of_lem : Stored o s w (padding w) 0 (flush_out o s w) (flush_of o (length s) w)
  flush_of_lem = flush_stored o s w accepted

  -- the full bytes are all bits written, and the padding
  pub flushed-whole : 8 * (flush_of o (length s) w).writer.written ≡ bits_written w + padding w
  flushed-whole = omega (arith, flush_of_lem.written, (flush_whole o s w accepted).0)

  -- they hold what was written, and zeros
  pub flushed_holds : field o (flush_out o s w) 0 (bits_written w + padding w) ≡ join o (bits_written w) (padding w) (story o s (state_in w)) 0
  flushed_holds =
      let (none, zero) = flush_whole o s w accepted in
      ap (field o (flush_out o s w) 0) (sym flushed-whole)
      ∙ sym (story_aligned o (flush_out o s w) (state_in (flush_of o (length s) w).writer) none zero)
      ∙ flush_of_lem.stands

-- n bits v that a call stored are, after a flush, the field at the place where writing went on
pub stored_found : (o : Order) (s : List ℕ) (w : Writer) {n v : ℕ} {t : List ℕ} {r : Wrote} → Belongs (length s) (state_in w) → v < 2 ^ n
    → Stored o s w n v t r → field o (flush_out o t r.writer) (bits_written w) n ≡ v
stored_found o s w {n} {v} {t} {r} h small x =
    let m : Writer = r.writer in
    let b : Belongs (length t) (state_in m) = subst (λ (k : ℕ). Belongs k (state_in m)) (sym x.same_length) x.belongs in
    let u : List ℕ = flush_out o t m in
    let all : field o u 0 (bits_written m) ≡ story o t (state_in m) =
    head_is o u 0 (bits_written m) (padding m) (story-lt o t (state_in m) b.small) (pow_pos (padding m)) (flushed_holds o t m b) in
    let e : field o u 0 (bits_written w + n) ≡ join o (bits_written w) n (story o s (state_in w)) v =
    ap (field o u 0) (sym x.written) ∙ all ∙ x.stands in
    ap (λ (p : ℕ). field o u p n) (sym (zero-add (bits_written w)))
    ∙ tail_is o u 0 (bits_written w) n (story-lt o s (state_in w) h.small) small e
