-- Laws of writing: what a call that is done stored, and where. The calls differ only in the bits that they put.
use mathlib.Core.Path.{◌≡◌, refl, subst}
use mathlib.Core.List.{List}
use Prim.Native.Nat.{ℕ, ◌+◌, ◌*◌, ◌%◌, ◌^◌, ◌<◌, ◌≤◌}
use native.Mathlib.Nat.{mod-lt}
use native.Mathlib.Omega.{arith}
use lib.IntN.{ℤ}
use lib.ListN.{get_or, length}
use lib.Seq.{sets}
use lib.Pow.{pow_pos}
use borrow.Author.Tests.{le-ltb}
use Rattle.bits.specs.declared.Order.{Order}
use Rattle.bits.specs.Refusals.{longest, done, if_done}
use Rattle.bits.specs.Field.{join, field}
use Rattle.bits.proofs.FieldLaws.{field_lt}
use Rattle.bits.specs.Signed.{pattern}
use Rattle.sign.proofs.SignedLaws.{pattern_lt}
use Rattle.packing.specs.declared.State.{State}
use Rattle.packing.specs.Packing.{Belongs, filled, put, put_out, story}
use Rattle.packing.proofs.PutLaws.{put-length, put_written, put-belongs}
use Rattle.packing.proofs.PutBytesLaws.{bytes_put, bytes_put_out}
use Rattle.packing.proofs.StoryLaws.{story_aligned, put-story}
use Rattle.writer.specs.declared.Writer.{Writer}
use Rattle.writer.specs.Writer.{state_in, bits_written, writer_refusal, write_refusal, signed_refusal, bytes_refusal, padding}
use Rattle.writer.specs.Answers.{Wrote, wrote, new_of, write_of, write_out, signed_of, signed_out, bytes_of, bytes_out, flush_of, flush_out}
use Rattle.writer.proofs.AnswerLaws.{Room, write_passed, signed_passed, bytes_passed, flush_passed}

-- ---- a fresh writer

module _ (len : ℕ) (short : len ≤ longest) where
  pub new_done : (new_of len).refusal ≡ done
  unfolding new_of
  new_done = rw (le-ltb _ _ short)

  pub new_belongs : Belongs len (state_in (new_of len).writer)
  unfolding new_of
  new_belongs = record { short = short; within = omega arith; few = omega arith; small = pow_pos 0 }

pub new_written : (len : ℕ) → bits_written (new_of len).writer ≡ 0
unfolding new_of
new_written len = refl

pub new_story : (o : Order) (s : List ℕ) (len : ℕ) → story o s (state_in (new_of len).writer) ≡ 0
unfolding new_of field
new_story o s len = story_aligned o s (state_in (new_of len).writer) refl refl

-- ---- calls that are done

-- from the output s and the writer w, a call that answered r and left the output t stored n bits v: they stand behind all that was
-- written before, nothing of which changed; the bytes that they made full are set behind those that were, and the writer belongs again
pub record Stored (o : Order) (s : List ℕ) (w : Writer) (n v : ℕ) (t : List ℕ) (r : Wrote) : Type 0 where
  pub accepted : r.refusal ≡ done
  pub same_length : length t ≡ length s
  pub written : bits_written r.writer ≡ bits_written w + n
  pub belongs : Belongs (length s) (state_in r.writer)
  pub stands : story o t (state_in r.writer) ≡ join o (bits_written w) n (story o s (state_in w)) v
  pub memory : t ≡ sets s w.written (filled o (state_in w) n v)

module _ (o : Order) (s : List ℕ) (w : Writer) where
  -- a call that put n bits v stored them
  pub put_stored : {e n v : ℕ} {c : State} {t : List ℕ} → e ≡ done → Room (length s) w n → v < 2 ^ n → c ≡ put o (state_in w) n v → t ≡ put_out o s (state_in w) n v
      → Stored o s w n v (if_done e t s) (wrote e w c)
  unfolding put_out
  put_stored {e} {n} {v} {c} {t} z room small p q =
      rw (z, p, q)
      (record {
        accepted = refl;
        same_length = put-length o (state_in w) n v s;
        written = put_written o (state_in w) n v;
        belongs = put-belongs o (length s) (state_in w) room.belongs n room.enough small;
        stands = put-story o s (state_in w) room.belongs n room.enough small;
        memory = refl;
      })

  pub write_stored : (n v : ℕ) → write_refusal (length s) w n v ≡ done → Stored o s w n (v % 2 ^ n) (write_out o s w n v) (write_of o (length s) w n v)
  unfolding write_of write_out
  write_stored n v z = put_stored z (write_passed (length s) w n v z).1 (mod-lt v (pow_pos n)) refl refl

  pub signed_stored : (n : ℕ) (x : ℤ) → signed_refusal (length s) w n x ≡ done → Stored o s w n (pattern n x) (signed_out o s w n x) (signed_of o (length s) w n x)
  unfolding signed_of signed_out
  signed_stored n x z = put_stored z (signed_passed (length s) w n x z).1 (pattern_lt n x) refl refl

  -- bytes are the field of all their bits
  pub bytes_stored : (bs : List ℕ) → ((i : ℕ) → get_or bs i 0 < 2 ^ 8) → bytes_refusal (length s) w (length bs) ≡ done
      → Stored o s w (8 * length bs) (field o bs 0 (8 * length bs)) (bytes_out o s w bs) (bytes_of o (length s) w bs)
  unfolding bytes_of bytes_out
  bytes_stored bs bytes z =
      let room = bytes_passed (length s) w (length bs) z in
      let h = room.belongs in
      put_stored z room (field_lt o bs 0 (8 * length bs)) (bytes_put o bs bytes (state_in w) h.small h.few) (bytes_put_out o bs bytes (state_in w) h.small h.few s)

  pub flush_stored : writer_refusal (length s) w ≡ done → Stored o s w (padding w) 0 (flush_out o s w) (flush_of o (length s) w)
  unfolding flush_of flush_out
  flush_stored z = put_stored z (flush_passed (length s) w z) (pow_pos (padding w)) refl refl

  -- after a flush no bits are held
  pub flush_whole : writer_refusal (length s) w ≡ done → ((flush_of o (length s) w).writer.held ≡ 0) × ((flush_of o (length s) w).writer.number ≡ 0)
  flush_whole z =
      let f = flush_stored z in
      let b = f.belongs in
      let few = (flush_passed (length s) w z).belongs.few in
      let h : (flush_of o (length s) w).writer.held ≡ 0 = omega (arith, f.written, b.few) in
      let l : (flush_of o (length s) w).writer.number < 2 ^ 0 = subst (λ (k : ℕ). (flush_of o (length s) w).writer.number < 2 ^ k) h b.small in
      (h, omega arith)
