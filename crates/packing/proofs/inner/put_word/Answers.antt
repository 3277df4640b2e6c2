-- `put_word` meets its contract: the h bits held and the first 64 - h make a word, whose bytes are stored, and the last h bits stay
-- (`word_bytes`, `word_over`). Assumes nothing.
use mathlib.Core.Path.{◌≡◌, sym, ap, ◌∙◌, subst}
use Prim.Native.Nat.{ℕ, ◌+◌, ◌-◌, ◌*◌, ◌^◌, ◌<◌, ◌≤◌}
use native.Mathlib.Omega.{arith}
use lib.Seq.{sets}
use Rattle.bits.specs.declared.Order.{Order}
use Rattle.bits.specs.Field.{join}
use Rattle.bits.specs.Word.{first}
use Rattle.packing.specs.Packing.{bytes_of}
use Rattle.packing.proofs.PutLaws.{put_is, put_out_is}
use Rattle.packing.proofs.PutWordLaws.{front_lt, word_bytes, word_over}
use Rattle.packing.proofs.inner.put_word.Goals as goal

-- the first bits as the code cuts them out
front_is : (o : Order) (h v : ℕ) {f : ℕ} → h ≤ 64 → f ≡ first o (64 - h) (64 - (64 - h)) v → f ≡ first o (64 - h) h v
front_is o h v l p = let e : 64 - (64 - h) ≡ h = omega arith in p ∙ ap (λ (k : ℕ). first o (64 - h) k v) e

pub join_bits-word-requires : goal.join_bits-word-requires
join_bits-word-requires c =
    let a = c.args in
    let h = a.c.held in
    let l : h ≤ 64 = omega arith in
    (omega arith, omega arith, omega arith, c.requires.2, subst (λ (k : ℕ). k < 2 ^ (64 - h)) (sym (front_is _ _ _ l c.first_bits-first.ensures)) (front_lt a.order h l c.requires.2 c.ranges.v.fits))

pub returns : goal.returns
returns c =
    let a = c.args in
    let o = a.order in
    let h = a.c.held in
    let l : h ≤ 64 = omega arith in
    let count : h + 64 ≡ 8 * 8 + h = omega arith in
    let word = c.join_bits-word.ensures ∙ ap (join o h (64 - h) a.c.number) (front_is _ _ _ l c.first_bits-first.ensures) in
    let left = c.first_bits.ensures ∙ ap (first o h (64 - h)) c.skip_bits-last.ensures ∙ word_over o h l c.requires.2 c.ranges.v.fits in
    record {
      answer = (λ i. record { written = a.c.written + 8; held = h; number = left i }) ∙ sym (put_is o a.c 64 a.v 8 h count c.requires.1);
      memory =
          c.store_whole.ensures
          ∙ ap (sets a.out.now a.c.written) (ap (bytes_of o 8 0) word ∙ word_bytes o h l c.requires.2 c.ranges.v.fits 8 h (omega arith) (omega arith))
          ∙ sym (put_out_is o a.c 64 a.v 8 h count c.requires.1 a.out.now);
    }
