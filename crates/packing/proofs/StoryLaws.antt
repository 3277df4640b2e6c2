-- Laws of the story, all that was written as one number: putting bits joins them behind it.
use mathlib.Core.Path.{◌≡◌, sym, ap, ap₂, ◌∙◌}
use Prim.Native.Nat.{ℕ, ◌+◌, ◌*◌, ◌/◌, ◌^◌, ◌<◌, ◌≤◌}
use native.Mathlib.Nat.{zero-add}
use native.Mathlib.Omega.{arith}
use mathlib.Core.List.{List}
use lib.ListN.{length}
use lib.Seq.{sets}
use Rattle.bits.specs.declared.Order.{Order}
use Rattle.bits.specs.Field.{join, field}
use Rattle.bits.specs.Word.{first, rest}
use Rattle.bits.proofs.JoinLaws.{join-lt, join_assoc, join_none, join_parts}
use Rattle.bits.proofs.FieldLaws.{field_lt, field_split, field_same, bit_same}
use Rattle.packing.specs.declared.State.{State}
use Rattle.packing.specs.Packing.{bits_written, Belongs, gathered, full, over, bytes_of, put, put_out, story}
use Rattle.packing.proofs.StoredLaws.{get_d_sets_before, field_stored}
use Rattle.packing.proofs.PutLaws.{gathered-lt}

pub story-lt : (o : Order) (s : List ℕ) (c : State) → c.number < 2 ^ c.held → story o s c < 2 ^ bits_written c
unfolding story
story-lt o s c small = join-lt o (8 * c.written) c.held (field_lt o s 0 (8 * c.written)) small

-- of a writer that holds no bits, the field of the full bytes is all
pub story_aligned : (o : Order) (s : List ℕ) (c : State) → c.held ≡ 0 → c.number ≡ 0 → story o s c ≡ field o s 0 (8 * c.written)
unfolding story
story_aligned o s c a b =
    ap₂ (λ (i j : ℕ). join o (8 * c.written) i (field o s 0 (8 * c.written)) j) a b ∙ join_none o (8 * c.written) (field o s 0 (8 * c.written))

-- the bits put stand behind the story, and nothing of it changes
pub put-story : (o : Order) (s : List ℕ) (c : State) → Belongs (length s) c → (n : ℕ) {v : ℕ} → bits_written c + n ≤ 8 * length s → v < 2 ^ n
    → story o (put_out o s c n v) (put o c n v) ≡ join o (bits_written c) n (story o s c) v
unfolding story put put_out
put-story o s c h n {v} room hv =
    let at : ℕ = c.written in
    let f : ℕ = full c n in
    let r : ℕ = over c n in
    let all : ℕ = gathered o c n v in
    let t : List ℕ = sets s at (bytes_of o f r all) in
    let past : ℕ = field o s 0 (8 * at) in
    let e : 8 * (at + f) ≡ 8 * at + 8 * f = omega arith in
    let m : 8 * f + r ≡ c.held + n = omega arith in
    let fits : at + f ≤ length s = omega arith in
    let same : field o t 0 (8 * at) ≡ past =
    field_same o t s 0 0 (8 * at) (λ k l. bit_same o t s (0 + k) (get_d_sets_before (bytes_of o f r all) s at ((0 + k) / 8) (omega arith))) in
    let stored : field o t (0 + 8 * at) (8 * f) ≡ first o (8 * f) r all =
    ap (λ (k : ℕ). field o t k (8 * f)) (zero-add (8 * at)) ∙ field_stored o f r at s fits (gathered-lt o c h.small n hv) in
    ap (λ (k : ℕ). join o k r (field o t 0 k) (rest o (8 * f) r all)) e
    ∙ ap (λ (k : ℕ). join o (8 * at + 8 * f) r k (rest o (8 * f) r all)) (field_split o t 0 (8 * at) (8 * f) ∙ ap₂ (join o (8 * at) (8 * f)) same stored)
    ∙ join_assoc o (8 * at) (8 * f) r past (first o (8 * f) r all) (rest o (8 * f) r all)
    ∙ ap₂ (λ (k y : ℕ). join o (8 * at) k past y) m (join_parts o (8 * f) r all)
    ∙ sym (join_assoc o (8 * at) c.held n past c.number v)
