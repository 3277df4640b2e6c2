-- Laws of putting bits behind those written, over the order and the width: the counts, what stays, and two puts as one.
use mathlib.Core.Path.{◌≡◌, sym, ap, ap₂, ◌∙◌, subst}
use Prim.Native.Nat.{ℕ, ◌+◌, ◌*◌, ◌/◌, ◌%◌, ◌^◌, ◌<◌, ◌≤◌}
use native.Mathlib.Nat.{add-zero}
use native.Mathlib.Omega.{arith}
use mathlib.Core.List.{List}
use lib.ListN.{length}
use lib.Seq.{sets, length-sets}
use lib.Pow.{pow_pos}
use Rattle.bits.specs.declared.Order.{Order}
use Rattle.bits.specs.Field.{join}
use Rattle.bits.specs.Word.{rest}
use Rattle.bits.proofs.JoinLaws.{join-lt, join_assoc, join_none, rest_lt, rest_none}
use Rattle.bits.proofs.StoreLaws.{sets-append}
use Rattle.packing.specs.declared.State.{State}
use Rattle.packing.specs.Packing.{bits_written, Belongs, gathered, full, over, bytes_of, put, put_out}
use Rattle.packing.proofs.PartLaws.{rest_of_longer, rest_twice}
use Rattle.packing.proofs.BytesLaws.{length_bytes, bytes_append}

module _ (o : Order) (c : State) (n v : ℕ) where
  pub put-length : (s : List ℕ) → length (put_out o s c n v) ≡ length s
  unfolding put_out
  put-length s = length-sets s c.written (bytes_of o (full c n) (over c n) (gathered o c n v))

  pub put_written : bits_written (put o c n v) ≡ bits_written c + n
  unfolding put
  put_written = omega arith

  pub put_few : (put o c n v).held ≤ 7
  unfolding put
  put_few = omega arith

  -- where the held bits and the new ones make f bytes and r bits
  module _ (f r : ℕ) (e : c.held + n ≡ 8 * f + r) (l : r ≤ 7) where
    full_is : full c n ≡ f
    full_is = omega arith

    over_is : over c n ≡ r
    over_is = omega arith

    pub put_is : put o c n v ≡ record { written = c.written + f; held = r; number = rest o (8 * f) r (gathered o c n v) }
    unfolding put
    put_is = λ i. record { written = c.written + full_is i; held = over_is i; number = rest o (8 * full_is i) (over_is i) (gathered o c n v) }

    pub put_out_is : (s : List ℕ) → put_out o s c n v ≡ sets s c.written (bytes_of o f r (gathered o c n v))
    unfolding put_out
    put_out_is s = ap₂ (λ (i j : ℕ). sets s c.written (bytes_of o i j (gathered o c n v))) full_is over_is

-- the held bits are below 2 to their count, as those of a writer that belongs
module _ (o : Order) (c : State) (small : c.number < 2 ^ c.held) where
  pub gathered-lt : (n : ℕ) {v : ℕ} → v < 2 ^ n → gathered o c n v < 2 ^ (8 * full c n + over c n)
  gathered-lt n {v} hv =
      let e : c.held + n ≡ 8 * full c n + over c n = omega arith in
      subst (λ (k : ℕ). gathered o c n v < 2 ^ k) e (join-lt o c.held n small hv)

  pub put_small : (n : ℕ) {v : ℕ} → v < 2 ^ n → (put o c n v).number < 2 ^ (put o c n v).held
  unfolding put
  put_small n hv = rest_lt o (8 * full c n) (over c n) (gathered-lt n hv)

  -- bits that fill no byte are held
  module _ (n : ℕ) {v : ℕ} (l : c.held + n ≤ 7) (hv : v < 2 ^ n) where
    none_full : c.held + n ≡ 8 * 0 + (c.held + n)
    none_full = omega arith

    pub put-held : put o c n v ≡ record { written = c.written; held = c.held + n; number = gathered o c n v }
    put-held =
        let e : rest o (8 * 0) (c.held + n) (gathered o c n v) ≡ gathered o c n v = rest_none o (c.held + n) (join-lt o c.held n small hv) in
        put_is o c n v 0 (c.held + n) none_full l ∙ (λ i. record { written = add-zero c.written i; held = c.held + n; number = e i })

    pub put-held_out : (s : List ℕ) → put_out o s c n v ≡ s
    unfolding bytes_of
    put-held_out s = put_out_is o c n v 0 (c.held + n) none_full l s

  -- no bits change nothing
  module _ (few : c.held ≤ 7) where
    none_more : c.held + 0 ≤ 7
    none_more = omega arith

    pub put_none : put o c 0 0 ≡ c
    put_none = put-held 0 none_more (pow_pos 0) ∙ (λ i. record { written = c.written; held = add-zero c.held i; number = join_none o c.held c.number i })

    pub put_none_out : (s : List ℕ) → put_out o s c 0 0 ≡ s
    put_none_out s = put-held_out 0 none_more (pow_pos 0) s

-- a bits x and then b bits y are a + b bits at once
module _ (o : Order) (c : State) (small : c.number < 2 ^ c.held) (a b : ℕ) {x y : ℕ} (hx : x < 2 ^ a) (hy : y < 2 ^ b) where
  all_sum : gathered o c (a + b) (join o a b x y) ≡ join o (8 * full c a + over c a) b (gathered o c a x) y
  all_sum =
      let e : c.held + a ≡ 8 * full c a + over c a = omega arith in
      sym (join_assoc o c.held a b c.number x y) ∙ ap (λ (k : ℕ). join o k b (gathered o c a x) y) e

  two_sum : over c a + b ≡ 8 * ((over c a + b) / 8) + (over c a + b) % 8
  two_sum = omega arith

  count_sum : c.held + (a + b) ≡ 8 * (full c a + (over c a + b) / 8) + (over c a + b) % 8
  count_sum = omega arith

  over_few : (over c a + b) % 8 ≤ 7
  over_few = omega arith

  pub put-put_out : (s : List ℕ) → put_out o (put_out o s c a x) (put o c a x) b y ≡ put_out o s c (a + b) (join o a b x y)
  unfolding put_out put
  put-put_out s =
      let n₁ : ℕ = full c a in
      let r₁ : ℕ = over c a in
      let n₂ : ℕ = (over c a + b) / 8 in
      let r₂ : ℕ = (over c a + b) % 8 in
      let all : ℕ = gathered o c a x in
      let more : List ℕ = bytes_of o n₂ r₂ (join o r₁ b (rest o (8 * n₁) r₁ all) y) in
      ap (λ (k : ℕ). sets (sets s c.written (bytes_of o n₁ r₁ all)) (c.written + k) more) (sym (length_bytes o n₁ r₁ all))
      ∙ sym (sets-append (bytes_of o n₁ r₁ all) more s c.written)
      ∙ ap (sets s c.written) (sym (bytes_append o n₁ r₁ b n₂ r₂ two_sum (gathered-lt o c small a hx) hy))
      ∙ ap (λ (k : ℕ). sets s c.written (bytes_of o (n₁ + n₂) r₂ k)) (sym all_sum)
      ∙ sym (put_out_is o c (a + b) (join o a b x y) (n₁ + n₂) r₂ count_sum over_few s)

  pub put-put : put o (put o c a x) b y ≡ put o c (a + b) (join o a b x y)
  unfolding put
  put-put =
      let n₁ : ℕ = full c a in
      let r₁ : ℕ = over c a in
      let n₂ : ℕ = (over c a + b) / 8 in
      let r₂ : ℕ = (over c a + b) % 8 in
      let all : ℕ = gathered o c a x in
      let both : ℕ = join o (8 * n₁ + r₁) b all y in
      let d : c.written + n₁ + n₂ ≡ c.written + (n₁ + n₂) = omega arith in
      let e : 8 * (n₁ + n₂) ≡ 8 * n₁ + 8 * n₂ = omega arith in
      let f : 8 * n₁ + r₁ + b ≡ 8 * n₁ + (8 * n₂ + r₂) = omega arith in
      let lt : both < 2 ^ (8 * n₁ + (8 * n₂ + r₂)) = subst (λ (k : ℕ). both < 2 ^ k) f (join-lt o (8 * n₁ + r₁) b (gathered-lt o c small a hx) hy) in
      let left : rest o (8 * (n₁ + n₂)) r₂ (gathered o c (a + b) (join o a b x y)) ≡ rest o (8 * n₂) r₂ (join o r₁ b (rest o (8 * n₁) r₁ all) y) =
      ap₂ (λ (k w : ℕ). rest o k r₂ w) e all_sum
      ∙ rest_twice o (8 * n₁) (8 * n₂) r₂ lt
      ∙ ap (λ (k : ℕ). rest o (8 * n₂) r₂ (rest o (8 * n₁) k both)) (sym two_sum)
      ∙ ap (rest o (8 * n₂) r₂) (rest_of_longer o (8 * n₁) r₁ b (gathered-lt o c small a hx) hy) in
      (λ i. record { written = d i; held = r₂; number = sym left i })
      ∙ sym (put_is o c (a + b) (join o a b x y) (n₁ + n₂) r₂ count_sum over_few)

-- a writer that belongs and has room belongs afterwards too
pub put-belongs : (o : Order) (len : ℕ) (c : State) → Belongs len c → (n : ℕ) {v : ℕ} → bits_written c + n ≤ 8 * len → v < 2 ^ n → Belongs len (put o c n v)
unfolding put
put-belongs o len c h n room hv = record { short = h.short; within = omega arith; few = omega arith; small = put_small o c h.small n hv }

-- and has room for the bits that had room behind those put
pub put_next : (o : Order) (s : List ℕ) (c : State) → Belongs (length s) c → (a b : ℕ) {x : ℕ} → x < 2 ^ a → bits_written c + (a + b) ≤ 8 * length s
    → (t : List ℕ) (d : State) → t ≡ put_out o s c a x → d ≡ put o c a x → Belongs (length t) d × (bits_written d + b ≤ 8 * length t)
put_next o s c h a b {x} hx room t d ht hd =
    let l : length t ≡ length s = ap length ht ∙ put-length o c a x s in
    let w : bits_written d ≡ bits_written c + a = ap bits_written hd ∙ put_written o c a x in
    let r : bits_written c + a ≤ 8 * length s = omega arith in
    (subst (λ (k : ℕ). Belongs k d) (sym l) (subst (Belongs (length s)) (sym hd) (put-belongs o (length s) c h a r hx)), omega arith)
