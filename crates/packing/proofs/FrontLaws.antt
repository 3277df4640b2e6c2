-- The held bits and n bits more, of which a word holds as many as it can, over the order: the bytes that are full, and the bits over.
use mathlib.Core.Path.{◌≡◌, sym, ap, ap₂, ◌∙◌, subst}
use Prim.Native.Nat.{ℕ, ◌+◌, ◌-◌, ◌*◌, ◌/◌, ◌%◌, ◌^◌, ◌<◌, ◌≤◌}
use native.Mathlib.Nat.{zero-mul, zero-add, add-zero}
use native.Mathlib.Omega.{arith}
use lib.Pow.{pow_pos, shl_exact}
use Rattle.bits.specs.declared.Order.{Order}
use Rattle.bits.specs.declared.Order.TheVariants.{Little, Big}
use Rattle.bits.specs.Field.{join}
use Rattle.bits.specs.Word.{first, rest, held, skipped}
use Rattle.bits.proofs.JoinLaws.{join-lt, join_assoc, join_parts, rest-join, first-lt, rest_lt}
use Rattle.bits.proofs.WordLaws.{to_the_top, skipped-join}
use Rattle.packing.specs.declared.State.{State}
use Rattle.packing.specs.Packing.{bytes_of, gathered, full, over}
use Rattle.packing.proofs.PartLaws.{rest_twice}
use Rattle.packing.proofs.BytesLaws.{bytes_longer}
use Rattle.packing.proofs.PutLaws.{gathered-lt}
use Rattle.packing.proofs.PutWordLaws.{word_bytes, word_lt}

-- the held bits, and the first of n bits v, with zeros behind them where there is room
unfoldable pub front_word : Order → State → ℕ → ℕ → ℕ
front_word o c n v = join o c.held (64 - c.held) c.number (first o (64 - c.held) c.held (held o n v))

module _ (o : Order) (c : State) (small : c.number < 2 ^ c.held) (few : c.held ≤ 7) (n : ℕ) {v : ℕ} (most : n ≤ 64) (hv : v < 2 ^ n) where
  h_most : c.held ≤ 64
  h_most = omega arith

  held-lt : held o n v < 2 ^ 64
  unfolding held
  held-lt =
      let e : n + (64 - n) ≡ 64 = omega arith in
      subst (λ (k : ℕ). join o n (64 - n) v 0 < 2 ^ k) e (join-lt o n (64 - n) hv (pow_pos (64 - n)))

  pub front_lt : front_word o c n v < 2 ^ 64
  unfolding front_word
  front_lt = word_lt o c.held h_most small held-lt

  -- all bits, with zeros behind them
  all_bits : join o c.held 64 c.number (held o n v) ≡ join o (8 * full c n + over c n) (64 - n) (gathered o c n v) 0
  unfolding held
  all_bits =
      let e : 64 ≡ n + (64 - n) = omega arith in
      let f : c.held + n ≡ 8 * full c n + over c n = omega arith in
      ap (λ (k : ℕ). join o c.held k c.number (join o n (64 - n) v 0)) e
      ∙ sym (join_assoc o c.held n (64 - n) c.number v 0)
      ∙ ap (λ (k : ℕ). join o k (64 - n) (gathered o c n v) 0) f

  pub front_bytes : bytes_of o (full c n) (64 - 8 * full c n) (front_word o c n v) ≡ bytes_of o (full c n) (over c n) (gathered o c n v)
  unfolding front_word
  front_bytes =
      let r : ℕ = over c n + (64 - n) in
      word_bytes o c.held h_most small held-lt (full c n) r (omega arith) (omega arith)
      ∙ ap (bytes_of o (full c n) r) all_bits
      ∙ bytes_longer o (full c n) (over c n) (64 - n) r (omega arith) (gathered-lt o c small n hv) (pow_pos (64 - n))

  -- where a byte is full, the bits over are the last of v
  pub front_over : 8 ≤ c.held + n → rest o (n - over c n) (over c n) v ≡ rest o (8 * full c n) (over c n) (gathered o c n v)
  front_over l =
      let a : ℕ = n - over c n in
      let e : n ≡ a + over c n = omega arith in
      let f : c.held + a ≡ 8 * full c n = omega arith in
      let G : ℕ = gathered o c n v in
      let lt : G < 2 ^ (c.held + (a + over c n)) = subst (λ (k : ℕ). G < 2 ^ (c.held + k)) e (join-lt o c.held n small hv) in
      ap (rest o a (over c n)) (sym (rest-join o c.held n small hv) ∙ ap (λ (k : ℕ). rest o c.held k G) e)
      ∙ sym (rest_twice o c.held a (over c n) lt)
      ∙ ap (λ (k : ℕ). rest o k (over c n) G) f

-- ---- as the code computes

-- v << h keeps the low 64 - h bits of v
shl-part : (v h : ℕ) → h ≤ 64 → v < 2 ^ 64 → (v * 2 ^ h) % 2 ^ 64 ≡ v % 2 ^ (64 - h) * 2 ^ h
unfolding skipped join first rest
shl-part v h l hv =
    let e : 64 ≡ h + (64 - h) = omega arith in
    let lt : v < 2 ^ (h + (64 - h)) = subst (λ (k : ℕ). v < 2 ^ k) e hv in
    ap (skipped Big h) (sym (join_parts Big h (64 - h) v))
    ∙ skipped-join Big h l (first-lt Big h (64 - h) lt) (rest_lt Big h (64 - h) lt)
    ∙ add-zero (v % 2 ^ (64 - h) * 2 ^ h)

module _ (c : State) (small : c.number < 2 ^ c.held) (few : c.held ≤ 7) (n v : ℕ) where
  -- (v << h) + x
  pub front_little : v < 2 ^ 64 → (v * 2 ^ c.held) % 2 ^ 64 + c.number ≡ front_word Little c n v
  unfolding front_word join first held
  front_little hv = ap (λ (k : ℕ). k + c.number) (shl-part v c.held (omega arith) hv) ∙ simp (zero-mul, zero-add)

  -- ((x << (63 - h)) << 1) + ((v << (64 - n)) >> h)
  pub front_big : n ≤ 64 → v < 2 ^ n
      → (c.number * 2 ^ (63 - c.held)) % 2 ^ 64 * 2 ^ 1 % 2 ^ 64 + (v * 2 ^ (64 - n)) % 2 ^ 64 / 2 ^ c.held ≡ front_word Big c n v
  unfolding front_word join first held
  front_big l hv =
      let e : n + (64 - n) ≤ 64 = omega arith in
      ap₂ (λ (i j : ℕ). i + j / 2 ^ c.held) (to_the_top c.held (omega arith) small) (shl_exact n (64 - n) 64 hv e ∙ sym (add-zero (v * 2 ^ (64 - n))))
