-- Fields of eight whole bytes, in both orders.
use mathlib.Core.Path.{◌≡◌, refl, sym, ap, ◌∙◌}
use Prim.Native.Nat.{ℕ, ◌+◌, ◌-◌, ◌*◌, ◌/◌, ◌%◌, ◌^◌, ◌<◌, ◌≤◌}
use native.Mathlib.Nat.{add-zero, zero-mul, zero-add, div-one, mod-eq_of_lt}
use native.Mathlib.Omega.{arith}
use mathlib.Core.List.{List}
use lib.ListN.{get_or}
use lib.Pow.{shr_lt}
use Rattle.bits.specs.declared.Order.{Order}
use Rattle.bits.specs.declared.Order.TheVariants.{Little, Big}
use Rattle.bits.specs.Field.{join, field}
use Rattle.bits.specs.Word.{first, skipped}
use Rattle.bits.proofs.FieldLaws.{field_lt, field_byte, field_next_byte, field_split}
use Rattle.bits.proofs.WordLaws.{first-skipped}
use Rattle.words.specs.Eight.{eight, swapped}

-- a byte, and the n bytes after it
pub byte_first : (o : Order) (s : List ℕ) (at n : ℕ) → get_or s at 0 < 2 ^ 8 → join o 8 (8 * n) (get_or s at 0) (field o s (8 * (at + 1)) (8 * n)) ≡ field o s (8 * at) (8 * (n + 1))
byte_first o s at n b =
    let e : 8 * (at + 1) ≡ 8 * at + 8 = omega arith in
    let f : 8 * (n + 1) ≡ 8 + 8 * n = omega arith in
    rw (f, field_split o s (8 * at) 8 (8 * n), e, field_byte o s at b)

-- a field of at most 57 bits lies within the 64 bits from its place's byte on
pub in_window : (o : Order) (s : List ℕ) (p w : ℕ) → w ≤ 57 → first o w (64 - w) (skipped o (p % 8) (field o s (8 * (p / 8)) 64)) ≡ field o s p w
in_window o s p w h =
    let e : 8 * (p / 8) + p % 8 ≡ p = omega arith in
    first-skipped o s (8 * (p / 8)) (p % 8) w (omega arith) ∙ ap (λ (q : ℕ). field o s q w) e

module _ (s : List ℕ) (at : ℕ) (b : (i : ℕ) → get_or s i 0 < 2 ^ 8) where
  -- the first i bytes, and one byte more
  one_more : (o : Order) (i : ℕ) {v : ℕ} → field o s (8 * at) (8 * i) ≡ v → field o s (8 * at) (8 * (i + 1)) ≡ join o (8 * i) 8 v (get_or s (at + i) 0)
  one_more o i e = sym (field_next_byte o s at i (b (at + i))) ∙ ap (λ (v : ℕ). join o (8 * i) 8 v (get_or s (at + i) 0)) e

  -- all eight, joined one by one
  field_of_eight : (o : Order) → field o s (8 * at) 64 ≡
      join o 56 8 (join o 48 8 (join o 40 8 (join o 32 8 (join o 24 8 (join o 16 8 (join o 8 8 (join o 0 8 0
      (get_or s (at + 0) 0)) (get_or s (at + 1) 0)) (get_or s (at + 2) 0)) (get_or s (at + 3) 0)) (get_or s (at + 4) 0)) (get_or s (at + 5) 0)) (get_or s (at + 6) 0)) (get_or s (at + 7) 0)
  unfolding field
  field_of_eight o = one_more o 7 (one_more o 6 (one_more o 5 (one_more o 4 (one_more o 3 (one_more o 2 (one_more o 1 (one_more o 0 refl)))))))

  -- the first byte is the most significant
  pub big8 : field Big s (8 * at) 64 ≡
      eight (get_or s at 0) (get_or s (at + 1) 0) (get_or s (at + 2) 0) (get_or s (at + 3) 0)
      (get_or s (at + 4) 0) (get_or s (at + 5) 0) (get_or s (at + 6) 0) (get_or s (at + 7) 0)
  unfolding join
  big8 = field_of_eight Big ∙ rw (add-zero at, zero-mul, zero-add)

  -- the first byte is the least significant
  pub little8 : field Little s (8 * at) 64 ≡
      eight (get_or s (at + 7) 0) (get_or s (at + 6) 0) (get_or s (at + 5) 0) (get_or s (at + 4) 0)
      (get_or s (at + 3) 0) (get_or s (at + 2) 0) (get_or s (at + 1) 0) (get_or s at 0)
  unfolding join
  little8 = field_of_eight Little ∙ rw (add-zero at) (omega arith)

  -- byte k of the number, counted from its low end, is byte k of the eight
  pub byte_of_little : (k : ℕ) → k < 8 → field Little s (8 * at) 64 / 2 ^ (8 * k) % 2 ^ 8 ≡ get_or s (at + k) 0
  unfolding first skipped
  byte_of_little k h =
      let e : 8 * at + 8 * k ≡ 8 * (at + k) = omega arith in
      first-skipped Little s (8 * at) (8 * k) 8 (omega arith) ∙ ap (λ (p : ℕ). field Little s p 8) e ∙ field_byte Little s (at + k) (b (at + k))

  -- the one load out of the other
  pub swapped-field : swapped (field Little s (8 * at) 64) ≡ field Big s (8 * at) 64
  swapped-field =
      let v : ℕ = field Little s (8 * at) 64 in
      let lowest : v % 2 ^ 8 ≡ get_or s at 0 =
      ap (λ (n : ℕ). n % 2 ^ 8) (sym (div-one v)) ∙ byte_of_little 0 (omega arith) ∙ ap (λ (k : ℕ). get_or s k 0) (add-zero at) in
      let highest : v / 2 ^ 56 ≡ get_or s (at + 7) 0 =
      sym (mod-eq_of_lt (shr_lt 8 56 (field_lt Little s (8 * at) 64))) ∙ byte_of_little 7 (omega arith) in
      (λ i. eight (lowest i) (byte_of_little 1 (omega arith) i) (byte_of_little 2 (omega arith) i) (byte_of_little 3 (omega arith) i)
      (byte_of_little 4 (omega arith) i) (byte_of_little 5 (omega arith) i) (byte_of_little 6 (omega arith) i) (highest i))
      ∙ sym big8
