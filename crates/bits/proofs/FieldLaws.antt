-- Laws of fields, over the order and the width.
use mathlib.Core.Path.{◌≡◌, refl, sym, ap, ap₂, ◌∙◌, subst}
use Prim.Native.Nat.{ℕ, zero, suc, ◌+◌, ◌-◌, ◌*◌, ◌/◌, ◌%◌, ◌^◌, ◌<◌, ◌≤◌}
use native.Mathlib.Nat.{add_assoc, add-zero, zero-lt-suc, add-suc, mod-lt, mod-one, mod-eq_of_lt, div-one, div-eq_of_lt, le_refl, add-sub_of_le}
use native.Mathlib.Numerals.{add-one, one-add}
use native.Mathlib.Omega.{arith}
use mathlib.Core.List.{List, ◌++◌}
use lib.ListN.{get_or, length, get_or-append}
use lib.Seq.{get_or-append-add}
use lib.Pow.{pow_pos, mod-pow-add, shr-shr, split}
use Rattle.bits.specs.declared.Order.{Order}
use Rattle.bits.specs.declared.Order.TheVariants.{Little, Big}
use Rattle.bits.specs.Field.{position, bit, join, field}
use Rattle.bits.specs.Word.{first, rest}
use Rattle.bits.proofs.JoinLaws.{join-lt, join_assoc, join_none, first-join, rest-join}

pub bit-lt : (o : Order) (s : List ℕ) (k : ℕ) → bit o s k < 2 ^ 1
unfolding bit
bit-lt o s k = mod-lt (get_or s (k / 8) 0 / 2 ^ position o k) (zero-lt-suc 1)

-- a field is below 2 to its width
pub field_lt : (o : Order) (s : List ℕ) (p w : ℕ) → field o s p w < 2 ^ w
unfolding field
field_lt o s p zero = pow_pos 0
field_lt o s p (suc w) =
    subst (λ (n : ℕ). join o w 1 (field o s p w) (bit o s (p + w)) < 2 ^ n) (add-one w) (join-lt o w 1 (field_lt o s p w) (bit-lt o s (p + w)))

-- a field of a + b bits is its first a and the b after them
pub field_split : (o : Order) (s : List ℕ) (p a b : ℕ) → field o s p (a + b) ≡ join o a b (field o s p a) (field o s (p + a) b)
unfolding field
field_split o s p a zero = ap (field o s p) (add-zero a) ∙ sym (join_none o a (field o s p a))
field_split o s p a (suc b) =
    ap (field o s p) (add-suc a b)
    ∙ ap (λ (n : ℕ). join o (a + b) 1 n (bit o s (p + (a + b)))) (field_split o s p a b)
    ∙ join_assoc o a b 1 (field o s p a) (field o s (p + a) b) (bit o s (p + (a + b)))
    ∙ ap₂ (λ (n m : ℕ). join o a n (field o s p a) (join o b 1 (field o s (p + a) b) (bit o s m))) (add-one b) (sym (add_assoc p a b))

-- a field of w bits cut after n of them
pub field_cut : (o : Order) (s : List ℕ) (p n w : ℕ) → n ≤ w → field o s p w ≡ join o n (w - n) (field o s p n) (field o s (p + n) (w - n))
field_cut o s p n w h = ap (field o s p) (sym (add-sub_of_le h)) ∙ field_split o s p n (w - n)

-- the two parts of a field
module _ (o : Order) (s : List ℕ) (p a b : ℕ) where
  pub field-first : first o a b (field o s p (a + b)) ≡ field o s p a
  field-first = ap (first o a b) (field_split o s p a b) ∙ first-join o a b (field_lt o s p a) (field_lt o s (p + a) b)

  pub field-rest : rest o a b (field o s p (a + b)) ≡ field o s (p + a) b
  field-rest = ap (rest o a b) (field_split o s p a b) ∙ rest-join o a b (field_lt o s p a) (field_lt o s (p + a) b)

  -- of a field that is two numbers joined
  module _ {x y : ℕ} (hx : x < 2 ^ a) (hy : y < 2 ^ b) (e : field o s p (a + b) ≡ join o a b x y) where
    pub head_is : field o s p a ≡ x
    head_is = sym field-first ∙ ap (first o a b) e ∙ first-join o a b hx hy

    pub tail_is : field o s (p + a) b ≡ y
    tail_is = sym field-rest ∙ ap (rest o a b) e ∙ rest-join o a b hx hy

-- equal bits give equal fields
pub field_same : (o : Order) (s t : List ℕ) (p q w : ℕ) → ((k : ℕ) → k < w → bit o s (p + k) ≡ bit o t (q + k)) → field o s p w ≡ field o t q w
unfolding field
field_same o s t p q zero e = refl
field_same o s t p q (suc w) e =
    ap₂ (join o w 1) (field_same o s t p q w (λ k h. e k (omega arith))) (e w (omega arith))

-- bits of equal bytes are equal
pub bit_same : (o : Order) (s t : List ℕ) (k : ℕ) → get_or s (k / 8) 0 ≡ get_or t (k / 8) 0 → bit o s k ≡ bit o t k
unfolding bit
bit_same o s t k e = ap (λ (b : ℕ). b / 2 ^ position o k % 2) e

-- ---- bytes

-- one bit more of a number: below, and above
low_bit : (v w : ℕ) → v % 2 ^ suc w ≡ (v / 2 ^ w % 2) * 2 ^ w + v % 2 ^ w
low_bit v w = ap (λ (n : ℕ). v % 2 ^ n) (sym (one-add w)) ∙ mod-pow-add v 1 w

high_bit : (v j : ℕ) → v / 2 ^ j ≡ v / 2 ^ (j + 1) * 2 ^ 1 + v / 2 ^ j % 2
high_bit v j = sym (ap (λ (n : ℕ). n * 2 ^ 1 + v / 2 ^ j % 2) (sym (shr-shr v j 1)) ∙ split (v / 2 ^ j) 1)

-- the bits of byte i
in_byte : (i w : ℕ) → w < 8 → (8 * i + w) / 8 ≡ i
in_byte i w h = omega arith

at_bit : (i w : ℕ) → w < 8 → (8 * i + w) % 8 ≡ w
at_bit i w h = omega arith

-- the first w bits of a byte
field_of_byte : (o : Order) (s : List ℕ) (i w : ℕ) → get_or s i 0 < 2 ^ 8 → w ≤ 8 → field o s (8 * i) w ≡ first o w (8 - w) (get_or s i 0)
unfolding field first join bit position
field_of_byte Little s i zero b h = sym (mod-one (get_or s i 0))
field_of_byte Big s i zero b h = sym (div-eq_of_lt b)
field_of_byte Little s i (suc w) b h =
    let l : w ≤ 8 = omega arith in
    rw (field_of_byte Little s i w b l, in_byte i w h, at_bit i w h, low_bit (get_or s i 0) w)
field_of_byte Big s i (suc w) b h =
    let l : w ≤ 8 = omega arith in
    let e : 8 - w ≡ 8 - suc w + 1 = omega arith in
    let f : 7 - w ≡ 8 - suc w = omega arith in
    rw (field_of_byte Big s i w b l, in_byte i w h, at_bit i w h, e, f) (sym (high_bit (get_or s i 0) (8 - suc w)))

-- the field of eight bits at a byte's place is the byte, in both orders
pub field_byte : (o : Order) (s : List ℕ) (i : ℕ) → get_or s i 0 < 2 ^ 8 → field o s (8 * i) 8 ≡ get_or s i 0
unfolding first
field_byte Little s i b = field_of_byte Little s i 8 b (le_refl 8) ∙ mod-eq_of_lt b
field_byte Big s i b = field_of_byte Big s i 8 b (le_refl 8) ∙ div-one (get_or s i 0)

-- the first n bits of byte i, and the others
module _ (o : Order) (s : List ℕ) (i n : ℕ) (b : get_or s i 0 < 2 ^ 8) (h : n ≤ 8) where
  whole : field o s (8 * i) (n + (8 - n)) ≡ get_or s i 0
  whole = ap (field o s (8 * i)) (add-sub_of_le h) ∙ field_byte o s i b

  pub byte_first : first o n (8 - n) (get_or s i 0) ≡ field o s (8 * i) n
  byte_first = ap (first o n (8 - n)) (sym whole) ∙ field-first o s (8 * i) n (8 - n)

  pub byte_rest : rest o n (8 - n) (get_or s i 0) ≡ field o s (8 * i + n) (8 - n)
  byte_rest = ap (rest o n (8 - n)) (sym whole) ∙ field-rest o s (8 * i) n (8 - n)

-- whole bytes, and one byte more
pub field_next_byte : (o : Order) (s : List ℕ) (at i : ℕ) → get_or s (at + i) 0 < 2 ^ 8 → join o (8 * i) 8 (field o s (8 * at) (8 * i)) (get_or s (at + i) 0) ≡ field o s (8 * at) (8 * (i + 1))
field_next_byte o s at i b =
    let e : 8 * at + 8 * i ≡ 8 * (at + i) = omega arith in
    let f : 8 * (i + 1) ≡ 8 * i + 8 = omega arith in
    rw (f, field_split o s (8 * at) (8 * i) 8, e, field_byte o s (at + i) b)

-- ---- lists put together

module _ (o : Order) (a b : List ℕ) where
  -- a bit of the first, and one of the second
  bit_before : (k : ℕ) → k < 8 * length a → bit o (a ++ b) k ≡ bit o a k
  bit_before k h = bit_same o (a ++ b) a k (get_or-append a b 0 (k / 8) (omega arith))

  bit-behind : (k : ℕ) → bit o (a ++ b) (8 * length a + k) ≡ bit o b k
  unfolding bit position
  bit-behind k = by_order_lem o
    where
      e : (8 * length a + k) / 8 ≡ length a + k / 8
      e = omega arith

      f : (8 * length a + k) % 8 ≡ k % 8
      f = omega arith

      by_order_lem : (o : Order) → get_or (a ++ b) ((8 * length a + k) / 8) 0 / 2 ^ position o (8 * length a + k) % 2 ≡ get_or b (k / 8) 0 / 2 ^ position o k % 2
      by_order_lem Little = rw (e, f, get_or-append-add a b (k / 8) 0)
      by_order_lem Big = rw (e, f, get_or-append-add a b (k / 8) 0)

  -- a field in the first, and one in the second
  pub field_before : (p w : ℕ) → p + w ≤ 8 * length a → field o (a ++ b) p w ≡ field o a p w
  field_before p w h = field_same o (a ++ b) a p p w (λ k l. bit_before (p + k) (omega arith))

  pub field-behind : (p w : ℕ) → field o (a ++ b) (8 * length a + p) w ≡ field o b p w
  field-behind p w = field_same o (a ++ b) b (8 * length a + p) p w (λ k l. ap (bit o (a ++ b)) (add_assoc (8 * length a) p k) ∙ bit-behind (p + k))
