-- Laws of fields of eight bits, one after the other: as a list, as bytes, and out of two neighbours.
use mathlib.Core.Path.{◌≡◌, sym, ap, ap₂, ◌∙◌, subst}
use Prim.Native.Nat.{ℕ, ◌+◌, ◌-◌, ◌*◌, ◌/◌, ◌%◌, ◌^◌, ◌<◌, ◌≤◌}
use native.Mathlib.Nat.{add-zero, mul-mod_left}
use native.Mathlib.Omega.{arith}
use mathlib.Core.List.{List}
use lib.ListN.{length, get_or}
use lib.Pow.{mod-pow-add, shl-shr, shr_lt}
use lib.Bits.{bit_xor, xor_shifted}
use Rattle.bits.specs.declared.Order.{Order}
use Rattle.bits.specs.declared.Order.TheVariants.{Little, Big}
use Rattle.bits.specs.Field.{join, field}
use Rattle.bits.specs.Word.{first, rest}
use Rattle.bits.proofs.FieldLaws.{field_split, field_byte, byte_first, byte_rest}
use Rattle.octets.specs.Octets.{firsts, octets, by_order, straddled}
use Rattle.octets.proofs.FirstsLaws.{length-firsts, get_d_firsts, firsts_same}

module _ (o : Order) (s : List ℕ) (p : ℕ) where
  pub length-octets : (n : ℕ) → length (octets o s p n) ≡ n
  unfolding octets
  length-octets = length-firsts (λ i. field o s (p + 8 * i) 8)

  pub get_d_octets : (n i : ℕ) → i < n → get_or (octets o s p n) i 0 ≡ field o s (p + 8 * i) 8
  unfolding octets
  get_d_octets = get_d_firsts (λ i. field o s (p + 8 * i) 8)

-- ---- as the code computes

-- x << a keeps the low b bits of x, where a + b bits are kept
shl_low : (x a b : ℕ) → (x * 2 ^ a) % 2 ^ (b + a) ≡ x % 2 ^ b * 2 ^ a
shl_low x a b = mod-pow-add (x * 2 ^ a) b a ∙ simp (shl-shr, mul-mod_left, add-zero)

-- (x << k) ^ (y >> (8 - k)), of bytes
pub straddled_is : (x y k : ℕ) → k ≤ 8 → y < 2 ^ 8 → bit_xor ((x * 2 ^ k) % 2 ^ 8) (y / 2 ^ (8 - k)) ≡ straddled x y k
unfolding straddled
straddled_is x y k l h =
    let e : 8 - k + k ≡ 8 = omega arith in
    let f : 8 ≡ k + (8 - k) = omega arith in
    ap (λ (m : ℕ). bit_xor ((x * 2 ^ k) % 2 ^ m) (y / 2 ^ (8 - k))) (sym e)
    ∙ ap (λ (m : ℕ). bit_xor m (y / 2 ^ (8 - k))) (shl_low x k (8 - k))
    ∙ xor_shifted (x % 2 ^ (8 - k)) k (y / 2 ^ (8 - k)) (shr_lt k (8 - k) (subst (λ (m : ℕ). y < 2 ^ m) f h))

-- what holds of both numbers holds of the one that the order picks
pub either_way : (P : ℕ → Type 0) {l b : ℕ} → P l → P b → (o : Order) → P (by_order o l b)
unfolding by_order
either_way P p q Little = p
either_way P p q Big = q

-- ---- fields of a slice of bytes

module _ (o : Order) (s : List ℕ) (b : (i : ℕ) → get_or s i 0 < 2 ^ 8) where
  -- a field of eight bits from two neighbours
  pub field_straddle : (at n i : ℕ) → n ≤ 8 → join o (8 - n) n (rest o n (8 - n) (get_or s (at + i) 0)) (first o n (8 - n) (get_or s (at + i + 1) 0)) ≡ field o s (8 * at + n + 8 * i) 8
  field_straddle at n i h =
      let e : 8 - n + n ≡ 8 = omega arith in
      let p : 8 * (at + i + 1) ≡ 8 * (at + i) + n + (8 - n) = omega arith in
      let q : 8 * (at + i) + n ≡ 8 * at + n + 8 * i = omega arith in
      ap₂ (join o (8 - n) n) (byte_rest o s (at + i) n (b (at + i)) h) (byte_first o s (at + i + 1) n (b (at + i + 1)) h ∙ ap (λ (k : ℕ). field o s k n) p)
      ∙ sym (field_split o s (8 * (at + i) + n) (8 - n) n)
      ∙ ap₂ (field o s) q e

  -- the same as a straddle, of bytes at places that the order picks
  pub straddled-field : (at n i : ℕ) → n ≤ 8
      → straddled (get_or s (by_order o (at + 1) at + i) 0) (get_or s (by_order o at (at + 1) + i) 0) (by_order o (8 - n) n) ≡ field o s (8 * at + n + 8 * i) 8
  unfolding straddled by_order join first rest
  straddled-field at n i h = by_order_lem o ∙ field_straddle at n i h
    where
      e : at + 1 + i ≡ at + i + 1
      e = omega arith

      f : 8 - (8 - n) ≡ n
      f = omega arith

      by_order_lem : (o : Order) → straddled (get_or s (by_order o (at + 1) at + i) 0) (get_or s (by_order o at (at + 1) + i) 0) (by_order o (8 - n) n)
          ≡ join o (8 - n) n (rest o n (8 - n) (get_or s (at + i) 0)) (first o n (8 - n) (get_or s (at + i + 1) 0))
      by_order_lem Little = rw (e, f)
      by_order_lem Big = rw e

  -- at a byte's place the fields are the bytes
  pub octets_bytes : (at n : ℕ) → octets o s (8 * at) n ≡ firsts (λ i. get_or s (at + i) 0) n
  unfolding octets
  octets_bytes at n =
      firsts_same (λ i. field o s (8 * at + 8 * i) 8) (λ i. get_or s (at + i) 0) n
      (λ i h. let e : 8 * at + 8 * i ≡ 8 * (at + i) = omega arith in ap (λ (p : ℕ). field o s p 8) e ∙ field_byte o s (at + i) (b (at + i)))
