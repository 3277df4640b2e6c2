-- The eight bytes of a word in both orders, which are those of the library, and the one order's bytes out of the other's.
use mathlib.Core.Path.{◌≡◌, refl, sym, ap, ◌∙◌, subst}
use Prim.Native.Nat.{ℕ, zero, suc, ◌+◌, ◌-◌, ◌*◌, ◌/◌, ◌%◌, ◌^◌, ◌<◌, ◌≤◌}
use native.Mathlib.Nat.{mod-lt, mod-eq_of_lt}
use mathlib.Core.List.{List, [], ◌∷◌}
use lib.ListN.{get_or, take}
use lib.Pow.{pow_pos, shr_lt, shr-shr, split}
use Rattle.std.specs.Int.{w64, to_le_bytes, to_be_bytes}
use Rattle.bits.specs.declared.Order.TheVariants.{Little, Big}
use Rattle.bits.specs.Field.{field}
use Rattle.bits.proofs.FieldLaws.{field_lt}
use Rattle.words.specs.Eight.{eight, swapped}
use Rattle.words.proofs.EightLaws.{big8, little8}
use Rattle.packing.specs.Packing.{bytes_of}
use Rattle.packing.proofs.BytesLaws.{bytes_field, bytes_first}

-- lists of numbers below 2 ^ 8
data Small : List ℕ → Type 0 where
  none : Small []
  more : {b : ℕ} {bs : List ℕ} → b < 2 ^ 8 → Small bs → Small (b ∷ bs)

small_at : {bs : List ℕ} → Small bs → (i : ℕ) → get_or bs i 0 < 2 ^ 8
small_at none i = pow_pos 8
small_at (more h hs) zero = h
small_at (more h hs) (suc i) = small_at hs i

-- byte k of a word and those above it
byte_above : (x k : ℕ) → x / 2 ^ (k + 8) * 2 ^ 8 + x / 2 ^ k % 2 ^ 8 ≡ x / 2 ^ k
byte_above x k = ap (λ (n : ℕ). n * 2 ^ 8 + x / 2 ^ k % 2 ^ 8) (sym (shr-shr x k 8)) ∙ split (x / 2 ^ k) 8

byte_lt : (x k : ℕ) → x / k % 2 ^ 8 < 2 ^ 8
byte_lt x k = mod-lt (x / k) (pow_pos 8)

module _ (x : ℕ) (h : x < 2 ^ 64) where
  word_eight : eight (x / 0x100000000000000 % 256) (x / 0x1000000000000 % 256) (x / 0x10000000000 % 256) (x / 0x100000000 % 256) (x / 0x1000000 % 256) (x / 0x10000 % 256) (x / 0x100 % 256) (x % 256) ≡ x
  word_eight = rw (mod-eq_of_lt (shr_lt 8 56 h), byte_above x 48, byte_above x 40, byte_above x 32, byte_above x 24, byte_above x 16, byte_above x 8) (split x 8)

  down_small : (i : ℕ) → get_or (to_be_bytes w64 x) i 0 < 2 ^ 8
  down_small =
      small_at (more (byte_lt x _) (more (byte_lt x _) (more (byte_lt x _) (more (byte_lt x _) (more (byte_lt x _) (more (byte_lt x _)
      (more (byte_lt x _) (more (mod-lt x (pow_pos 8)) none))))))))

  up_small : (i : ℕ) → get_or (to_le_bytes w64 x) i 0 < 2 ^ 8
  up_small =
      small_at (more (mod-lt x (pow_pos 8)) (more (byte_lt x _) (more (byte_lt x _) (more (byte_lt x _) (more (byte_lt x _) (more (byte_lt x _)
      (more (byte_lt x _) (more (byte_lt x _) none))))))))

  pub bytes_little : bytes_of Little 8 0 x ≡ to_le_bytes w64 x
  bytes_little = ap (bytes_of Little 8 0) (sym (little8 (to_le_bytes w64 x) 0 up_small ∙ word_eight)) ∙ bytes_field Little (to_le_bytes w64 x) up_small

  pub bytes_big : bytes_of Big 8 0 x ≡ to_be_bytes w64 x
  bytes_big = ap (bytes_of Big 8 0) (sym (big8 (to_be_bytes w64 x) 0 down_small ∙ word_eight)) ∙ bytes_field Big (to_be_bytes w64 x) down_small

  swapped_is : field Little (to_be_bytes w64 x) 0 64 ≡ swapped x
  swapped_is = little8 (to_be_bytes w64 x) 0 down_small ∙ rw (mod-eq_of_lt (shr_lt 8 56 h)) refl

  -- the bytes of a word, the most significant first, are those of the swapped word, the least significant first
  pub bytes_swapped : bytes_of Little 8 0 (swapped x) ≡ bytes_of Big 8 0 x
  bytes_swapped = ap (bytes_of Little 8 0) (sym swapped_is) ∙ bytes_field Little (to_be_bytes w64 x) down_small ∙ sym bytes_big

  swapped-lt : swapped x < 2 ^ 64
  swapped-lt = subst (λ (k : ℕ). k < 2 ^ 64) swapped_is (field_lt Little (to_be_bytes w64 x) 0 64)

  -- and so are the first k of them
  pub first-swapped : (k : ℕ) → k ≤ 8 → bytes_of Little k (64 - 8 * k) (swapped x) ≡ bytes_of Big k (64 - 8 * k) x
  first-swapped k l = bytes_first Little k l swapped-lt ∙ ap (take k) bytes_swapped ∙ sym (bytes_first Big k l h)
