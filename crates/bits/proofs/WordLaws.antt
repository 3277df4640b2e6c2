-- What the operations on words of 64 bits do to the fields that a word holds, over the order.
use mathlib.Core.Path.{◌≡◌, sym, ap, ap₂, ◌∙◌, subst}
use Prim.Native.Nat.{ℕ, ◌+◌, ◌-◌, ◌*◌, ◌%◌, ◌^◌, ◌<◌, ◌≤◌, suc-le-suc}
use native.Mathlib.Nat.{add-zero, zero-add, zero-mul, one-mul, mul_assoc, add-mul, mod-eq_of_lt, sub-add_cancel, le_refl, le_trans, lt_of_lt_of_le}
use native.Mathlib.Omega.{arith}
use mathlib.Core.List.{List}
use lib.Arith.{digits_mod}
use lib.Bits.{bit_and, and_mask}
use lib.Pow.{pow_pos, pow-add, pow-lt, pow_mono, high, shl_lt, shl_exact}
use Rattle.bits.specs.declared.Order.{Order}
use Rattle.bits.specs.declared.Order.TheVariants.{Little, Big}
use Rattle.bits.specs.Field.{join, field}
use Rattle.bits.specs.Word.{first, held, skipped}
use Rattle.bits.proofs.JoinLaws.{above_lt, join-lt, join_assoc, join_zeros, first-join}
use Rattle.bits.proofs.FieldLaws.{field_lt, field_cut}

-- ---- as the code computes

-- 1 << n
pub one_shl : (n : ℕ) → n ≤ 63 → (1 * 2 ^ n) % 2 ^ 64 ≡ 2 ^ n
one_shl n h = ap (λ (x : ℕ). x % 2 ^ 64) (one-mul (2 ^ n)) ∙ mod-eq_of_lt (pow-lt (suc-le-suc h))

-- v & ((1 << n) - 1)
pub mask_is : (v n : ℕ) → n ≤ 63 → bit_and v ((1 * 2 ^ n) % 2 ^ 64 - 1) ≡ v % 2 ^ n
mask_is v n h = ap (λ (x : ℕ). bit_and v (x - 1)) (one_shl n h) ∙ and_mask v n

-- (y << a) + x, of b bits y and a bits x
pub above : {x y : ℕ} (a b : ℕ) → a + b ≤ 64 → x < 2 ^ a → y < 2 ^ b → ((y * 2 ^ a) % 2 ^ 64 + x ≡ y * 2 ^ a + x) × (y * 2 ^ a + x < 2 ^ 64)
above {x} a b h hx hy =
    let g : b + a ≤ 64 = omega arith in
    (ap (λ (k : ℕ). k + x) (shl_exact b a 64 hy g), lt_of_lt_of_le (above_lt a b hx hy) (pow_mono g))

-- (v << (63 - n)) << 1, of n bits v
pub to_the_top : {v : ℕ} (n : ℕ) → n ≤ 63 → v < 2 ^ n → (v * 2 ^ (63 - n)) % 2 ^ 64 * 2 ^ 1 % 2 ^ 64 ≡ v * 2 ^ (64 - n)
to_the_top {v} n h l =
    let e : n + (63 - n) ≡ 63 = omega arith in
    let f : 63 - n + 1 ≡ 64 - n = omega arith in
    let g : n + (63 - n) ≤ 64 = omega arith in
    let u : v * 2 ^ (63 - n) < 2 ^ 63 = subst (λ (k : ℕ). v * 2 ^ (63 - n) < 2 ^ k) e (shl_lt n (63 - n) l) in
    ap (λ (k : ℕ). k * 2 ^ 1 % 2 ^ 64) (shl_exact n (63 - n) 64 l g) ∙ shl_exact 63 1 64 u (le_refl 64)
    ∙ mul_assoc v (2 ^ (63 - n)) (2 ^ 1) ∙ ap (λ (k : ℕ). v * k) (sym (pow-add 2 (63 - n) 1) ∙ ap (λ (k : ℕ). 2 ^ k) f)

-- ---- words that were joined

-- the low part of x and y moved up by n, with x moved out
moved : (x y n : ℕ) → n ≤ 64 → y < 2 ^ (64 - n) → ((x * 2 ^ (64 - n) + y) * 2 ^ n) % 2 ^ 64 ≡ y * 2 ^ n
moved x y n h l =
    let e : 2 ^ (64 - n) * 2 ^ n ≡ 2 ^ 64 = sym (pow-add 2 (64 - n) n) ∙ ap (λ (k : ℕ). 2 ^ k) (sub-add_cancel h) in
    ap (λ (k : ℕ). k % 2 ^ 64) (add-mul (x * 2 ^ (64 - n)) y (2 ^ n) ∙ ap (λ (k : ℕ). k + y * 2 ^ n) (mul_assoc x (2 ^ (64 - n)) (2 ^ n) ∙ ap (λ (k : ℕ). x * k) e))
    ∙ digits_mod x (subst (λ (k : ℕ). y * 2 ^ n < k) (ap (λ (k : ℕ). 2 ^ k) (sub-add_cancel h)) (shl_lt (64 - n) n l))

pub skipped-join : (o : Order) (n : ℕ) {x y : ℕ} → n ≤ 64 → x < 2 ^ n → y < 2 ^ (64 - n) → skipped o n (join o n (64 - n) x y) ≡ join o (64 - n) n y 0
unfolding join skipped
skipped-join Little n {x} {y} h hx hy = high y n hx ∙ sym (ap (λ (k : ℕ). k + y) (zero-mul (2 ^ (64 - n))) ∙ zero-add y)
skipped-join Big n {x} {y} h hx hy = moved x y n h hy ∙ sym (add-zero (y * 2 ^ n))

-- ---- words that hold fields

module _ (o : Order) (s : List ℕ) where
  -- what is held, cut after n bits
  held_cut : (p n l : ℕ) → n ≤ l → l ≤ 64 → held o l (field o s p l) ≡ join o n (64 - n) (field o s p n) (join o (l - n) (64 - l) (field o s (p + n) (l - n)) 0)
  unfolding held
  held_cut p n l h g =
      let e : l ≡ n + (l - n) = omega arith in
      let f : l - n + (64 - l) ≡ 64 - n = omega arith in
      let x : ℕ = field o s p n in
      let y : ℕ = field o s (p + n) (l - n) in
      ap (λ (k : ℕ). join o l (64 - l) k 0) (field_cut o s p n l h)
      ∙ ap (λ (k : ℕ). join o k (64 - l) (join o n (l - n) x y) 0) e
      ∙ join_assoc o n (l - n) (64 - l) x y 0
      ∙ ap (λ (k : ℕ). join o n k x (join o (l - n) (64 - l) y 0)) f

  after-lt : (p n l : ℕ) → n ≤ l → l ≤ 64 → join o (l - n) (64 - l) (field o s (p + n) (l - n)) 0 < 2 ^ (64 - n)
  after-lt p n l h g =
      let f : l - n + (64 - l) ≡ 64 - n = omega arith in
      subst (λ (k : ℕ). join o (l - n) (64 - l) (field o s (p + n) (l - n)) 0 < 2 ^ k) f (join-lt o (l - n) (64 - l) (field_lt o s (p + n) (l - n)) (pow_pos (64 - l)))

  -- the first n bits of l that are held
  pub first-held : (p n l : ℕ) → n ≤ l → l ≤ 64 → first o n (64 - n) (held o l (field o s p l)) ≡ field o s p n
  first-held p n l h g = ap (first o n (64 - n)) (held_cut p n l h g) ∙ first-join o n (64 - n) (field_lt o s p n) (after-lt p n l h g)

  -- l bits that are held, without the first n
  pub skipped-held : (p n l : ℕ) → n ≤ l → l ≤ 64 → skipped o n (held o l (field o s p l)) ≡ held o (l - n) (field o s (p + n) (l - n))
  unfolding held
  skipped-held p n l h g =
      let e : 64 - n ≡ l - n + (64 - l) = omega arith in
      let f : 64 - l + n ≡ 64 - (l - n) = omega arith in
      let y : ℕ = field o s (p + n) (l - n) in
      ap (skipped o n) (held_cut p n l h g)
      ∙ skipped-join o n (le_trans h g) (field_lt o s p n) (after-lt p n l h g)
      ∙ ap (λ (k : ℕ). join o k n (join o (l - n) (64 - l) y 0) 0) e
      ∙ join_assoc o (l - n) (64 - l) n y 0 0
      ∙ ap₂ (λ (k z : ℕ). join o (l - n) k y z) f (join_zeros o (64 - l) n)

  -- a whole word without its first k bits
  pub skipped-field : (q k : ℕ) → k ≤ 64 → skipped o k (field o s q 64) ≡ held o (64 - k) (field o s (q + k) (64 - k))
  unfolding held
  skipped-field q k h =
      let f : k ≡ 64 - (64 - k) = omega arith in
      ap (skipped o k) (field_cut o s q k 64 h) ∙ skipped-join o k h (field_lt o s q k) (field_lt o s (q + k) (64 - k))
      ∙ ap (λ (m : ℕ). join o (64 - k) m (field o s (q + k) (64 - k)) 0) f

  -- any w bits of a whole word, as a number
  pub first-skipped : (q k w : ℕ) → k + w ≤ 64 → first o w (64 - w) (skipped o k (field o s q 64)) ≡ field o s (q + k) w
  first-skipped q k w h =
      let a : k ≤ 64 = omega arith in
      let b : w ≤ 64 - k = omega arith in
      let g : 64 - k ≤ 64 = omega arith in
      ap (first o w (64 - w)) (skipped-field q k a) ∙ first-held (q + k) w (64 - k) b g

  -- the last l bits of a whole word, held; one bit goes first, so that no shift is by 64
  pub last_held : (q l : ℕ) → l ≤ 63 → skipped o (63 - l) (skipped o 1 (field o s q 64)) ≡ held o l (field o s (q + (64 - l)) l)
  last_held q l h =
      let a : 63 - l ≤ 63 = omega arith in
      let e : 63 - (63 - l) ≡ l = omega arith in
      let f : q + 1 + (63 - l) ≡ q + (64 - l) = omega arith in
      ap (skipped o (63 - l)) (skipped-field q 1 (omega arith)) ∙ skipped-held (q + 1) (63 - l) 63 a (omega arith)
      ∙ ap₂ (λ (m p : ℕ). held o m (field o s p m)) e f
