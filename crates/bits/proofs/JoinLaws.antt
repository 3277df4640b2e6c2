-- Laws of joining bits and taking them apart again, over the order and the widths.
use mathlib.Core.Path.{◌≡◌, sym, ap, ◌∙◌, subst}
use Prim.Native.Nat.{ℕ, ◌+◌, ◌*◌, ◌^◌, ◌<◌}
use native.Mathlib.Nat.{add_comm, add_assoc, mul_comm, mul_assoc, add-mul, add-zero, zero-add, mul-one, zero-mul, mod-lt, mod-eq_of_lt, div-one}
use lib.Arith.{digits_lt}
use lib.Pow.{pow_pos, pow-add, high, low, split, shr_lt}
use Rattle.bits.specs.declared.Order.{Order}
use Rattle.bits.specs.declared.Order.TheVariants.{Little, Big}
use Rattle.bits.specs.Field.{join}
use Rattle.bits.specs.Word.{first, rest}

-- b bits y above a bits x make a number of b + a bits
pub above_lt : {x y : ℕ} (a b : ℕ) → x < 2 ^ a → y < 2 ^ b → y * 2 ^ a + x < 2 ^ (b + a)
above_lt {x} {y} a b hx hy = subst (λ (n : ℕ). y * 2 ^ a + x < n) (sym (pow-add 2 b a)) (digits_lt hy hx)

pub join-lt : (o : Order) (a b : ℕ) {x y : ℕ} → x < 2 ^ a → y < 2 ^ b → join o a b x y < 2 ^ (a + b)
unfolding join
join-lt Little a b {x} {y} hx hy = subst (λ (n : ℕ). y * 2 ^ a + x < 2 ^ n) (add_comm b a) (above_lt a b hx hy)
join-lt Big a b hx hy = above_lt b a hy hx

-- one sum of three digits, both ways
three_digits : (x y z a b : ℕ) → z * 2 ^ (a + b) + (y * 2 ^ a + x) ≡ (z * 2 ^ b + y) * 2 ^ a + x
three_digits x y z a b =
    ap (λ (n : ℕ). z * n + (y * 2 ^ a + x)) (pow-add 2 a b ∙ mul_comm (2 ^ a) (2 ^ b))
    ∙ ap (λ (n : ℕ). n + (y * 2 ^ a + x)) (sym (mul_assoc z (2 ^ b) (2 ^ a)))
    ∙ sym (add_assoc (z * 2 ^ b * 2 ^ a) (y * 2 ^ a) x)
    ∙ ap (λ (n : ℕ). n + x) (sym (add-mul (z * 2 ^ b) y (2 ^ a)))

pub join_assoc : (o : Order) (a b c x y z : ℕ) → join o (a + b) c (join o a b x y) z ≡ join o a (b + c) x (join o b c y z)
unfolding join
join_assoc Little a b c x y z = three_digits x y z a b
join_assoc Big a b c x y z =
    sym (ap (λ (n : ℕ). x * 2 ^ n + (y * 2 ^ c + z)) (add_comm b c) ∙ three_digits z y x c b)

-- no bits behind, no bits before, and only zeros
pub join_none : (o : Order) (a x : ℕ) → join o a 0 x 0 ≡ x
unfolding join
join_none Little a x = ap (λ (n : ℕ). n + x) (zero-mul (2 ^ a)) ∙ zero-add x
join_none Big a x = add-zero (x * 2 ^ 0) ∙ mul-one x

pub none_join : (o : Order) (b y : ℕ) → join o 0 b 0 y ≡ y
unfolding join
none_join Little b y = add-zero (y * 2 ^ 0) ∙ mul-one y
none_join Big b y = ap (λ (n : ℕ). n + y) (zero-mul (2 ^ b)) ∙ zero-add y

pub join_zeros : (o : Order) (a b : ℕ) → join o a b 0 0 ≡ 0
unfolding join
join_zeros Little a b = simp (zero-mul, zero-add)
join_zeros Big a b = simp (zero-mul, zero-add)

-- the two parts of what was joined
pub first-join : (o : Order) (a b : ℕ) {x y : ℕ} → x < 2 ^ a → y < 2 ^ b → first o a b (join o a b x y) ≡ x
unfolding join first
first-join Little a b {x} {y} hx hy = low y a hx
first-join Big a b {x} {y} hx hy = high x b hy

pub rest-join : (o : Order) (a b : ℕ) {x y : ℕ} → x < 2 ^ a → y < 2 ^ b → rest o a b (join o a b x y) ≡ y
unfolding join rest
rest-join Little a b {x} {y} hx hy = high y a hx
rest-join Big a b {x} {y} hx hy = low x b hy

-- a number of a + b bits is its first a and its last b
pub join_parts : (o : Order) (a b v : ℕ) → join o a b (first o a b v) (rest o a b v) ≡ v
unfolding join first rest
join_parts Little a b v = split v a
join_parts Big a b v = split v b

pub first-lt : (o : Order) (a b : ℕ) {v : ℕ} → v < 2 ^ (a + b) → first o a b v < 2 ^ a
unfolding first
first-lt Little a b {v} h = mod-lt v (pow_pos a)
first-lt Big a b h = shr_lt a b h

pub rest_lt : (o : Order) (a b : ℕ) {v : ℕ} → v < 2 ^ (a + b) → rest o a b v < 2 ^ b
unfolding rest
rest_lt Little a b {v} h = shr_lt b a (subst (λ (k : ℕ). v < 2 ^ k) (add_comm a b) h)
rest_lt Big a b {v} h = mod-lt v (pow_pos b)

pub rest_none : (o : Order) (b : ℕ) {v : ℕ} → v < 2 ^ b → rest o 0 b v ≡ v
unfolding rest
rest_none Little b {v} h = div-one v
rest_none Big b h = mod-eq_of_lt h
