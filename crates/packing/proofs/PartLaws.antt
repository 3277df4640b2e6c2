-- Numbers of three parts, taken apart in two ways, over the order.
use mathlib.Core.Path.{◌≡◌, sym, ap, ◌∙◌}
use Prim.Native.Nat.{ℕ, ◌+◌, ◌^◌, ◌<◌}
use Rattle.bits.specs.declared.Order.{Order}
use Rattle.bits.specs.Field.{join}
use Rattle.bits.specs.Word.{first, rest}
use Rattle.bits.proofs.JoinLaws.{join-lt, join_assoc, join_parts, first-join, rest-join, first-lt, rest_lt}

-- a + b bits v with c bits y behind them, cut after a
module _ (o : Order) (a b c : ℕ) {v y : ℕ} (hv : v < 2 ^ (a + b)) (hy : y < 2 ^ c) where
  regrouped : join o (a + b) c v y ≡ join o a (b + c) (first o a b v) (join o b c (rest o a b v) y)
  regrouped = ap (λ (k : ℕ). join o (a + b) c k y) (sym (join_parts o a b v)) ∙ join_assoc o a b c (first o a b v) (rest o a b v) y

  tail_lt : join o b c (rest o a b v) y < 2 ^ (b + c)
  tail_lt = join-lt o b c (rest_lt o a b hv) hy

  pub first_of_longer : first o a (b + c) (join o (a + b) c v y) ≡ first o a b v
  first_of_longer = ap (first o a (b + c)) regrouped ∙ first-join o a (b + c) (first-lt o a b hv) tail_lt

  pub rest_of_longer : rest o a (b + c) (join o (a + b) c v y) ≡ join o b c (rest o a b v) y
  rest_of_longer = ap (rest o a (b + c)) regrouped ∙ rest-join o a (b + c) (first-lt o a b hv) tail_lt

-- one number of a + b + c bits, cut twice
module _ (o : Order) (a b c : ℕ) {v : ℕ} (hv : v < 2 ^ (a + (b + c))) where
  whole : v ≡ join o (a + b) c (join o a b (first o a (b + c) v) (first o b c (rest o a (b + c) v))) (rest o b c (rest o a (b + c) v))
  whole =
      let x : ℕ = first o a (b + c) v in
      let y : ℕ = rest o a (b + c) v in
      sym (join_parts o a (b + c) v) ∙ ap (join o a (b + c) x) (sym (join_parts o b c y)) ∙ sym (join_assoc o a b c x (first o b c y) (rest o b c y))

  front_lt : join o a b (first o a (b + c) v) (first o b c (rest o a (b + c) v)) < 2 ^ (a + b)
  front_lt = join-lt o a b (first-lt o a (b + c) hv) (first-lt o b c (rest_lt o a (b + c) hv))

  pub first_twice : first o (a + b) c v ≡ join o a b (first o a (b + c) v) (first o b c (rest o a (b + c) v))
  first_twice = ap (first o (a + b) c) whole ∙ first-join o (a + b) c front_lt (rest_lt o b c (rest_lt o a (b + c) hv))

  pub rest_twice : rest o (a + b) c v ≡ rest o b c (rest o a (b + c) v)
  rest_twice = ap (rest o (a + b) c) whole ∙ rest-join o (a + b) c front_lt (rest_lt o b c (rest_lt o a (b + c) hv))
