-- What the C host's two functions answer.
use Rattle.std.specs.Prelude.{ℕ, ◌+◌, ◌*◌, cond, List, [], ◌∷◌, length, eqb, ltb}
use Rattle.bits.specs.declared.Order.{Order}
use Rattle.bits.specs.declared.Order.TheVariants.{Little, Big}
use Rattle.bits.specs.Refusals.{longest, too_long, too_wide, too_few, ◌⟶◌, first_refusal, if_done}
use Rattle.bits.specs.Field.{field}

-- the order by its number: 0 is little, any other big
unfoldable pub order_of : ℕ → Order
order_of n = cond (eqb n 0) Little Big

-- 1, 3 or 9, the lowest that applies; place + width is a sum that does not wrap
unfoldable pub host_refusal : ℕ → ℕ → ℕ → ℕ
host_refusal place width len =
    first_refusal
    (ltb longest len ⟶ too_long
    ∷ ltb 64 width ⟶ too_wide
    ∷ ltb (8 * len) (place + width) ⟶ too_few
    ∷ [])

-- the field of `width` bits at `place`, or 0 where it is refused
unfoldable pub host_value : ℕ → ℕ → ℕ → List ℕ → ℕ
host_value order place width s = if_done (host_refusal place width (length s)) (field (order_of order) s place width) 0
