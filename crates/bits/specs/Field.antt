-- Bits and fields of a byte slice, in both orders.
use Rattle.std.specs.Prelude.{ℕ, zero, suc, ◌+◌, ◌-◌, ◌*◌, ◌/◌, ◌%◌, ◌^◌, List, get_or}
use Rattle.bits.specs.declared.Order.{Order}
use Rattle.bits.specs.declared.Order.TheVariants.{Little, Big}

-- the position of bit k within its byte, position 0 being worth 1
unfoldable pub position : Order → ℕ → ℕ
position Little k = k % 8
position Big k = 7 - k % 8

-- bit k of a slice, in byte k div 8; past the slice's end, 0
unfoldable pub bit : Order → List ℕ → ℕ → ℕ
bit o s k = get_or s (k / 8) 0 / 2 ^ position o k % 2

-- a bits x and the b bits y after them as one number: the earlier are the less significant (Little) or the more (Big)
unfoldable pub join : Order → ℕ → ℕ → ℕ → ℕ → ℕ
join Little a b x y = y * 2 ^ a + x
join Big a b x y = x * 2 ^ b + y

-- the field of width w at place p: bits p to p + w - 1
unfoldable pub field : Order → List ℕ → ℕ → ℕ → ℕ
field o s p zero = 0
field o s p (suc w) = join o w 1 (field o s p w) (bit o s (p + w))
