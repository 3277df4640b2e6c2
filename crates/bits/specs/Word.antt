-- Numbers of a known count of bits taken apart, and words of 64 bits.
use Rattle.std.specs.Prelude.{ℕ, ◌-◌, ◌*◌, ◌/◌, ◌%◌, ◌^◌}
use Rattle.bits.specs.declared.Order.{Order}
use Rattle.bits.specs.declared.Order.TheVariants.{Little, Big}
use Rattle.bits.specs.Field.{join}

-- the first a of a + b bits
unfoldable pub first : Order → ℕ → ℕ → ℕ → ℕ
first Little a b v = v % 2 ^ a
first Big a b v = v / 2 ^ b

-- the last b of a + b bits
unfoldable pub rest : Order → ℕ → ℕ → ℕ → ℕ
rest Little a b v = v / 2 ^ a
rest Big a b v = v % 2 ^ b

-- l bits as a word holds them, at its low end (Little) or its high end (Big), its other bits zero
unfoldable pub held : Order → ℕ → ℕ → ℕ
held o l v = join o l (64 - l) v 0

-- a word without its first n bits: the others move up, and zeros come in at the end
unfoldable pub skipped : Order → ℕ → ℕ → ℕ
skipped Little n v = v / 2 ^ n
skipped Big n v = (v * 2 ^ n) % 2 ^ 64
