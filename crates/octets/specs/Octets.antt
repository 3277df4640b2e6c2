-- Fields of eight bits, one after the other.
use Rattle.std.specs.Prelude.{ℕ, zero, suc, ◌+◌, ◌-◌, ◌*◌, ◌/◌, ◌%◌, ◌^◌, List, [], ◌∷◌}
use Rattle.bits.specs.declared.Order.{Order}
use Rattle.bits.specs.declared.Order.TheVariants.{Little, Big}
use Rattle.bits.specs.Field.{field}

-- the first n values of f
unfoldable pub firsts : (ℕ → ℕ) → ℕ → List ℕ
firsts f zero = []
firsts f (suc n) = f 0 ∷ firsts (λ i. f (suc i)) n

-- n fields of eight bits from place p on: byte i is the one at p + 8 i
unfoldable pub octets : Order → List ℕ → ℕ → ℕ → List ℕ
octets o s p n = firsts (λ i. field o s (p + 8 * i) 8) n

-- one of two numbers, by the order
unfoldable pub by_order : Order → ℕ → ℕ → ℕ
by_order Little l b = l
by_order Big l b = b

-- the low 8 - k bits of the byte x, above the high k of y
unfoldable pub straddled : ℕ → ℕ → ℕ → ℕ
straddled x y k = x % 2 ^ (8 - k) * 2 ^ k + y / 2 ^ (8 - k)
