-- The signed meaning of the bits of a field, and the bits of a signed number.
use Rattle.std.specs.Prelude.{ℕ, zero, suc, ◌-◌, ◌%◌, ◌^◌, cond, leb, ℤ, pos, negsuc, ◌-ℤ◌}

-- w bits v as a signed number: 2 ^ w less if w is at least 1 and v at least 2 ^ (w - 1); width 0 is 0
unfoldable pub signed : ℕ → ℕ → ℤ
signed zero v = pos 0
signed (suc j) v = cond (leb (2 ^ j) v) (pos v -ℤ pos (2 ^ suc j)) (pos v)

-- the low w bits of a signed number in two's complement: the number modulo 2 ^ w
unfoldable pub pattern : ℕ → ℤ → ℕ
pattern w (pos n) = n % 2 ^ w
pattern w (negsuc n) = 2 ^ w - suc (n % 2 ^ w)
