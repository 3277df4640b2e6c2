-- Eight bytes as one number.
use Rattle.std.specs.Prelude.{ℕ, ◌+◌, ◌*◌, ◌/◌, ◌%◌}

-- the first byte the most significant
abbrev pub eight : ℕ → ℕ → ℕ → ℕ → ℕ → ℕ → ℕ → ℕ → ℕ
eight b0 b1 b2 b3 b4 b5 b6 b7 = ((((((b0 * 256 + b1) * 256 + b2) * 256 + b3) * 256 + b4) * 256 + b5) * 256 + b6) * 256 + b7

-- the eight bytes of a number in the other order
abbrev pub swapped : ℕ → ℕ
swapped x =
    eight (x % 256) (x / 0x100 % 256) (x / 0x10000 % 256) (x / 0x1000000 % 256) (x / 0x100000000 % 256) (x / 0x10000000000 % 256)
    (x / 0x1000000000000 % 256) (x / 0x100000000000000)
