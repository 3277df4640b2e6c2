-- A single changed into a double, and what a pattern of either format stands for in whole numbers. IEEE 754 says what bits mean:
-- `lib.Ieee`, whose numbers are the same for both formats.
use Rattle.std.specs.Prelude.{ℕ, zero, suc, ◌+◌, ◌*◌, ◌/◌, ◌%◌, ◌^◌, Bool, cond, leb}
use Rattle.std.specs.Float.{Format, binary32}
use Rattle.std.specs.Float.Ieee.{nan_bits, of_bits, top, hid}
use Rattle.floats.specs.declared.Single.{Single}
use Rattle.floats.specs.declared.Double.{Double}
use Rattle.floats.specs.declared.Double.TheVariants as D
use Rattle.floats.specs.Floats.{single_bits}

-- the bits of the double that every NaN becomes
abbrev pub one_nan : ℕ
one_nan = 0x7FF8_0000_0000_0000

-- a single as a double: the number that its bits mean, or the one NaN where they are a NaN's
unfoldable pub widened : Single → Double
widened x = cond (nan_bits binary32 (single_bits x)) (D.Bits one_nan) (D.Number (of_bits binary32 (single_bits x)))

-- whether the sign of a pattern is a minus: its highest bit
abbrev pub minus_in : Format → ℕ → Bool
minus_in f b = leb (top f) b

-- the exponent's field of a pattern: all ones, 255 or 2047, in an infinity and a NaN
abbrev pub exponent_in : Format → ℕ → ℕ
exponent_in f b = b % top f / hid f

-- the fraction's field: the digits below the leading one
abbrev pub fraction_in : Format → ℕ → ℕ
fraction_in f b = b % hid f

-- the size that both fields stand for, counted in the format's smallest number, 2 ^ -149 or 2 ^ -1074: a subnormal has no leading digit
abbrev pub size_by : Format → ℕ → ℕ → ℕ
size_by f zero t = t
size_by f (suc x) t = (hid f + t) * 2 ^ x

-- the size of a finite pattern, so counted
abbrev pub size_in : Format → ℕ → ℕ
size_in f b = size_by f (exponent_in f b) (fraction_in f b)
