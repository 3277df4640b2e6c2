-- The value that a float's bits make, and the bits of a value. IEEE 754 says what bits mean: `lib.Ieee`.
use Rattle.std.specs.Prelude.{ℕ, ◌<◌, ◌^◌, Bool, cond, T, eqb}
use Rattle.std.specs.Float.{binary32, binary64}
use Rattle.std.specs.Float.Ieee.{nan_bits, of_bits, to_bits, fits}
use Rattle.floats.specs.declared.Single.{Single}
use Rattle.floats.specs.declared.Single.TheVariants as S
use Rattle.floats.specs.declared.Double.{Double}
use Rattle.floats.specs.declared.Double.TheVariants as D

-- 32 bits make a number, unless they are a NaN's: then they are kept
unfoldable pub single_of : ℕ → Single
single_of b = cond (nan_bits binary32 b) (S.Bits b) (S.Number (of_bits binary32 b))

-- the 32 bits of a single
unfoldable pub single_bits : Single → ℕ
single_bits (S.Number x) = to_bits binary32 x
single_bits (S.Bits b) = b

-- whether two singles are the same: a value means its bits
unfoldable pub same_single : Single → Single → Bool
same_single a b = eqb (single_bits a) (single_bits b)

-- a single that a machine can hold: a number of its format, or bits below 2 ^ 32
abbrev pub SingleHeld : Single → Type 0
SingleHeld (S.Number x) = T (fits binary32 x)
SingleHeld (S.Bits b) = b < 2 ^ 32

-- 64 bits make a number, unless they are a NaN's: then they are kept
unfoldable pub double_of : ℕ → Double
double_of b = cond (nan_bits binary64 b) (D.Bits b) (D.Number (of_bits binary64 b))

-- the 64 bits of a double
unfoldable pub double_bits : Double → ℕ
double_bits (D.Number x) = to_bits binary64 x
double_bits (D.Bits b) = b

-- whether two doubles are the same: a value means its bits
unfoldable pub same_double : Double → Double → Bool
same_double a b = eqb (double_bits a) (double_bits b)

-- a double that a machine can hold: a number of its format, or bits below 2 ^ 64
abbrev pub DoubleHeld : Double → Type 0
DoubleHeld (D.Number x) = T (fits binary64 x)
DoubleHeld (D.Bits b) = b < 2 ^ 64
