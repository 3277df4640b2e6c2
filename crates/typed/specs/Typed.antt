-- The value of a kind that bits make, and the bits of a typed value.
use Rattle.std.specs.Prelude.{ℕ, ◌%◌, ◌^◌, ◌<◌, ◌≤◌, Bool, ◌&&◌, eqb}
use Rattle.bits.specs.Signed.{signed, pattern}
use Rattle.floats.specs.Floats.{single_of, single_bits, SingleHeld, double_of, double_bits, DoubleHeld}
use Rattle.floats.specs.Widening.{widened}
use Rattle.roundtrip.specs.Mixed.{InRange}
use Rattle.typed.specs.declared.Kind.{Kind}
use Rattle.typed.specs.declared.Kind.TheVariants as K
use Rattle.typed.specs.declared.Typed.{Typed}
use Rattle.typed.specs.declared.Typed.TheVariants as T

-- 64 bits as a value of a kind; a single has the low 32
unfoldable pub typed_of : Kind → ℕ → Typed
typed_of K.Unsigned b = T.Unsigned b
typed_of K.Signed b = T.Signed (signed 64 b)
typed_of K.Single b = T.Single (single_of (b % 2 ^ 32))
typed_of K.Double b = T.Double (double_of b)

-- the bits of a typed value
unfoldable pub bits_of : Typed → ℕ
bits_of (T.Unsigned n) = n
bits_of (T.Signed z) = pattern 64 z
bits_of (T.Single x) = single_bits x
bits_of (T.Double x) = double_bits x

-- the kind of a typed value: its case
unfoldable pub kind_of : Typed → Kind
kind_of (T.Unsigned n) = K.Unsigned
kind_of (T.Signed z) = K.Signed
kind_of (T.Single x) = K.Single
kind_of (T.Double x) = K.Double

-- the number of a kind: 0 unsigned, 1 signed, 2 single, 3 double
unfoldable pub number_of : Kind → ℕ
number_of K.Unsigned = 0
number_of K.Signed = 1
number_of K.Single = 2
number_of K.Double = 3

-- whether two typed values are the same: of one kind, and with the same bits
unfoldable pub same_typed : Typed → Typed → Bool
same_typed a b = eqb (number_of (kind_of a)) (number_of (kind_of b)) && eqb (bits_of a) (bits_of b)

-- a single as the double that means the same, a value of another kind as it is
unfoldable pub widened_typed : Typed → Typed
widened_typed (T.Unsigned n) = T.Unsigned n
widened_typed (T.Signed z) = T.Signed z
widened_typed (T.Single x) = T.Double (widened x)
widened_typed (T.Double x) = T.Double x

-- the number of bits that a value of a kind takes: the width that is asked for, or 32, or 64
unfoldable pub width_of : Kind → ℕ → ℕ
width_of K.Unsigned w = w
width_of K.Signed w = w
width_of K.Single w = 32
width_of K.Double w = 64

-- the value of a kind that a field of w bits makes
unfoldable pub meaning : Kind → ℕ → ℕ → Typed
meaning K.Unsigned w v = T.Unsigned v
meaning K.Signed w v = T.Signed (signed w v)
meaning K.Single w v = T.Single (single_of v)
meaning K.Double w v = T.Double (double_of v)

-- a value that n bits of its kind hold: below 2 ^ n, in the range of two's complement, or any single or double that a machine can hold
abbrev pub Fits : ℕ → Typed → Type 0
Fits n (T.Unsigned v) = v < 2 ^ n
Fits n (T.Signed z) = (n ≤ 64) × InRange n z
Fits n (T.Single x) = SingleHeld x
Fits n (T.Double x) = DoubleHeld x
