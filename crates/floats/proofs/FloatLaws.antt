-- Every bit pattern is kept, a value's bits are no more than its format has, and bits make the plain form of the value that has them.
-- Each law is over the format, then cited for both.
use mathlib.Core.Path.{◌≡◌, refl, ◌∙◌, subst}
use mathlib.Core.Bool.{Bool, true, false, cond}
use Prim.Native.Nat.{ℕ, ◌<◌, ◌*◌, ◌^◌}
use lib.Dec.{T}
use lib.Ieee.{Float, Format, binary32, binary64, top, nan_bits, of_bits, to_bits, fits}
use lib.Ieee.Bits.{to_bits-of_bits, to_bits-lt, nan_bits_is}
use borrow.Author.Tests.{eq-eqb}
use Rattle.floats.specs.Floats.{single_of, single_bits, same_single, SingleHeld, double_of, double_bits, same_double, DoubleHeld}
use Rattle.floats.specs.declared.Single.{Single}
use Rattle.floats.specs.declared.Single.TheVariants as S
use Rattle.floats.specs.declared.Double.{Double}
use Rattle.floats.specs.declared.Double.TheVariants as D

-- what holds of each of two values holds of the one that a test picks
pub cond_either : {X : Type 0} (P : X → Type 0) (t : Bool) {x y : X} → (t ≡ true → P x) → (t ≡ false → P y) → P (cond t x y)
cond_either P true p q = p refl
cond_either P false p q = q refl

-- the length of a format's patterns in bits
abbrev pub width : Format → ℕ
width binary32 = 32
width binary64 = 64

-- the sign is the highest bit of a pattern
pub twice_top : (f : Format) → 2 * top f ≡ 2 ^ width f
twice_top binary32 = refl
twice_top binary64 = refl

-- a pattern that is no NaN's is that of its number
pub number_kept : (f : Format) (b : ℕ) → b < 2 ^ width f → nan_bits f b ≡ false → to_bits f (of_bits f b) ≡ b
number_kept f b h e = to_bits-of_bits f b (rw twice_top h) (rw (← nan_bits_is, e) tt)

-- a type with a case for bits and a case for numbers keeps every pattern
pub kept :
    {X : Type 0} (f : Format) (bits : X → ℕ) (raw : ℕ → X) (number : Float → X) →
    ((b : ℕ) → bits (raw b) ≡ b) →
    ((x : Float) → bits (number x) ≡ to_bits f x) →
    (b : ℕ) →
    b < 2 ^ width f →
    bits (cond (nan_bits f b) (raw b) (number (of_bits f b))) ≡ b
kept {X} f bits raw number r n b h =
    cond_either (λ (v : X). bits v ≡ b) (nan_bits f b) (λ e. r b) (λ e. n (of_bits f b) ∙ number_kept f b h e)

-- bits turned into a single and back are the same
pub single_kept : (b : ℕ) → b < 2 ^ 32 → single_bits (single_of b) ≡ b
unfolding single_of single_bits
single_kept = kept binary32 single_bits S.Bits S.Number (λ b. refl) (λ x. refl)

-- bits turned into a double and back are the same
pub double_kept : (b : ℕ) → b < 2 ^ 64 → double_bits (double_of b) ≡ b
unfolding double_of double_bits
double_kept = kept binary64 double_bits D.Bits D.Number (λ b. refl) (λ x. refl)

-- the pattern of a value that the format holds is a number of its width
pub number_lt : (f : Format) (x : Float) → T (fits f x) → to_bits f x < 2 ^ width f
number_lt f x h = rw twice_top at (to_bits-lt f x h)

-- so are the bits of every single and every double that a machine can hold
pub single_bits-lt : (v : Single) → SingleHeld v → single_bits v < 2 ^ 32
unfolding single_bits
single_bits-lt (S.Number x) h = number_lt binary32 x h
single_bits-lt (S.Bits b) h = h

pub double_bits-lt : (v : Double) → DoubleHeld v → double_bits v < 2 ^ 64
unfolding double_bits
double_bits-lt (D.Number x) h = number_lt binary64 x h
double_bits-lt (D.Bits b) h = h

-- ---- the plain form

-- a value made of the bits of a single or a double is the same
pub single_same : (v : Single) → SingleHeld v → same_single (single_of (single_bits v)) v ≡ true
unfolding same_single
single_same v h = eq-eqb _ _ (single_kept (single_bits v) (single_bits-lt v h))

pub double_same : (v : Double) → DoubleHeld v → same_double (double_of (double_bits v)) v ≡ true
unfolding same_double
double_same v h = eq-eqb _ _ (double_kept (double_bits v) (double_bits-lt v h))

-- values whose bits are kept only of a NaN
abbrev pub PlainSingle : Single → Type 0
PlainSingle (S.Number x) = true ≡ true
PlainSingle (S.Bits b) = nan_bits binary32 b ≡ true

abbrev pub PlainDouble : Double → Type 0
PlainDouble (D.Number x) = true ≡ true
PlainDouble (D.Bits b) = nan_bits binary64 b ≡ true

-- so are all that are made of bits
pub single_plain : (b n : ℕ) → single_of b ≡ S.Bits n → nan_bits binary32 n ≡ true
unfolding single_of
single_plain b n e = subst PlainSingle e (cond_either PlainSingle (nan_bits binary32 b) (λ t. t) (λ t. refl))

pub double_plain : (b n : ℕ) → double_of b ≡ D.Bits n → nan_bits binary64 n ≡ true
unfolding double_of
double_plain b n e = subst PlainDouble e (cond_either PlainDouble (nan_bits binary64 b) (λ t. t) (λ t. refl))
