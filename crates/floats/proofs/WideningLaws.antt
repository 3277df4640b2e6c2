-- A single changed into a double means what it meant, over all patterns at once: a number of `lib.Ieee` names no format, so the double
-- holds the very same one. Assumes nothing.
use mathlib.Core.Path.{◌≡◌, refl, sym, ◌∙◌}
use mathlib.Core.Bool.{Bool, true, false, not, ◌&&◌, cond, false≢true}
use Prim.Native.Nat.{ℕ}
use lib.Dec.{T, lit≤}
use lib.Ieee.{Float, nan, inf, fin, binary32, binary64, is_nan, nan_bits, of_bits, of_fields, to_bits, fits, odd, size}
use lib.Ieee.Bits.{of_bits-to_bits, of_bits-fits, nan_bits_is}
use lib.Ieee.Fits.{and_i, fits_widens}
use Rattle.floats.specs.declared.Single.{Single}
use Rattle.floats.specs.declared.Double.{Double}
use Rattle.floats.specs.declared.Double.TheVariants as D
use Rattle.floats.specs.Floats.{single_bits, double_of, double_bits, DoubleHeld}
use Rattle.floats.specs.Widening.{one_nan, widened}
use Rattle.floats.proofs.FloatLaws.{cond_either}
use Rattle.floats.proofs.Nans.{failed}

-- there is one NaN
the_nan : (x : Float) → is_nan x ≡ true → x ≡ nan
unfolding is_nan
the_nan nan e = refl
the_nan (inf s) e = absurd (false≢true e)
the_nan (fin s m k) e = absurd (false≢true e)

-- what the bits of a single mean is one of a double's values
meant-fits : (b : ℕ) → T (fits binary64 (of_bits binary32 b))
meant-fits b = fits_widens _ (of_bits-fits binary32 b)

-- so where they are no NaN's, it may be cast to a double
pub may_widen : (b : ℕ) → nan_bits binary32 b ≡ false → T (fits binary64 (of_bits binary32 b) && not (is_nan (of_bits binary32 b)))
may_widen b e = let x = of_bits binary32 b in and_i (fits binary64 x) (not (is_nan x)) (meant-fits b) (failed (sym (nan_bits_is binary32 b) ∙ e))

-- the bits of a double that is kept bits or a number
either_bits : (t : Bool) (n : ℕ) (x : Float) → double_bits (cond t (D.Bits n) (D.Number x)) ≡ cond t n (to_bits binary64 x)
unfolding double_bits
either_bits true n x = refl
either_bits false n x = refl

module _ (x : Single) where
  -- exact: the double's bits mean what the single's mean
  pub exact : of_bits binary64 (double_bits (widened x)) ≡ of_bits binary32 (single_bits x)
  unfolding widened double_bits of_bits of_fields
  exact =
      let b = single_bits x in
      cond_either (λ (v : Double). of_bits binary64 (double_bits v) ≡ of_bits binary32 b) (nan_bits binary32 b)
      (λ e. sym (the_nan (of_bits binary32 b) (sym (nan_bits_is binary32 b) ∙ e)))
      (λ e. of_bits-to_bits binary64 (of_bits binary32 b) (meant-fits b))

  -- a machine can hold the double: its bits are 64 (`double_bits-lt`)
  pub widened-held : DoubleHeld (widened x)
  unfolding widened
  widened-held = cond_either DoubleHeld (nan_bits binary32 (single_bits x)) (λ e. lit≤ tt) (λ e. meant-fits (single_bits x))

  -- the double's bits make the double again, so what is written of it is what is read
  pub widened-back : double_of (double_bits (widened x)) ≡ widened x
  unfolding widened double_bits double_of nan_bits
  widened-back =
      let b = single_bits x in
      cond_either (λ (v : Double). double_of (double_bits v) ≡ v) (nan_bits binary32 b)
      (λ e. refl)
      (λ e. rw (nan_bits_is, of_bits-to_bits binary64 (of_bits binary32 b) (meant-fits b), ← nan_bits_is, e) refl)

  -- the double's bits, by the single's
  pub wide-bits : {b : ℕ} → single_bits x ≡ b → double_bits (widened x) ≡ cond (nan_bits binary32 b) one_nan (to_bits binary64 (of_bits binary32 b))
  unfolding widened
  wide-bits {b} e = rw e (either_bits (nan_bits binary32 b) one_nan (of_bits binary32 b))

  -- every NaN, whatever its payload or sign, becomes the one
  pub nan_widened : nan_bits binary32 (single_bits x) ≡ true → double_bits (widened x) ≡ one_nan
  nan_widened e = wide-bits refl ∙ rw e refl

  -- the zeros and the infinities keep their sign
  pub signs_kept :
      (single_bits x ≡ 0x0000_0000 → double_bits (widened x) ≡ 0x0000_0000_0000_0000)
      × (single_bits x ≡ 0x8000_0000 → double_bits (widened x) ≡ 0x8000_0000_0000_0000)
      × (single_bits x ≡ 0x7F80_0000 → double_bits (widened x) ≡ 0x7FF0_0000_0000_0000)
      × (single_bits x ≡ 0xFF80_0000 → double_bits (widened x) ≡ 0xFFF0_0000_0000_0000)
  unfolding nan_bits of_bits of_fields odd to_bits size
  signs_kept = (wide-bits, wide-bits, wide-bits, wide-bits)
