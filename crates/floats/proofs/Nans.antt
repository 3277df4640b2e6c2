-- What the code's tests for a NaN tell, of bits and of a float, at either format. Assumes nothing.
use mathlib.Core.Path.{◌≡◌, refl, ◌∙◌}
use mathlib.Core.Bool.{Bool, true, false, not}
use Prim.Native.Nat.{ℕ, ◌≤◌, ◌<◌, ◌%◌, ◌*◌}
use lib.Dec.{T}
use lib.Ieee.{Float, Format, nan, inf, fin, is_nan, nan_bits, to_bits, ones, hid, top}
use lib.Ieee.Bits.{nan_bits_above}
use borrow.Author.Tests.{lt-ltb, le-ltb}

-- bits above an infinity's, the sign left out, are a NaN's
pub above : (f : Format) (b : ℕ) → ones f * hid f < b % top f → nan_bits f b ≡ true
above f b h = nan_bits_above f b ∙ lt-ltb _ _ h

-- and no others are
pub within : (f : Format) (b : ℕ) → b % top f ≤ ones f * hid f → nan_bits f b ≡ false
within f b h = nan_bits_above f b ∙ le-ltb _ _ h

-- a NaN has the one pattern
pub nan_pattern : (f : Format) (x : Float) → is_nan x ≡ true → to_bits f x ≡ to_bits f nan
unfolding is_nan
nan_pattern f nan e = refl
nan_pattern f (inf s) e = cc
nan_pattern f (fin s m k) e = cc

-- a test that failed, as a conversion of bits asks it
pub failed : {t : Bool} → t ≡ false → T (not t)
failed e = rw e tt
