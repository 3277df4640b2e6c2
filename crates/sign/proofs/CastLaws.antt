-- A signed number of a narrower type as one of 64 bits.
use Rattle.std.proofs.Common.{◌≡◌, T, leb, ℤ, w64, SFits, to_z, of_z}
use mir.Facts.{sfits_widen}
use mir.Syntax.{Width}
use mir.Val.{hbits}
use mir.ValLaws.{to_z-of_z}

-- the cast is defined and loses nothing
pub widened : (w : Width) {z : ℤ} → T (leb (hbits w) 63) → SFits w z → SFits w64 (to_z w (of_z w z)) × (to_z w64 (of_z w64 (to_z w (of_z w z))) ≡ z)
widened w {z} l f = let f₆₄ : SFits w64 z = sfits_widen {w = w} {w' = w64} l f in rw (to_z-of_z w z f) (f₆₄, to_z-of_z w64 z f₆₄)
