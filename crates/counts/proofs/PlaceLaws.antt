-- Laws of the counts at a place.
use Prim.Native.Nat.{ℕ, ◌*◌, ◌≤◌}
use mathlib.Core.Path.{◌≡◌}
use native.Mathlib.Omega.{arith}
use Rattle.counts.specs.Counts.{place, Within, counts_at}

pub at_place : (p : ℕ) → place (counts_at p) ≡ p
at_place p = omega arith

pub at_within : {len p : ℕ} → p ≤ 8 * len → Within len (counts_at p)
at_within h = record { fetched = omega arith; small = omega arith; behind = omega arith }
