-- `magnitude_at` meets its contract: a magnitude of 64 bits is found again from its distance (`distance_stands`). Assumes nothing.
use Rattle.std.proofs.Common.{refl}
use Rattle.line.proofs.PlaceLaws.{distance_stands}
use Rattle.line.proofs.inner.magnitude_at.Goals as goal

pub returns : goal.returns
returns c = let d = c.distance_at-distance in distance_stands c.args.src.now c.args.at d.result _ d.ensures refl
