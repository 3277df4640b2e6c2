-- `straddle` meets its contract: the shifted parts of the two bytes have no bit in common, so `^` adds them (`straddled_is`). Assumes nothing.
use native.Mathlib.Omega.{arith}
use Rattle.octets.proofs.OctetsLaws.{straddled_is}
use Rattle.octets.proofs.inner.straddle.Goals as goal

pub returns : goal.returns
returns c = let a = c.args in straddled_is a.x a.y a.k (omega arith) (omega arith)
