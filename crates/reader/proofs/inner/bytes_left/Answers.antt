-- `bytes_left_lem` meets its contract: eight of the bits left are a byte. Assumes nothing.
use Prim.Native.Nat.{ℕ, ◌/◌}
use mathlib.Core.Path.{ap}
use Rattle.reader.specs.Cursor.{bytes_left}
use Rattle.reader.proofs.inner.bytes_left.Goals as goal

pub bits_left-requires : goal.bits_left-requires
bits_left-requires c = c.requires

pub returns : goal.returns
unfolding bytes_left
returns c = ap (λ (n : ℕ). n / 8) c.bits_left.ensures
