-- `unfetched` meets its contract: none where the offset is past the end's byte. Assumes nothing.
use mathlib.Core.Path.{refl}
use native.Mathlib.Omega.{arith}
use Rattle.reader.specs.Cursor.{unfetched}
use Rattle.reader.proofs.inner.unfetched.Goals as goal

pub returns-then-last-c : goal.returns-then-last-c
unfolding unfetched
returns-then-last-c c = omega (arith, c.if-last-c.true)

pub returns-else-last-c : goal.returns-else-last-c
unfolding unfetched
returns-else-last-c c = refl
