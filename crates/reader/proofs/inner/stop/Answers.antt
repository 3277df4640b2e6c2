-- `stop` meets its contract: reading stops at the cursor's end. Assumes nothing.
use mathlib.Core.Path.{refl}
use Rattle.reader.specs.Cursor.{stop}
use Rattle.reader.proofs.inner.stop.Goals as goal

pub returns : goal.returns
unfolding stop
returns c = refl
