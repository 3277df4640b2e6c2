-- `text_size` meets its contract: the bytes so far with those of the lines still to come are those of the header and all lines
-- (`next_size`). Assumes nothing.
use mathlib.Core.Path.{◌≡◌}
use Prim.Native.Nat.{◌+◌, ◌*◌, ◌≤◌}
use lib.ListN.{length}
use Rattle.strip.specs.Strip.{records_from}
use Rattle.text.specs.Text.{listed}
use Rattle.text.proofs.HeaderLaws.{header_length}
use Rattle.text.proofs.ListLaws.{lines_left}
use Rattle.text.proofs.inner.text_size.Given as goal

abbrev pub invariant-loop-i : goal.invariant-loop-i
invariant-loop-i l =
    (l.size ≤ header_length + 41 * l.i)
    × (l.size + length (lines_left l.strip l.count l.i) ≡ header_length + length (listed (records_from l.strip 0 l.count)))
