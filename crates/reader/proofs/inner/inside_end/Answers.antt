-- `inside_end` meets its contract: its tests are those of the definition, one after the other. Assumes nothing.
use mathlib.Core.Path.{sym, ◌∙◌}
use borrow.Author.Tests.{le-leb, lt-leb}
use Rattle.std.proofs.Common.{rules}
use Rattle.reader.specs.Cursor.{inside_end}
use Rattle.reader.proofs.inner.inside_end.Goals as goal
use Rattle.reader.proofs.inner.inside_end.Goals.{then-len-le-LONGEST, else-len-le-LONGEST}

pub returns-then-end-len : goal.returns-then-end-len
unfolding inside_end
returns-then-end-len c =
    elim c.if-len-le-LONGEST.branch [
      | then-len-le-LONGEST w ↦ rw (le-leb _ _ w.if-len-le-LONGEST.true, sym w.value-is ∙ c.if-end-len.true) c.inside.ensures
      | else-len-le-LONGEST w ↦ search rules
    ]

pub returns-else-end-len : goal.returns-else-end-len
unfolding inside_end
returns-else-end-len c =
    elim c.if-len-le-LONGEST.branch [
      | then-len-le-LONGEST w ↦ rw (le-leb _ _ w.if-len-le-LONGEST.true, sym w.value-is ∙ c.if-end-len.false) c.if-end-len.false
      | else-len-le-LONGEST w ↦ rw (lt-leb _ _ w.if-len-le-LONGEST.false) c.if-end-len.false
    ]
