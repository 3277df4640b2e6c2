-- `put_text` meets its contract: the lines still to come, put from here, give all lines behind the header (`Putting`), and the room for
-- the whole text is room for each of its parts. Assumes nothing.
use Rattle.text.proofs.ListLaws.{Putting}
use Rattle.text.proofs.inner.put_text.Given as goal

abbrev pub invariant-loop-i : goal.invariant-loop-i
invariant-loop-i l = Putting l.strip l.initial.out l.out l.at l.count l.i
