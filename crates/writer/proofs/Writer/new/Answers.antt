-- `Writer::new` meets its contract: its test is that of `new_of`. Assumes nothing.
use borrow.Author.Tests.{lt-ltb, le-ltb}
use Rattle.writer.specs.Answers.{new_of}
use Rattle.writer.proofs.Writer.new.Goals as goal

pub returns-then-out-gt-LONGEST : goal.returns-then-out-gt-LONGEST
unfolding new_of
returns-then-out-gt-LONGEST c = simp (lt-ltb _ _ c.if-out-gt-LONGEST.true)

pub returns : goal.returns
unfolding new_of
returns c = simp (le-ltb _ _ c.if-out-gt-LONGEST.false)
