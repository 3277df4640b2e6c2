-- `vet_strip` meets its contract: a strip past the limit is refused, any other is judged. Assumes nothing.
use mathlib.Core.Path.{sym, ◌∙◌}
use borrow.Author.Tests.{lt-ltb, le-ltb}
use Rattle.vetting.specs.Verdicts.{verdict_of}
use Rattle.vetting.proofs.vet_strip.Goals as goal

pub returns-then-strip-gt-LONGEST : goal.returns-then-strip-gt-LONGEST
unfolding verdict_of
returns-then-strip-gt-LONGEST c = sym (rw (lt-ltb _ _ c.if-strip-gt-LONGEST.true))

pub returns : goal.returns
unfolding verdict_of
returns c = c.verdict.ensures ∙ sym (rw (le-ltb _ _ c.if-strip-gt-LONGEST.false))
