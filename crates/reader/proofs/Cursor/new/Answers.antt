-- `new` meets its contract: its test is that of `new_of`, and a slice within the limit has its bits counted. Assumes nothing.
use mathlib.Core.Path.{refl, ap, ◌∙◌}
use native.Mathlib.Omega.{arith}
use borrow.Author.Tests.{lt-ltb, le-ltb}
use Rattle.bits.specs.Refusals.{done}
use Rattle.reader.specs.Answers.{new_of, moved}
use Rattle.reader.proofs.Cursor.new.Goals as goal

pub returns-then-src-gt-LONGEST : goal.returns-then-src-gt-LONGEST
unfolding new_of
returns-then-src-gt-LONGEST c = rw (lt-ltb _ _ c.if-src-gt-LONGEST.true) refl

pub overflow_mul-src : goal.overflow_mul-src
overflow_mul-src c = omega (arith, c.if-src-gt-LONGEST.false)

pub returns : goal.returns
unfolding new_of
returns c = ap (moved done) c.from_parts.ensures ∙ rw (le-ltb _ _ c.if-src-gt-LONGEST.false) refl
