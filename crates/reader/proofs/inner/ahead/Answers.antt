-- `ahead` meets its contract: it answers the lesser of the lookahead and the bits left. Assumes nothing.
use native.Mathlib.Omega.{arith}
use Rattle.reader.specs.Cursor.{ahead_in}
use Rattle.reader.proofs.inner.ahead.Goals as goal

pub bits_left-left-requires : goal.bits_left-left-requires
bits_left-left-requires c = c.requires

pub overflow_cast-result : goal.overflow_cast-result
overflow_cast-result c = omega (arith, c.if-left-c.true, c.requires.within.small)

pub returns-then-left-c : goal.returns-then-left-c
unfolding ahead_in
returns-then-left-c c = let e = c.bits_left-left.ensures in omega (arith, e, c.if-left-c.true)

pub returns : goal.returns
unfolding ahead_in
returns c = let e = c.bits_left-left.ensures in omega (arith, e, c.if-left-c.false)
