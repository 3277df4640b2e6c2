-- `is_whole` meets its contract: the run's first digit is the byte at its place, and it has as many digits as places. Assumes nothing.
use mathlib.Core.Path.{sym}
use native.Mathlib.Omega.{arith}
use borrow.Author.Tests.{ne_eqb}
use Rattle.digits.proofs.PlaceLaws.{next_within, whole-zero, whole_other}
use Rattle.digits.proofs.inner.is_whole.Goals as goal

pub bounds-src-at : goal.bounds-src-at
bounds-src-at c = let w = next_within c.args.src.now c.args.at c.args.run c.requires.0 c.requires.1 in omega arith

pub returns-then-src-at-ne48 : goal.returns-then-src-at-ne48
returns-then-src-at-ne48 c =
    let a = c.args in
    rw (ne_eqb _ _ c.if-src-at-ne48.true) (sym (whole_other a.src.now a.at a.run c.requires.0 c.requires.1 c.if-at-run.true c.if-src-at-ne48.true))

pub returns-else-src-at-ne48 : goal.returns-else-src-at-ne48
returns-else-src-at-ne48 c =
    let a = c.args in
    sym (whole-zero a.src.now a.at a.run c.requires.0 c.requires.1 c.if-at-run.true c.if-src-at-ne48.false)
