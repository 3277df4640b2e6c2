-- `inside` meets its contract: its tests are those of the definition, one after the other. Assumes nothing.
use Prim.Native.Nat.{◌+◌, ◌<◌, ◌≤◌}
use native.Mathlib.Omega.{arith}
use borrow.Author.Tests.{le-leb, lt-leb}
use Rattle.lookahead.specs.State.{inside}
use Rattle.lookahead.proofs.inner.inside.Goals as goal

pub returns-then-len-gt-LONGEST : goal.returns-then-len-gt-LONGEST
unfolding inside
returns-then-len-gt-LONGEST c = simp (lt-leb _ _ c.if-len-gt-LONGEST.true)

pub returns-then-len-lt8 : goal.returns-then-len-lt8
unfolding inside
returns-then-len-lt8 c =
    let a = c.args in
    let l : a.len < a.k.offset + 8 = omega arith in
    simp (le-leb _ _ c.if-len-gt-LONGEST.false, lt-leb _ _ l)

pub returns-then-len-k : goal.returns-then-len-k
unfolding inside
returns-then-len-k c =
    let a = c.args in
    let l : a.len < a.k.offset + 8 = omega arith in
    simp (le-leb _ _ c.if-len-gt-LONGEST.false, lt-leb _ _ l)

pub returns-then-k-lt8 : goal.returns-then-k-lt8
unfolding inside
returns-then-k-lt8 c =
    let a = c.args in
    let l : a.k.offset + 8 ≤ a.len = omega arith in
    simp (le-leb _ _ c.if-len-gt-LONGEST.false, le-leb _ _ l, lt-leb _ _ c.if-k-lt8.true)

pub returns : goal.returns
unfolding inside
returns c =
    let a = c.args in
    let l : a.k.offset + 8 ≤ a.len = omega arith in
    simp (le-leb _ _ c.if-len-gt-LONGEST.false, le-leb _ _ l, le-leb _ _ c.if-k-lt8.false)
