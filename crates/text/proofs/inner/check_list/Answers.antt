-- `check_list` meets its contract: the tests, one by one; where the longest lines have room, the text has (`text_few`). Assumes nothing.
use Prim.Native.Nat.{◌<◌, ◌≤◌}
use lib.ListN.{length}
use native.Mathlib.Omega.{arith}
use borrow.Author.Tests.{lt-ltb, le-ltb}
use Rattle.bits.specs.Refusals.{or_else, first_refusal}
use Rattle.text.specs.Text.{text_of}
use Rattle.text.specs.Answers.{list_refusal}
use Rattle.text.proofs.ListLaws.{text_few}
use Rattle.text.proofs.inner.check_list.Goals as goal

pub returns-then-strip-gt-LONGEST : goal.returns-then-strip-gt-LONGEST
unfolding list_refusal first_refusal or_else
returns-then-strip-gt-LONGEST c = rw (lt-ltb _ _ c.if-strip-gt-LONGEST.true)

pub returns-then-len-gt-LONGEST : goal.returns-then-len-gt-LONGEST
unfolding list_refusal first_refusal or_else
returns-then-len-gt-LONGEST c = rw (le-ltb _ _ c.if-strip-gt-LONGEST.false, lt-ltb _ _ c.if-len-gt-LONGEST.true)

pub returns-then-strip-len : goal.returns-then-strip-len
unfolding list_refusal first_refusal or_else
returns-then-strip-len c =
    let a = c.args in
    let few = text_few a.strip.now in
    let h : length (text_of a.strip.now) ≤ a.len = omega arith in
    rw (le-ltb _ _ c.if-strip-gt-LONGEST.false, le-ltb _ _ c.if-len-gt-LONGEST.false, le-ltb _ _ h)

pub returns-then-len-text_size : goal.returns-then-len-text_size
unfolding list_refusal first_refusal or_else
returns-then-len-text_size c =
    let a = c.args in
    let e = c.text_size.ensures in
    let h : a.len < length (text_of a.strip.now) = omega arith in
    rw (le-ltb _ _ c.if-strip-gt-LONGEST.false, le-ltb _ _ c.if-len-gt-LONGEST.false, lt-ltb _ _ h)

pub returns : goal.returns
unfolding list_refusal first_refusal or_else
returns c =
    let a = c.args in
    let e = c.text_size.ensures in
    let h : length (text_of a.strip.now) ≤ a.len = omega arith in
    rw (le-ltb _ _ c.if-strip-gt-LONGEST.false, le-ltb _ _ c.if-len-gt-LONGEST.false, le-ltb _ _ h)
