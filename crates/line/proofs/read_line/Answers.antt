-- `read_line` meets its contract: its tests are those of `line_refusal`, since from place 0 on `line_at` says whether the text begins with
-- a line, and the place behind that whether it is all of the text. Assumes nothing.
use Rattle.std.proofs.Common.{arith, le-ltb, lt-ltb}
use Rattle.bits.specs.Refusals.{or_else, first_refusal}
use Rattle.bits.proofs.TestLaws.{by_test}
use Rattle.line.specs.Reading.{begins, line_refusal, read_line}
use Rattle.line.proofs.AnswerLaws.{all_read, more_left}
use Rattle.line.proofs.read_line.Goals as goal

pub returns-then-src-gt-LONGEST : goal.returns-then-src-gt-LONGEST
unfolding read_line line_refusal first_refusal or_else
returns-then-src-gt-LONGEST c = rw (lt-ltb _ _ c.if-src-gt-LONGEST.true)

pub returns-then-line-src : goal.returns-then-line-src
unfolding read_line line_refusal first_refusal or_else
returns-then-line-src c =
    let left = more_left _ _ c.line_at-line.ensures (λ e. omega arith) in
    by_test (begins c.args.src.now) (λ t. rw (le-ltb _ _ c.if-src-gt-LONGEST.false, t, left)) (λ t. rw (le-ltb _ _ c.if-src-gt-LONGEST.false, t))

pub returns : goal.returns
unfolding read_line line_refusal first_refusal or_else
returns c =
    let x = c.line_at-line.ensures in
    let all = all_read _ _ x (omega (arith, x.within)) in
    rw (c.ok_or.ensures.value, x.names)
    (by_test (begins c.args.src.now) (λ t. rw (le-ltb _ _ c.if-src-gt-LONGEST.false, t, all)) (λ t. rw (le-ltb _ _ c.if-src-gt-LONGEST.false, t)))
