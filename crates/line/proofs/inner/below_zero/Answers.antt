-- `below_zero` meets its contract: its arms are those of `complement`, and the distance wraps at most once. Assumes nothing.
use Rattle.std.proofs.Common.{◌≡◌, ◌+◌, ◌-◌, ◌%◌, ◌^◌, ◌<◌, ◌≤◌, arith, le-leb}
use borrow.Author.Tests.{lt-leb}
use Rattle.record.specs.Record.{depth}
use Rattle.line.specs.Reading.{complement}
use Rattle.line.proofs.inner.below_zero.Goals as goal
use Rattle.line.proofs.inner.below_zero.Goals.{in_default-via-then-n-lt1, in_default-via-else-n-lt1+else-n-lt32769}

pub returns-in-1-to-32768 : goal.returns-in-1-to-32768
unfolding complement
returns-in-1-to-32768 c =
    let n = c.args.n in
    let some : 1 ≤ n = omega arith in
    let near : n ≤ depth = omega arith in
    let e : depth - n ≡ (2 ^ 64 - n + depth) % 2 ^ 64 = omega arith in
    rw (le-leb 1 n some, le-leb n depth near) e

pub returns-in_default : goal.returns-in_default
unfolding complement
returns-in_default c =
    let n = c.args.n in
    elim c.in_default.branch [
      | in_default-via-then-n-lt1 w ↦ let none : n < 1 = omega arith in rw (lt-leb 1 n none)
      | in_default-via-else-n-lt1+else-n-lt32769 w ↦
          let some : 1 ≤ n = omega arith in
          let far : depth < n = omega arith in
          rw (le-leb 1 n some, lt-leb n depth far)
    ]
