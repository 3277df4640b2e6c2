-- Each line moves the place on, and the answers stay within their bytes.
use Rattle.std.proofs.Common.{length, ◌-◌, ◌≤◌}
use Rattle.script_calls.proofs.program.answer.Given as goal

abbrev pub invariant-loop-at : goal.invariant-loop-at
invariant-loop-at g l = l.used ≤ length l.lines

abbrev pub decreases-loop-at : goal.decreases-loop-at
decreases-loop-at g l = length l.script - l.at
