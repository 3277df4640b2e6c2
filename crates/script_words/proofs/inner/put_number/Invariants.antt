-- `put_number` meets its contract: the end stays within the line, whose length does not change. Assumes nothing.
use Rattle.std.proofs.Common.{◌≡◌, ◌≤◌, length}
use Rattle.script_words.proofs.inner.put_number.Given as goal

abbrev pub invariant-loop-place : goal.invariant-loop-place
invariant-loop-place l = (length l.line ≡ length l.initial.line) × (l.end ≤ length l.initial.line)
