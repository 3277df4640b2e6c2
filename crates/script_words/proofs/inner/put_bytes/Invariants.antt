-- `put_bytes` meets its contract: the end stays within the line, whose length does not change. Assumes nothing.
use Rattle.std.proofs.Common.{◌≡◌, ◌≤◌, length}
use Rattle.script_words.proofs.inner.put_bytes.Given as goal

abbrev pub invariant-loop-b : goal.invariant-loop-b
invariant-loop-b l = (length l.line ≡ length l.initial.line) × (l.end ≤ length l.initial.line)
