-- `bytes` meets its contract: the count stays within the bytes, whose number does not change. Assumes nothing.
use Rattle.std.proofs.Common.{◌≡◌, ◌≤◌, length}
use Rattle.script_words.proofs.inner.bytes.Given as goal

abbrev pub invariant-loop-two : goal.invariant-loop-two
invariant-loop-two l =
    (goal.iterator-loop-two).can_next l.two-iterator
    × (goal.iterator-loop-two).is_finite l.two-iterator
    × (length l.into ≡ length l.initial.into)
    × (l.n ≤ length l.initial.into)
