-- `verdict` meets its contract: the verdict on the records still to come, below the last one's date, is that on all (`next_verdict`).
-- Assumes nothing.
use Prim.Native.Nat.{◌+◌, ◌-◌, ◌*◌}
use mathlib.Core.Path.{◌≡◌}
use Rattle.record.specs.Record.{record_bits}
use Rattle.strip.specs.Strip.{records_from, tail_good}
use Rattle.vetting.specs.Verdicts.{verdict_from}
use Rattle.vetting.proofs.inner.verdict.Given as goal

abbrev pub invariant-loop-i : goal.invariant-loop-i
invariant-loop-i l =
    verdict_from (l.i + 1) l.above (records_from l.strip (record_bits * l.i) (l.count - l.i)) (tail_good l.strip) ≡ verdict_from 1 0 (records_from l.strip 0 l.count) (tail_good l.strip)
