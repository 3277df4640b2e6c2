-- `put_numbers` meets its contract: what is still to be stored from here is what was to be stored at first. Assumes nothing.
use mathlib.Core.Path.{◌≡◌}
use Prim.Native.Nat.{◌-◌, ◌*◌}
use lib.ListN.{length}
use lib.Seq.{sets}
use Rattle.record.specs.Record.{record_bits}
use Rattle.strip.specs.Strip.{all_numbers, records_from}
use Rattle.strip.proofs.inner.put_numbers.Given as goal

abbrev pub invariant-loop-i : goal.invariant-loop-i
invariant-loop-i l =
    (length l.numbers ≡ length l.initial.numbers)
    × (sets l.numbers (6 * l.i) (all_numbers (records_from l.src (record_bits * l.i) (l.count - l.i))) ≡ sets l.initial.numbers 0 (all_numbers (records_from l.src 0 l.count)))
