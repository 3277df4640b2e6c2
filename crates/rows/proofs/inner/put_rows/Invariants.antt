-- `put_rows` meets its contract: in both loops what is left to be stored from here is what was left at first (`left_step`). Assumes nothing.
use Prim.Native.Nat.{◌*◌}
use Rattle.record.specs.Record.{record_bits}
use Rattle.rows.specs.Row.{row_length}
use Rattle.rows.proofs.StripRowsLaws.{Left}
use Rattle.rows.proofs.inner.put_rows.Given as goal

abbrev pub invariant-loop-i : goal.invariant-loop-i
invariant-loop-i l = Left l.src l.count l.initial.out 0 0 0 l.out (8 * l.i) (8 * (record_bits * l.i)) (8 * row_length * l.i)

abbrev pub invariant-loop-i-2 : goal.invariant-loop-i-2
invariant-loop-i-2 l =
    Left l.src l.count l.initial.out l.initial.i (record_bits * l.initial.i) (row_length * l.initial.i) l.out l.i (record_bits * l.i) (row_length * l.i)
