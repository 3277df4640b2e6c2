-- `put_columns` meets its contract: of the three words that overlap the row stays (`row_stored`). Assumes nothing.
use mathlib.Core.Path.{ap, ◌∙◌}
use Prim.Native.Nat.{◌%◌, ◌^◌}
use native.Mathlib.Nat.{mod-lt}
use native.Mathlib.Omega.{arith}
use lib.IntN.{ℤ}
use lib.Pow.{pow_pos}
use lib.Seq.{sets}
use Rattle.record.specs.Record.{named}
use Rattle.strip.proofs.FitLaws.{with_magnitude, low_16}
use Rattle.rows.specs.Row.{row_bytes}
use Rattle.rows.proofs.ColumnLaws.{letter-lt}
use Rattle.rows.proofs.RowLaws.{row_stored}
use Rattle.rows.proofs.inner.put_columns.Goals as goal

pub overflow_mul-low : goal.overflow_mul-low
overflow_mul-low c = omega (arith, c.letter_of-l.ensures, letter-lt c.args.six.limit)

pub overflow_add-low : goal.overflow_add-low
overflow_add-low c = omega (arith, c.letter_of-l.ensures, letter-lt c.args.six.limit)

pub overflow_add-low-2 : goal.overflow_add-low-2
overflow_add-low-2 c = omega (arith, c.letter_of-l.ensures, letter-lt c.args.six.limit)

pub overflow_add-low-3 : goal.overflow_add-low-3
overflow_add-low-3 c = omega (arith, c.letter_of-l.ensures, letter-lt c.args.six.limit)

pub returns : goal.returns
returns c =
    let third = c in
    let second = third in
    let first = second in
    let l = first in
    let s = l in
    let a = s.args in
    let six = a.six in
    let h = s.requires.1 in
    row_stored six.star six.date six.limit (six.magnitude % 2 ^ 16) six.error six.filter h.0 h.1 (mod-lt _ (pow_pos 16)) h.4 h.5 a.out.now _ _ _ a.at l.letter_of-l.result
    l.letter_of-l.ensures first.store_whole.ensures second.store_whole-2.ensures third.store_whole-3.ensures
    ∙ ap (λ (z : ℤ). sets a.out.now a.at (row_bytes (with_magnitude (named six) z))) (low_16 six.magnitude (omega arith) h.3)
