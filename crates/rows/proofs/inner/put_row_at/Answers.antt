-- `put_row_at` meets its contract: a place is its byte and the bits used of it; near the end the fields give the record (`named_in`). Assumes nothing.
use mathlib.Core.Path.{◌≡◌, ap, ◌∙◌}
use Prim.Native.Nat.{ℕ, ◌+◌, ◌*◌, ◌/◌, ◌%◌}
use native.Mathlib.Omega.{arith}
use lib.Seq.{sets}
use Rattle.record.specs.declared.Record.{Record}
use Rattle.strip.specs.Bits.{record_at}
use Rattle.record.specs.Record.{fits}
use Rattle.record.proofs.FitLaws.{true-fits, in_fields}
use Rattle.strip.proofs.BitsLaws.{named_in}
use Rattle.strip.proofs.PackedLaws.{record_fits}
use Rattle.rows.specs.Row.{row_bytes}
use Rattle.rows.proofs.inner.put_row_at.Goals as goal

pub put_columns-requires : goal.put_columns-requires
put_columns-requires c =
    let a = c.args in
    let here = named_in a.src.now a.place c.short_field-star.ensures c.short_field-date.ensures c.short_field-rest.ensures c.numbers_in.ensures in
    (c.requires.2, in_fields _ (ap fits here ∙ true-fits _ (record_fits _ _)))

pub returns-then-place-src : goal.returns-then-place-src
returns-then-place-src c =
    let stored = c in
    let a = stored.args in
    let e : 8 * (a.place / 8) + a.place % 8 ≡ a.place = omega arith in
    stored.put_row_used.ensures ∙ ap (λ (p : ℕ). sets a.out.now a.at (row_bytes (record_at a.src.now p))) e

pub returns-else-place-src : goal.returns-else-place-src
returns-else-place-src c =
    let a = c.args in
    let here = named_in a.src.now a.place c.short_field-star.ensures c.short_field-date.ensures c.short_field-rest.ensures c.numbers_in.ensures in
    c.put_columns.ensures ∙ ap (λ (r : Record). sets a.out.now a.at (row_bytes r)) here
