-- `field_at` meets its contract: a wide field is its first 56 bits and those after them (`field_cut`). Assumes nothing.
use mathlib.Core.Path.{sym, ap₂, ◌∙◌}
use Prim.Native.Nat.{◌-◌, ◌<◌, ◌^◌}
use native.Mathlib.Omega.{arith}
use Rattle.bits.specs.Field.{join}
use Rattle.bits.proofs.FieldLaws.{field_lt, field_cut}
use Rattle.std.proofs.Common.{rules}
use Rattle.words.proofs.inner.field_at.Goals as goal

pub join_bits-requires : goal.join_bits-requires
join_bits-requires c =
    let low_fits : c.short_field-low.result < 2 ^ 56 = rw c.short_field-low.ensures (field_lt _ _ _ _) in
    let high_fits : c.short_field-high.result < 2 ^ (c.args.width - 56) = rw c.short_field-high.ensures (field_lt _ _ _ _) in
    search rules

pub returns : goal.returns
returns c =
    let a = c.args in
    c.join_bits.ensures ∙ ap₂ (join a.order 56 (a.width - 56)) c.short_field-low.ensures c.short_field-high.ensures
    ∙ sym (field_cut a.order a.src.now a.place 56 a.width (omega arith))
