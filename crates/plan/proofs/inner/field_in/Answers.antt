-- `field_in` meets its contract: near the end as `field_at`, else by whole words, a wide field by two (`field_cut`). Assumes nothing.
use mathlib.Core.Path.{sym, ap₂, ◌∙◌}
use Prim.Native.Nat.{◌-◌, ◌<◌, ◌^◌}
use native.Mathlib.Omega.{arith}
use Rattle.bits.specs.Field.{join}
use Rattle.bits.proofs.FieldLaws.{field_lt, field_cut}
use Rattle.std.proofs.Common.{rules}
use Rattle.plan.proofs.inner.field_in.Goals as goal

pub whole_field-requires : goal.whole_field-requires
whole_field-requires c = let there = c.requires.3 c.if-inside.true in search rules

pub whole_field-high-requires : goal.whole_field-high-requires
whole_field-high-requires c = let there = c.requires.3 c.if-inside.true in search rules

pub join_bits-requires : goal.join_bits-requires
join_bits-requires c =
    let low_fits : c.whole_field-low.result < 2 ^ 56 = rw c.whole_field-low.ensures (field_lt _ _ _ _) in
    let high_fits : c.whole_field-high.result < 2 ^ (c.args.width - 56) = rw c.whole_field-high.ensures (field_lt _ _ _ _) in
    search rules

pub returns-then-inside : goal.returns-then-inside
returns-then-inside c =
    let a = c.args in
    c.join_bits.ensures ∙ ap₂ (join a.order 56 (a.width - 56)) c.whole_field-low.ensures c.whole_field-high.ensures
    ∙ sym (field_cut a.order a.src.now a.place 56 a.width (omega arith))
