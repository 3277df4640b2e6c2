-- `bits_before` meets its contract: the last bits of a byte, or the byte behind what the call gives, which is on eight bits less. Assumes nothing.
use mathlib.Core.Path.{◌≡◌, refl, ap, ap₂, ◌∙◌}
use Prim.Native.Nat.{ℕ, ◌+◌, ◌-◌, ◌*◌}
use native.Mathlib.Omega.{arith}
use lib.ListN.{get_or}
use Rattle.bits.specs.Field.{join, field}
use Rattle.bits.proofs.FieldLaws.{field_lt}
use Rattle.lookahead.proofs.StateLaws.{last_bits, byte_behind}
use Rattle.lookahead.proofs.inner.+bits_before.Goals as goal

pub returns-then-n-eq0 : goal.returns-then-n-eq0
unfolding field
returns-then-n-eq0 t c = rw c.if-n-eq0.true refl

pub returns-then-n-lt8 : goal.returns-then-n-lt8
returns-then-n-lt8 t c =
    let a = c.args in
    let e : a.offset - 1 + 1 ≡ a.offset = omega arith in
    c.last_part.ensures
    ∙ last_bits a.order a.src.now (a.offset - 1) a.n (c.type_inv.src (a.offset - 1)).fits (omega arith)
    ∙ ap (λ (i : ℕ). field a.order a.src.now (8 * i - a.n) a.n) e

pub join_bits-requires : goal.join_bits-requires
join_bits-requires t c =
    let a = c.args in
    (omega arith, omega arith, omega arith, rw c.bits_before-before.ensures (field_lt a.order a.src.now (8 * (a.offset - 1) - (a.n - 8)) (a.n - 8)), (c.type_inv.src (a.offset - 1)).fits)

pub returns : goal.returns
returns t c =
    let a = c.args in
    let e : a.offset - 1 + 1 ≡ a.offset = omega arith in
    let l : a.n - 8 + 8 ≡ a.n = omega arith in
    c.join_bits.ensures
    ∙ ap (λ (v : ℕ). join a.order (a.n - 8) 8 v (get_or a.src.now (a.offset - 1) 0)) c.bits_before-before.ensures
    ∙ byte_behind a.order a.src.now (a.offset - 1) (a.n - 8) (c.type_inv.src (a.offset - 1)).fits (omega arith)
    ∙ ap₂ (λ (i n : ℕ). field a.order a.src.now (8 * i - n) n) e l
