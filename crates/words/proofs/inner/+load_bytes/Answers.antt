-- `load_bytes` meets its contract: a byte, and the bytes after it by the call, which has one less to load. Assumes nothing.
use mathlib.Core.Path.{◌≡◌, refl, ap, ap₂, ◌∙◌}
use Prim.Native.Nat.{ℕ, ◌+◌, ◌-◌, ◌*◌}
use native.Mathlib.Omega.{arith}
use Rattle.bits.specs.Field.{join, field}
use Rattle.bits.proofs.FieldLaws.{field_lt}
use Rattle.words.proofs.EightLaws.{byte_first}
use Rattle.words.proofs.inner.+load_bytes.Goals as goal

pub returns-then-n-eq0 : goal.returns-then-n-eq0
unfolding field
returns-then-n-eq0 t c =
    let a = c.args in
    let e : 8 * a.n ≡ 0 = omega arith in
    rw e refl

pub join_bits-requires : goal.join_bits-requires
join_bits-requires t c =
    let a = c.args in
    (omega arith, omega arith, omega arith, c.byte_at-b.type_inv, rw c.load_bytes-rest.ensures (field_lt a.order a.src.now (8 * (a.at + 1)) (8 * (a.n - 1))))

pub returns : goal.returns
returns t c =
    let a = c.args in
    let e : a.n - 1 + 1 ≡ a.n = omega arith in
    c.join_bits.ensures
    ∙ ap₂ (join a.order 8 (8 * (a.n - 1))) c.byte_at-b.ensures c.load_bytes-rest.ensures
    ∙ byte_first a.order a.src.now a.at (a.n - 1) (c.type_inv.src a.at).fits
    ∙ ap (λ (k : ℕ). field a.order a.src.now (8 * a.at) (8 * k)) e
