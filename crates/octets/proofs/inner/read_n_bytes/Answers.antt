-- `read_n_bytes` meets its contract: a straddle of two neighbours, taken at the places that the order picks, is the field of eight bits
-- between them (`straddled-field`). Assumes nothing.
use mathlib.Core.Path.{◌∙◌}
use Prim.Native.Nat.{ℕ, ◌+◌, ◌-◌, ◌*◌, ◌^◌, ◌<◌, ◌≤◌}
use native.Mathlib.Omega.{arith}
use lib.ListN.{length, get_or}
use Rattle.bits.specs.Field.{field}
use Rattle.octets.specs.Octets.{octets, by_order, straddled}
use Rattle.octets.proofs.FirstsLaws.{firsts_same}
use Rattle.octets.proofs.OctetsLaws.{either_way, straddled-field}
use Rattle.octets.proofs.inner.read_n_bytes.Goals as goal

pub straddle_from-requires : goal.straddle_from-requires
straddle_from-requires c =
    let a = c.args in
    let o = a.order in
    let within : ℕ → Type 0 = λ k. k + length a.out.now ≤ length a.src.now in
    rw (c.by_order-high.ensures, c.by_order-low.ensures, c.by_order.ensures) (
      either_way (λ k. 1 ≤ k) (omega arith) (omega arith) o,
      either_way (λ k. k ≤ 7) (omega arith) (omega arith) o,
      either_way within (omega arith) (omega arith) o,
      either_way within (omega arith) (omega arith) o,
    )

pub returns : goal.returns
unfolding octets
returns c =
    let a = c.args in
    let o = a.order in
    let t = a.src.now in
    let b : (i : ℕ) → get_or t i 0 < 2 ^ 8 = λ i. (c.type_inv.src i).fits in
    rw (c.by_order-high.ensures, c.by_order-low.ensures, c.by_order.ensures) at c.straddle_from.ensures
    ∙ firsts_same (λ i. straddled (get_or t (by_order o (a.at + 1) a.at + i) 0) (get_or t (by_order o a.at (a.at + 1) + i) 0) (by_order o (8 - a.n) a.n))
    (λ i. field o t (8 * a.at + a.n + 8 * i) 8) (length a.out.now) (λ i h. straddled-field o t b a.at a.n i (omega arith))
