-- `bytes_at` meets its contract: a place is 8 times its byte and the bit within it, and at bit 0 the fields are the bytes (`octets_bytes`).
-- Assumes nothing.
use mathlib.Core.Path.{◌≡◌}
use Prim.Native.Nat.{ℕ, ◌*◌, ◌/◌, ◌^◌, ◌<◌}
use native.Mathlib.Omega.{arith}
use lib.ListN.{get_or}
use Rattle.octets.proofs.OctetsLaws.{octets_bytes}
use Rattle.octets.proofs.inner.bytes_at.Goals as goal

pub returns-then-n-eq0 : goal.returns-then-n-eq0
returns-then-n-eq0 c =
    let a = c.args in
    let b : (i : ℕ) → get_or a.src.now i 0 < 2 ^ 8 = λ i. (c.type_inv.src i).fits in
    let e : 8 * (a.place / 8) ≡ a.place = omega arith in
    rw (← octets_bytes a.order a.src.now b (a.place / 8), e) at c.copy_from.ensures
