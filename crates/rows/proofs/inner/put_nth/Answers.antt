-- `put_nth` meets its contract: 11 k bytes and k bits are 89 k bits. Assumes nothing.
use mathlib.Core.Path.{◌≡◌, ap, ◌∙◌}
use Prim.Native.Nat.{ℕ, ◌+◌, ◌*◌}
use native.Mathlib.Omega.{arith}
use lib.Seq.{sets}
use Rattle.record.specs.Record.{record_bits}
use Rattle.strip.specs.Bits.{record_at}
use Rattle.rows.specs.Row.{row_bytes, row_length}
use Rattle.rows.proofs.inner.put_nth.Goals as goal

pub returns : goal.returns
returns c =
    let stored = c in
    let a = stored.args in
    let e : 8 * (a.byte + 11 * a.k) + a.k ≡ 8 * a.byte + record_bits * a.k = omega arith in
    stored.put_row_used.ensures ∙ ap (λ (p : ℕ). sets a.out.now (a.at + row_length * a.k) (row_bytes (record_at a.src.now p))) e
