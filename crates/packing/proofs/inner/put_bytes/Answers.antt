-- `put_bytes` meets its contract: where no bits are held, the bytes themselves are stored (`bytes_aligned`), else
-- `put_shifted` puts them. Assumes nothing.
use mathlib.Core.Path.{◌≡◌, sym, ◌∙◌, subst}
use Prim.Native.Nat.{ℕ, ◌^◌, ◌<◌}
use native.Mathlib.Omega.{arith}
use lib.ListN.{get_or}
use Rattle.packing.proofs.PutBytesLaws.{bytes_aligned, bytes_aligned_out}
use Rattle.packing.proofs.inner.put_bytes.Goals as goal

pub returns : goal.returns
returns c =
    let a = c.args in
    let aligned : a.c.held ≡ 0 = omega arith in
    let one : a.c.number < 2 ^ 0 = subst (λ (k : ℕ). a.c.number < 2 ^ k) aligned c.requires.0.small in
    let none : a.c.number ≡ 0 = omega arith in
    let small : (i : ℕ) → get_or a.src.now i 0 < 2 ^ 8 = λ i. (c.type_inv.src i).fits in record {
      answer = sym (bytes_aligned a.order a.src.now small a.c aligned none);
      memory = c.put_copied.ensures ∙ sym (bytes_aligned_out a.order a.src.now small a.c aligned none a.out.now);
    }
