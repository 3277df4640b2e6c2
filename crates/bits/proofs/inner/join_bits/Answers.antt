-- `join_bits` meets its contract: the shifted part loses nothing, and the sum fits 64 bits (`above`). Assumes nothing.
use mathlib.Core.Path.{sym, subst}
use Prim.Native.Nat.{ℕ, ◌<◌, ◌^◌}
use native.Mathlib.Omega.{arith}
use Rattle.bits.specs.Field.{join}
use Rattle.bits.proofs.WordLaws.{above}
use Rattle.bits.proofs.inner.join_bits.Goals as goal

pub overflow_add-result : goal.overflow_add-result
overflow_add-result c =
    let a = c.args in
    let h = c.requires in
    let e = above a.a a.b h.2 h.3 h.4 in
    record { fits = subst (λ (k : ℕ). k < 2 ^ 64) (sym e.0) e.1 }

pub overflow_add-result-in-Big : goal.overflow_add-result-in-Big
overflow_add-result-in-Big c =
    let a = c.args in
    let h = c.requires in
    let e = above a.b a.a (omega arith) h.4 h.3 in
    record { fits = subst (λ (k : ℕ). k < 2 ^ 64) (sym e.0) e.1 }

pub returns-in-Little : goal.returns-in-Little
unfolding join
returns-in-Little c =
    let a = c.args in
    let h = c.requires in
    rw c.in-Little.is (above a.a a.b h.2 h.3 h.4).0

pub returns-in-Big : goal.returns-in-Big
unfolding join
returns-in-Big c =
    let a = c.args in
    let h = c.requires in
    rw c.in-Big.is (above a.b a.a (omega arith) h.4 h.3).0
