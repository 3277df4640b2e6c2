-- `is_of` meets its contract: where all tests but the last hold, the last one is what is left of `belongs`; where one fails, it decides. Assumes nothing.
use mathlib.Core.Path.{sym, ap, ◌∙◌}
use mathlib.Core.Logic.{inl, inr}
use Prim.Native.Nat.{◌≤◌}
use native.Mathlib.Omega.{arith}
use lib.Dec.{ltb}
use borrow.Author.Tests.{leb-true, leb-false}
use Rattle.bits.proofs.WordLaws.{one_shl}
use Rattle.packing.proofs.BelongsLaws.{many_held, past_the_end, belongs_if_small}
use Rattle.packing.proofs.inner.is_of.Goals as goal
use Rattle.packing.proofs.inner.is_of.Goals.{then-c-le7, else-c-le7, then-c-len, else-c-len}

pub returns-then-c-len-2 : goal.returns-then-c-len-2
returns-then-c-len-2 c =
    let a = c.args in
    elim c.if-c-len.branch [
      | then-c-len w ↦
          let few : a.c.held ≤ 63 = omega (arith, w.if-c-len.true) in
          let room = leb-true _ _ (sym w.value-is ∙ c.if-c-len-2.true) in
          ap (ltb a.c.number) (one_shl a.c.held few) ∙ sym (belongs_if_small a.len a.c (omega (arith, w.if-c-len.true, room)) (omega (arith, w.if-c-len.true)))
      | else-c-len w ↦
          let t = sym w.value-is ∙ c.if-c-len-2.true in
          elim c.if-c-le7.branch [
            | then-c-le7 v ↦ let l = leb-true _ _ (sym v.t-5-is ∙ t) in absurd (omega (arith, l, w.if-c-len.either))
            | else-c-le7 v ↦ let l = leb-true _ _ (sym v.t-5-is ∙ t) in absurd (omega (arith, l, v.if-c-le7.false))
          ]
    ]

pub returns-else-c-len-2 : goal.returns-else-c-len-2
returns-else-c-len-2 c =
    let a = c.args in
    c.if-c-len-2.false
    ∙ elim c.if-c-len.branch [
      | then-c-len w ↦
          let past = leb-false _ _ (sym w.value-is ∙ c.if-c-len-2.false) in
          sym (past_the_end a.len a.c (omega (arith, w.if-c-len.true, past)))
      | else-c-len w ↦
          elim w.if-c-len.either [
            | inl (_, past) ↦ sym (past_the_end a.len a.c (omega (arith, past)))
            | inr many ↦ sym (many_held a.len a.c many)
          ]
    ]
