-- `partial` meets its contract: the bits of a cursor's partial byte, fewer than eight, are peeked. Assumes nothing.
use Prim.Native.Nat.{ℕ, ◌%◌, ◌<◌, ◌^◌, ◌≤◌}
use mathlib.Core.Path.{refl, sym, ap, ◌∙◌, subst}
use native.Mathlib.Nat.{lt_of_lt_of_le}
use native.Mathlib.Omega.{arith}
use lib.Pow.{pow_mono}
use Rattle.bits.specs.Field.{field}
use Rattle.bits.specs.Refusals.{told_by}
use Rattle.bits.proofs.FieldLaws.{field_lt}
use Rattle.bits.proofs.RefusalLaws.{handed_on, number_ne, answer_refused, answer_done}
use Rattle.counts.specs.Counts as C
use Rattle.lookahead.specs.declared.State.{State}
use Rattle.lookahead.specs.State.{counts_of, Belongs}
use Rattle.reader.proofs.CursorLaws.{own_state}
use Rattle.reader.specs.Answers.{partial_of}
use Rattle.reader.proofs.AnswerLaws.{remainder_granted}
use Rattle.reader.proofs.Cursor.partial.Goals as goal

pub returns-in_err-check_remainder : goal.returns-in_err-check_remainder
unfolding partial_of
returns-in_err-check_remainder c =
    rw (handed_on _ _ c.from_residual.ensures.1) (answer_refused c.in_err-check_remainder.ensures told_by _ _ (number_ne _))

pub peek-requires : goal.peek-requires
peek-requires c =
    let a = c.args in
    let (h, _) = remainder_granted _ _ _ (sym c.in_ok-check_remainder.ensures) in
    subst (λ (t : State). Belongs a.order a.src.now t × (a.self.lookahead % 8 ≤ t.lookahead)) (sym c.state_in.ensures)
    (own_state h, omega arith)

pub overflow_cast-result-2 : goal.overflow_cast-result-2
overflow_cast-result-2 c =
    let n : ℕ = c.args.self.lookahead % 8 in
    let l : 2 ^ n ≤ 2 ^ 8 = pow_mono {i = n} {j = 8} (omega arith) in
    record { fits = subst (λ (v : ℕ). v < 2 ^ 8) (sym c.peek.ensures) (lt_of_lt_of_le (field_lt _ _ _ n) l) }

pub returns : goal.returns
unfolding partial_of
returns c =
    let a = c.args in
    let n : ℕ = a.self.lookahead % 8 in
    let v = c.peek.ensures ∙ ap (λ (t : State). field a.order a.src.now (C.place (counts_of t)) n) c.state_in.ensures in
    answer_done c.in_ok-check_remainder.ensures told_by _ _ refl (λ i. record { partial_bits = n; partial_byte = v i })
