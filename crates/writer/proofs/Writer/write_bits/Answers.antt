-- `Writer::write_bits` meets its contract: a write that is not refused puts the value, which fits its width; at width 0 there is nothing
-- to put (`write_nothing`). Assumes nothing.
use mathlib.Core.Path.{refl, sym}
use native.Mathlib.Nat.{mod-eq_of_lt}
use native.Mathlib.Omega.{arith}
use Rattle.bits.proofs.RefusalLaws.{handed_on}
use Rattle.writer.specs.Answers.{write_of, write_out}
use Rattle.writer.proofs.AnswerLaws.{write_passed, write_fits, write_nothing, refused, answered}
use Rattle.writer.proofs.Writer.write_bits.Goals as goal

pub returns-in_err-check_write : goal.returns-in_err-check_write
unfolding write_of write_out
returns-in_err-check_write c =
    let both = refused c.args.self c.args.out.now (handed_on _ _ c.from_residual.ensures.1) c.in_err-check_write.ensures _ _ in
    record { answer = both.0; memory = both.1 }

pub returns-then-bits-eq0 : goal.returns-then-bits-eq0
unfolding write_of write_out
returns-then-bits-eq0 c =
    let a = c.args in
    let h = write_passed _ _ _ _ (sym c.in_ok-check_write.ensures) in
    let n = write_nothing a.order a.out.now a.self h.1.belongs a.bits a.value (omega arith) in
    let both = answered a.self a.out.now c.in_ok-check_write.ensures refl n.0 n.1 in
    record { answer = both.0; memory = both.1 }

pub put_bits-state-requires : goal.put_bits-state-requires
put_bits-state-requires c =
    let a = c.args in
    let passed = sym c.in_ok-check_write.ensures in
    let h = write_passed _ _ _ _ passed in
    rw c.state_in.ensures (h.1.belongs, h.0, write_fits _ _ _ _ passed (omega arith) c.ranges.value.fits, h.1.enough)

pub returns : goal.returns
unfolding write_of write_out
returns c =
    let a = c.args in
    let p = c.put_bits-state.ensures in
    rw (mod-eq_of_lt (write_fits _ _ _ _ (sym c.in_ok-check_write.ensures) (omega arith) c.ranges.value.fits), ← c.state_in.ensures)
    (let both = answered a.self a.out.now c.in_ok-check_write.ensures c.writer_with.ensures p.answer p.memory in
    record { answer = both.0; memory = both.1 })
