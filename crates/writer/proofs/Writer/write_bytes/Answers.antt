-- `Writer::write_bytes` meets its contract: a write that is not refused puts the bytes. Assumes nothing.
use mathlib.Core.Path.{sym}
use Rattle.bits.proofs.RefusalLaws.{handed_on}
use Rattle.writer.specs.Answers.{bytes_of, bytes_out}
use Rattle.writer.proofs.AnswerLaws.{bytes_passed, refused, answered}
use Rattle.writer.proofs.Writer.write_bytes.Goals as goal

pub returns-in_err-check_bytes : goal.returns-in_err-check_bytes
unfolding bytes_of bytes_out
returns-in_err-check_bytes c =
    let both = refused c.args.self c.args.out.now (handed_on _ _ c.from_residual.ensures.1) c.in_err-check_bytes.ensures _ _ in
    record { answer = both.0; memory = both.1 }

pub put_bytes-state-requires : goal.put_bytes-state-requires
put_bytes-state-requires c =
    let h = bytes_passed _ _ _ (sym c.in_ok-check_bytes.ensures) in
    rw c.state_in.ensures (h.belongs, h.enough)

pub returns : goal.returns
unfolding bytes_of bytes_out
returns c =
    let a = c.args in
    let p = c.put_bytes-state.ensures in
    rw (← c.state_in.ensures)
    (let both = answered a.self a.out.now c.in_ok-check_bytes.ensures c.writer_with.ensures p.answer p.memory in
    record { answer = both.0; memory = both.1 })
