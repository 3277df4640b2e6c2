-- `Writer::flush` meets its contract: a writer that belongs is padded, another one is refused. Assumes nothing.
use mathlib.Core.Path.{sym, refl}
use Rattle.bits.proofs.RefusalLaws.{handed_on}
use Rattle.packing.proofs.BelongsLaws.{refusal_belongs}
use Rattle.writer.specs.Answers.{flush_of, flush_out}
use Rattle.writer.proofs.AnswerLaws.{own_refusal, refused, answered}
use Rattle.writer.proofs.Writer.flush.Goals as goal

pub returns-in_err-check : goal.returns-in_err-check
unfolding flush_of flush_out
returns-in_err-check c =
    let e = sym (own_refusal _ c.state_in.ensures c.in_err-check.ensures) in
    let both = refused c.args.self c.args.out.now (handed_on _ _ c.from_residual.ensures.1) e _ _ in
    record { answer = both.0; memory = both.1 }

pub flush-requires : goal.flush-requires
flush-requires c = refusal_belongs _ _ (own_refusal _ c.state_in.ensures c.in_ok-check.ensures)

pub returns : goal.returns
unfolding flush_of flush_out
returns c =
    let a = c.args in
    let f = c.flush.ensures in
    let e = sym (own_refusal _ c.state_in.ensures c.in_ok-check.ensures) in
    let both = answered a.self a.out.now e f.answer refl f.memory in
    record { answer = both.0; memory = both.1 }
