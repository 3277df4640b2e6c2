-- `pack_record` meets its contract: a refusal changes nothing, and what is not refused belongs, fits and has room (`pack_passed`).
-- Assumes nothing.
use mathlib.Core.Path.{sym}
use Rattle.bits.proofs.RefusalLaws.{handed_on}
use Rattle.writer.proofs.AnswerLaws.{refused, answered}
use Rattle.strip.specs.Answers.{pack_of, pack_out}
use Rattle.strip.proofs.AnswerLaws.{pack_passed}
use Rattle.strip.proofs.pack_record.Goals as goal

pub returns-in_err-check_pack : goal.returns-in_err-check_pack
unfolding pack_of pack_out
returns-in_err-check_pack c =
    let both = refused c.args.writer c.args.out.now (handed_on _ _ c.from_residual.ensures.1) c.in_err-check_pack.ensures _ _ in
    record { answer = both.0; memory = both.1 }

pub put_record-state-requires : goal.put_record-state-requires
put_record-state-requires c = rw c.state_in.ensures (pack_passed _ _ _ (sym c.in_ok-check_pack.ensures))

pub returns : goal.returns
unfolding pack_of pack_out
returns c =
    let p = c.put_record-state.ensures in
    rw (← c.state_in.ensures)
    (let both = answered c.args.writer c.args.out.now c.in_ok-check_pack.ensures c.writer_with.ensures p.answer p.memory in
    record { answer = both.0; memory = both.1 })
