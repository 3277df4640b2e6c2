-- `Writer::unaligned_bits` meets its contract: the writer's refusal decides the answer. Assumes nothing.
use mathlib.Core.Path.{refl, sym}
use Rattle.bits.specs.Refusals.{told_by}
use Rattle.bits.proofs.RefusalLaws.{handed_on, number_ne, answer_refused, answer_done}
use Rattle.writer.specs.Answers.{unaligned_of}
use Rattle.writer.proofs.AnswerLaws.{own_refusal}
use Rattle.writer.proofs.Writer.unaligned_bits.Goals as goal

pub returns-in_err-check : goal.returns-in_err-check
unfolding unaligned_of
returns-in_err-check c =
    let e = sym (own_refusal _ c.state_in.ensures c.in_err-check.ensures) in
    rw (handed_on _ _ c.from_residual.ensures.1) (answer_refused e told_by c.args.self.held 0 (number_ne _))

pub returns : goal.returns
unfolding unaligned_of
returns c = answer_done (sym (own_refusal _ c.state_in.ensures c.in_ok-check.ensures)) told_by c.args.self.held 0 refl refl
