-- `pack_strip` meets its contract: a refusal changes nothing, and what is not refused fits and has room (`strip_passed`). Assumes nothing.
use mathlib.Core.Path.{refl, sym, ◌∙◌}
use Rattle.bits.proofs.RefusalLaws.{handed_on, number_ne, if_refused, if_done_lem, answer_refused, answer_done}
use Rattle.strip.specs.Answers.{strip_of, packed_out}
use Rattle.strip.proofs.AnswerLaws.{packed, strip_passed}
use Rattle.strip.proofs.pack_strip.Goals as goal

pub returns-in_err-check_strip : goal.returns-in_err-check_strip
unfolding strip_of packed_out
returns-in_err-check_strip c =
    let e = c.in_err-check_strip.ensures in
    rw (handed_on _ _ c.from_residual.ensures.1)
    (record {
      answer = answer_refused e packed _ _ (number_ne _);
      memory = if_refused e _ _ (number_ne _);
    })

pub put_strip-requires : goal.put_strip-requires
put_strip-requires c = strip_passed _ _ _ (sym c.in_ok-check_strip.ensures)

pub returns : goal.returns
unfolding strip_of packed_out
returns c =
    let e = c.in_ok-check_strip.ensures in
    let p = c.put_strip.ensures in
    record {
      answer = answer_done e packed _ _ refl p.answer;
      memory = p.memory ∙ if_done_lem e _ _ refl;
    }
