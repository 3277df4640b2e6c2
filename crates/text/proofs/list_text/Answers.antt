-- `list_text` meets its contract: a refusal changes nothing, and what is not refused has room (`list_passed`). Assumes nothing.
use mathlib.Core.Path.{refl, sym, ap, ◌∙◌}
use lib.ListN.{length}
use Rattle.bits.specs.Refusals.{length_told}
use Rattle.bits.proofs.RefusalLaws.{handed_on, number_ne, if_refused, if_done_lem, answer_refused, answer_done}
use Rattle.text.specs.Text.{text_of}
use Rattle.text.specs.Answers.{list_of, list_out}
use Rattle.text.proofs.AnswerLaws.{listed, list_passed}
use Rattle.text.proofs.list_text.Goals as goal

pub returns-in_err-check_list : goal.returns-in_err-check_list
unfolding list_of list_out
returns-in_err-check_list c =
    let e = c.in_err-check_list.ensures in
    record {
      answer = ap length_told (handed_on _ _ c.from_residual.ensures.1) ∙ answer_refused e listed (length (text_of c.args.strip.now)) 0 (number_ne _);
      memory = if_refused e _ _ (number_ne _);
    }

pub put_text-requires : goal.put_text-requires
put_text-requires c = list_passed c.args.strip.now (length c.args.out.now) (sym c.in_ok-check_list.ensures)

pub returns : goal.returns
unfolding list_of list_out
returns c =
    let e = c.in_ok-check_list.ensures in
    record {
      answer = answer_done e listed (length (text_of c.args.strip.now)) 0 refl c.put_text.ensures.answer;
      memory = c.put_text.ensures.memory ∙ if_done_lem e _ _ refl;
    }
