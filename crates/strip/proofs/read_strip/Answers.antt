-- `read_strip` meets its contract: a refusal changes nothing, and a list that is not refused has room for every record (`list_passed`).
-- Assumes nothing.
use mathlib.Core.Path.{refl, sym, ◌∙◌}
use mathlib.Core.Bool.{false}
use native.Mathlib.Omega.{arith}
use Rattle.bits.specs.Refusals.{done}
use Rattle.bits.proofs.RefusalLaws.{handed_on, number_ne, if_refused, if_done_lem}
use Rattle.strip.specs.Strip.{count_of}
use Rattle.strip.specs.Answers.{list_of, list_out}
use Rattle.strip.proofs.AnswerLaws.{list_passed}
use Rattle.strip.proofs.read_strip.Goals as goal

pub returns-in_err-check_list : goal.returns-in_err-check_list
unfolding list_of list_out
returns-in_err-check_list c =
    let e = c.in_err-check_list.ensures in
    rw (handed_on _ _ c.from_residual.ensures.1)
    (record {
      answer = (λ i. record { refusal = e i; count = 0; tail_good = false }) ∙ if_refused e _ _ (number_ne _);
      memory = if_refused e _ _ (number_ne _);
    })

pub overflow_mul-count : goal.overflow_mul-count
overflow_mul-count c = omega (arith, list_passed _ _ (sym c.in_ok-check_list.ensures))

pub put_numbers-requires : goal.put_numbers-requires
put_numbers-requires c = let h = list_passed _ _ (sym c.in_ok-check_list.ensures) in (omega arith, h.0, h.1)

pub tail_good-requires : goal.tail_good-requires
tail_good-requires c = (list_passed _ _ (sym c.in_ok-check_list.ensures)).0

pub returns : goal.returns
unfolding list_of list_out
returns c =
    let e = c.in_ok-check_list.ensures in
    record {
      answer = (λ i. record { refusal = done; count = count_of c.args.src.now; tail_good = c.tail_good.ensures i }) ∙ if_done_lem e _ _ refl;
      memory = c.put_numbers.ensures ∙ if_done_lem e _ _ refl;
    }
