-- `compile` meets its contract: it writes only if nothing is refused, and then the whole plan. Assumes nothing.
use mathlib.Core.Path.{refl, sym, ◌∙◌}
use Rattle.bits.proofs.RefusalLaws.{handed_on, number_ne, answer_refused, answer_done, if_refused, if_done_lem}
use Rattle.layout.specs.Answers.{compiled, compile_of, compile_out}
use Rattle.layout.proofs.AnswerLaws.{compile-done}
use Rattle.layout.proofs.compile.Goals as goal

pub returns-in_err-check_compile : goal.returns-in_err-check_compile
unfolding compile_of compile_out
returns-in_err-check_compile c =
    let found = c.in_err-check_compile.ensures in
    record {
      answer = rw (handed_on _ _ c.from_residual.ensures.1) (answer_refused found compiled _ _ (number_ne _));
      memory = if_refused found _ _ (number_ne _);
    }

pub put_plan-requires : goal.put_plan-requires
put_plan-requires c = (compile-done _ _ (sym c.in_ok-check_compile.ensures)).2

pub returns : goal.returns
unfolding compile_of compile_out
returns c =
    let found = c.in_ok-check_compile.ensures in
    record {
      answer = answer_done found compiled _ _ refl c.put_plan.ensures.answer;
      memory = c.put_plan.ensures.memory ∙ if_done_lem found _ _ refl;
    }
