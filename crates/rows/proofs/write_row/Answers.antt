-- `write_row` meets its contract: a refusal changes nothing, and what is not refused fits and has room (`row_passed`). Assumes nothing.
use mathlib.Core.Path.{refl, sym, ◌∙◌}
use Rattle.bits.proofs.RefusalLaws.{handed_on, number_ne, if_refused, if_done_lem}
use Rattle.rows.specs.Answers.{row_out}
use Rattle.rows.proofs.AnswerLaws.{row_passed}
use Rattle.rows.proofs.write_row.Goals as goal

pub returns-in_err-check_row : goal.returns-in_err-check_row
unfolding row_out
returns-in_err-check_row c =
    let e = c.in_err-check_row.ensures in
    rw (handed_on _ _ c.from_residual.ensures.1) (record { answer = e; memory = if_refused e _ _ (number_ne _) })

pub put_row-requires : goal.put_row-requires
put_row-requires c = let h = row_passed _ _ (sym c.in_ok-check_row.ensures) in (h.2, h.1)

pub returns : goal.returns
unfolding row_out
returns c =
    let e = c.in_ok-check_row.ensures in
    record { answer = e; memory = c.put_row.ensures ∙ if_done_lem e _ _ refl }
