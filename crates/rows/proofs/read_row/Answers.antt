-- `read_row` meets its contract: a row that is not refused says a record (`read_passed`). Assumes nothing.
use mathlib.Core.Path.{refl, sym, ◌∙◌}
use Rattle.bits.specs.Refusals.{done}
use Rattle.bits.proofs.RefusalLaws.{handed_on, number_ne, if_refused, if_done_lem}
use Rattle.record.specs.Record.{no_record}
use Rattle.rows.specs.Answers.{read_of}
use Rattle.rows.proofs.AnswerLaws.{read_passed}
use Rattle.rows.proofs.read_row.Goals as goal

pub returns-in_err-check_read : goal.returns-in_err-check_read
unfolding read_of
returns-in_err-check_read c =
    let e = c.in_err-check_read.ensures in
    rw (handed_on _ _ c.from_residual.ensures.1) ((λ i. record { refusal = e i; value = no_record }) ∙ if_refused e _ _ (number_ne _))

pub row_at-requires : goal.row_at-requires
row_at-requires c = let h = read_passed _ (sym c.in_ok-check_read.ensures) in (h.1, h.0, h.2)

pub returns : goal.returns
unfolding read_of
returns c = (λ i. record { refusal = done; value = c.row_at.ensures i }) ∙ if_done_lem c.in_ok-check_read.ensures _ _ refl
