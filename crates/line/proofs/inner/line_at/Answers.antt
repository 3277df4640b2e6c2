-- `line_at` meets its contract: each number is read where the one before it ended, so the six are those of the text from the place on
-- (`six_stand`); whether they fit decides the answer. Assumes nothing.
use Rattle.std.proofs.Common.{sym, ◌∙◌}
use Rattle.line.proofs.PlaceLaws.{six_stand}
use Rattle.line.proofs.AnswerLaws.{stands_line, stands_none}
use Rattle.line.proofs.inner.line_at.Goals as goal

pub to_record-requires : goal.to_record-requires
to_record-requires c = sym c.fit.ensures ∙ c.if-fit.true

pub returns-then-fit : goal.returns-then-fit
returns-then-fit c =
    stands_line
    (six_stand c.whole_at-star.ensures c.date_at-date.ensures c.whole_at-limit.ensures c.magnitude_at-magnitude.ensures c.thousandths_at-error.ensures c.whole_at-filter.ensures)
    (sym c.fit.ensures ∙ c.if-fit.true) c.to_record.ensures

pub returns-else-fit : goal.returns-else-fit
returns-else-fit c =
    stands_none
    (six_stand c.whole_at-star.ensures c.date_at-date.ensures c.whole_at-limit.ensures c.magnitude_at-magnitude.ensures c.thousandths_at-error.ensures c.whole_at-filter.ensures)
    (sym c.fit.ensures ∙ c.if-fit.false)
