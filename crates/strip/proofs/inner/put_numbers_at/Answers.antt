-- `put_numbers_at` meets its contract: the six numbers stored are those of the record at the place (`numbers_in`). Assumes nothing.
use mathlib.Core.Path.{ap, ◌∙◌}
use lib.Seq.{sets}
use Rattle.strip.proofs.BitsLaws.{numbers_in}
use Rattle.strip.proofs.inner.put_numbers_at.Goals as goal

pub returns-then-place-src : goal.returns-then-place-src
returns-then-place-src c =
    let fields = c in
    let a = fields.args in
    c.put_parts.ensures
    ∙ ap (sets a.numbers.now a.at)
    (numbers_in a.src.now a.place fields.whole_field-star.ensures fields.whole_field-date.ensures fields.whole_field-rest.ensures)

pub returns-else-place-src : goal.returns-else-place-src
returns-else-place-src c =
    let fields = c in
    let a = fields.args in
    c.put_parts-else-place-src.ensures
    ∙ ap (sets a.numbers.now a.at)
    (numbers_in a.src.now a.place fields.short_field-star.ensures fields.short_field-date.ensures fields.short_field-rest.ensures)
