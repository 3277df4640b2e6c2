-- `list_answer` meets its contract: a strip past the limit is told so, any other is listed (`list_done`). Assumes nothing.
use mathlib.Core.Path.{◌∙◌}
use Rattle.jobs.proofs.AnswerLaws.{list_long, listed_answered, list_done}
use Rattle.jobs.proofs.MessageLaws.{too_long_is}
use Rattle.jobs.proofs.list_answer.Goals as goal

pub returns-then-input-gt-MOST_TAKEN : goal.returns-then-input-gt-MOST_TAKEN
returns-then-input-gt-MOST_TAKEN c =
    let said = c.say.ensures in
    rw (list_long c.args.input.now c.if-input-gt-MOST_TAKEN.true ∙ too_long_is) (record { answer = said.answer; memory = said.memory })

pub returns : goal.returns
returns c =
    let listed = c.list_text.ensures in
    let (answer, memory) = list_done c.args.input.now c.if-input-gt-MOST_TAKEN.false c.args.out.now listed.answer listed.memory in
    record { answer = listed_answered _ ∙ answer; memory = memory }
