-- The output has room for every answer of the list job (`list_room`), so the answer stands at its front (`whole_answer`).
use Rattle.std.proofs.Common.{le_trans}
use Rattle.jobs.proofs.AnswerLaws.{told_whole, whole_answer}
use Rattle.jobs.proofs.Theorems.{list_room}
use Rattle.striplist.proofs.ListJob.answer.Goals as goal

pub unwrap-requires : goal.unwrap-requires
unwrap-requires c = told_whole _ _ c.requires.in_limit (le_trans (list_room _) c.requires.has_room) _ c.list_answer.ensures.answer

pub returns : goal.returns
returns c =
    let told = c.list_answer.ensures in
    let (within, front) = whole_answer _ _ c.requires.in_limit (le_trans (list_room _) c.requires.has_room) _ told.answer told.memory c.unwrap.ensures in
    record { in_bounds = within; value = front }
