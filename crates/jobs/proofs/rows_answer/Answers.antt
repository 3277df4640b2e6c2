-- `rows_answer` meets its contract: a strip past the limit is told so, and so is a bad tail; any other strip's rows are written
-- (`rows_done`). Assumes nothing.
use Prim.Native.Nat.{ℕ}
use mathlib.Core.Path.{sym, ap, ◌∙◌}
use Rattle.bits.specs.Refusals.{length_told}
use Rattle.std.specs.Prelude.{Option, Ok}
use Rattle.bits.proofs.RefusalLaws.{handed_on}
use Rattle.text.proofs.HeaderLaws.{bad_tail_is}
use Rattle.rows.specs.Answers.{rows_told}
use Rattle.jobs.proofs.MessageLaws.{too_long_is}
use Rattle.jobs.proofs.RowsLaws.{rows_long, rows_bad, rows_done, rows_there}
use Rattle.jobs.proofs.rows_answer.Goals as goal

pub returns-then-input-gt-MOST_TAKEN : goal.returns-then-input-gt-MOST_TAKEN
returns-then-input-gt-MOST_TAKEN c =
    let said = c.say.ensures in
    rw (rows_long c.args.input.now c.if-input-gt-MOST_TAKEN.true ∙ too_long_is) (record { answer = said.answer; memory = said.memory })

pub returns-then-not-tail_good : goal.returns-then-not-tail_good
returns-then-not-tail_good c =
    let said = c.say-then-not-tail_good.ensures in
    let bad = sym c.tail_good.ensures ∙ c.if-not-tail_good.true in
    rw (rows_bad c.args.input.now c.if-input-gt-MOST_TAKEN.false bad ∙ bad_tail_is) (record { answer = said.answer; memory = said.memory })

pub returns-in_err-strip_to_rows : goal.returns-in_err-strip_to_rows
returns-in_err-strip_to_rows c =
    let rows = c.in_err-strip_to_rows.ensures in
    let good = sym c.tail_good.ensures ∙ c.if-not-tail_good.false in
    let (answer, memory) = rows_done c.args.input.now c.if-input-gt-MOST_TAKEN.false good c.args.out.now rows.answer rows.memory in
    record { answer = ap length_told (handed_on _ _ c.from_residual.ensures.1) ∙ answer; memory = memory }

pub unwrap-requires : goal.unwrap-requires
unwrap-requires c =
    let good = sym c.tail_good.ensures ∙ c.if-not-tail_good.false in
    rows_there c.args.input.now c.if-input-gt-MOST_TAKEN.false good _ _ c.in_ok-strip_to_rows.ensures.answer

pub returns : goal.returns
returns c =
    let rows = c.in_ok-strip_to_rows.ensures in
    let good = sym c.tail_good.ensures ∙ c.if-not-tail_good.false in
    let there = ap (λ (o : Option ℕ). rows_told (Ok o)) (sym c.unwrap.ensures) ∙ rows.answer in
    let (answer, memory) = rows_done c.args.input.now c.if-input-gt-MOST_TAKEN.false good c.args.out.now there rows.memory in
    record { answer = answer; memory = memory }
