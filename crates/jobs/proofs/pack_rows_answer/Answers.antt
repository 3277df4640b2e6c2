-- `pack_rows_answer` meets its contract: rows past the limit are told so, then a bad row by its number, then a cut row; any others are
-- packed (`pack_rows_done`). Assumes nothing.
use Prim.Native.Nat.{ℕ}
use mathlib.Core.Path.{sym, ap, ◌∙◌}
use native.Mathlib.Omega.{arith}
use Rattle.std.specs.Prelude.{Option, Ok, Err}
use Rattle.text.proofs.HeaderLaws.{bad_tail_is}
use Rattle.rows.specs.declared.PackError.{PackError}
use Rattle.rows.specs.Answers.{packed_told}
use Rattle.jobs.proofs.MessageLaws.{bad_row_bytes, numbered, too_long_is, bad_row_is}
use Rattle.jobs.proofs.RowsLaws.{row_named, row_none, bad_row_small, pack_rows_long, pack_rows_bad, pack_rows_cut, pack_rows_done, pack_rows_there, no_row}
use Rattle.jobs.proofs.pack_rows_answer.Goals as goal

pub returns-then-input-gt-MOST_TAKEN : goal.returns-then-input-gt-MOST_TAKEN
returns-then-input-gt-MOST_TAKEN c =
    let said = c.say.ensures in
    rw (pack_rows_long c.args.input.now c.if-input-gt-MOST_TAKEN.true ∙ too_long_is) (record { answer = said.answer; memory = said.memory })

pub overflow_cast-row : goal.overflow_cast-row
overflow_cast-row c =
    let (_, is) = row_named _ c.in-Some.ensures in
    let short = c.if-input-gt-MOST_TAKEN.false in
    let few = bad_row_small c.args.input.now in
    omega arith

pub returns-in-Some : goal.returns-in-Some
returns-in-Some c =
    let said = c.say_numbered.ensures in
    let (bad, is) = row_named _ c.in-Some.ensures in
    rw (pack_rows_bad c.args.input.now c.if-input-gt-MOST_TAKEN.false bad ∙ bad_row_is _ ∙ ap (numbered bad_row_bytes) (sym is)) (record { answer = said.answer; memory = said.memory })

pub returns-then-input-ne0 : goal.returns-then-input-ne0
returns-then-input-ne0 c =
    let said = c.say-then-input-ne0.ensures in
    let none = row_none _ c.in_default.ensures in
    rw (pack_rows_cut c.args.input.now c.if-input-gt-MOST_TAKEN.false none c.if-input-ne0.true ∙ bad_tail_is) (record { answer = said.answer; memory = said.memory })

pub unwrap-requires : goal.unwrap-requires
unwrap-requires c =
    pack_rows_there c.args.input.now c.if-input-gt-MOST_TAKEN.false (row_none _ c.in_default.ensures) c.if-input-ne0.false _ _ c.in-Ok.ensures.answer

pub unreachable-requires : goal.unreachable-requires
unreachable-requires c =
    let packed = c.in-Err-BadRow.ensures in
    let told = ap (λ (e : PackError). packed_told (Err e)) (sym c.in-Err-BadRow.field-0-is) ∙ packed.answer in
    no_row c.args.input.now c.if-input-gt-MOST_TAKEN.false (row_none _ c.in_default.ensures) c.if-input-ne0.false c.args.out.now told packed.memory

pub returns-in-Ok : goal.returns-in-Ok
returns-in-Ok c =
    let packed = c.in-Ok.ensures in
    let none = row_none _ c.in_default.ensures in
    let there = ap (λ (o : Option ℕ). packed_told (Ok o)) (sym c.unwrap.ensures) ∙ packed.answer in
    let (answer, memory) = pack_rows_done c.args.input.now c.if-input-gt-MOST_TAKEN.false none c.if-input-ne0.false c.args.out.now there packed.memory in
    record { answer = answer; memory = memory }

pub returns-in-Err-Refused : goal.returns-in-Err-Refused
returns-in-Err-Refused c =
    let packed = c.in-Err-Refused.ensures in
    let told = ap (λ (e : PackError). packed_told (Err e)) (sym c.in-Err-Refused.field-0-is) ∙ packed.answer in
    let none = row_none _ c.in_default.ensures in
    let (answer, memory) = pack_rows_done c.args.input.now c.if-input-gt-MOST_TAKEN.false none c.if-input-ne0.false c.args.out.now told packed.memory in
    record { answer = answer; memory = memory }
