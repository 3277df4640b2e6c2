-- `pack_answer` meets its contract: a text past the limit is told so, a bad line by its number (`pack_said`), any other text is packed
-- (`pack_done`). Assumes nothing.
use Prim.Native.Nat.{ℕ}
use mathlib.Core.Path.{refl, sym, ap, ap₂, ◌∙◌}
use mathlib.Core.List.{List}
use lib.ListN.{length}
use native.Mathlib.Omega.{arith}
use Rattle.std.specs.Prelude.{Err}
use Rattle.text.specs.declared.PackError.{PackError}
use Rattle.text.specs.Answers.{packed_told}
use Rattle.jobs.specs.Answers.{answered_of, answered_out}
use Rattle.jobs.proofs.MessageLaws.{too_long_is, bad_line_is}
use Rattle.jobs.proofs.PackLaws.{pack_long, pack_said, no_line, pack_done, line_few}
use Rattle.jobs.proofs.pack_answer.Goals as goal

pub returns-then-input-gt-MOST_TAKEN : goal.returns-then-input-gt-MOST_TAKEN
returns-then-input-gt-MOST_TAKEN c =
    let said = c.say.ensures in
    rw (pack_long c.args.input.now c.if-input-gt-MOST_TAKEN.true ∙ too_long_is) (record { answer = said.answer; memory = said.memory })

pub overflow_cast-line : goal.overflow_cast-line
overflow_cast-line c =
    let short = c.if-input-gt-MOST_TAKEN.false in
    let told = ap (λ (e : PackError). packed_told (Err e)) (sym c.in-Err-BadLine.field-0-is) ∙ c.in-Err-BadLine.ensures.answer in
    let few = line_few c.args.input.now (length c.args.out.now) told in
    omega arith

pub returns-in-Ok : goal.returns-in-Ok
returns-in-Ok c =
    let packed = c.in-Ok.ensures in
    let (answer, memory) = pack_done c.args.input.now c.if-input-gt-MOST_TAKEN.false c.args.out.now packed.answer packed.memory (λ z. absurd (omega arith)) in
    record { answer = answer; memory = memory }

pub returns-in-Err-BadLine : goal.returns-in-Err-BadLine
returns-in-Err-BadLine c =
    let said = c.say_numbered.ensures in
    let packed = c.in-Err-BadLine.ensures in
    let told = ap (λ (e : PackError). packed_told (Err e)) (sym c.in-Err-BadLine.field-0-is) ∙ packed.answer in
    let (answer, same) = pack_said c.args.input.now c.if-input-gt-MOST_TAKEN.false c.args.out.now told refl in
    let message = sym (answer ∙ bad_line_is _) in
    let untouched = packed.memory ∙ same in
    record {
      answer = said.answer ∙ ap₂ (λ (x o : List ℕ). answered_of x (length o)) message untouched;
      memory = said.memory ∙ ap₂ answered_out message untouched;
    }

pub returns-in-Err-Refused : goal.returns-in-Err-Refused
returns-in-Err-Refused c =
    let packed = c.in-Err-Refused.ensures in
    let t = c.args.input.now in
    let short = c.if-input-gt-MOST_TAKEN.false in
    let out = c.args.out.now in
    let told = ap (λ (e : PackError). packed_told (Err e)) (sym c.in-Err-Refused.field-0-is) ∙ packed.answer in
    let (answer, memory) = pack_done t short out told packed.memory (no_line t short out told refl) in
    record { answer = answer; memory = memory }
