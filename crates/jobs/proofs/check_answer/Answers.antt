-- `check_answer` meets its contract: a strip past the limit is told so, any other gets the line for its verdict (`check_short`). Assumes
-- nothing.
use mathlib.Core.Path.{sym, ap, ◌∙◌}
use native.Mathlib.Omega.{arith}
use Rattle.text.proofs.HeaderLaws.{bad_tail_is}
use Rattle.jobs.specs.Jobs.{verdict_said, fault_said}
use Rattle.jobs.proofs.MessageLaws.{too_long_is, ok_is}
use Rattle.jobs.proofs.CheckLaws.{check_long, vetted, check_short, fault_small}
use Rattle.jobs.proofs.check_answer.Goals as goal

pub returns-then-input-gt-MOST_TAKEN : goal.returns-then-input-gt-MOST_TAKEN
returns-then-input-gt-MOST_TAKEN c =
    let said = c.say.ensures in
    rw (check_long c.args.input.now c.if-input-gt-MOST_TAKEN.true ∙ too_long_is) (record { answer = said.answer; memory = said.memory })

pub overflow_cast-record : goal.overflow_cast-record
overflow_cast-record c =
    let short = c.if-input-gt-MOST_TAKEN.false in
    let few = fault_small c.args.input.now short (vetted c.args.input.now short c.in-Broken.ensures) in
    omega arith

pub returns-in-Fine : goal.returns-in-Fine
unfolding verdict_said
returns-in-Fine c =
    let said = c.say-in-Fine.ensures in
    let short = c.if-input-gt-MOST_TAKEN.false in
    rw (check_short c.args.input.now short (vetted c.args.input.now short c.in-Fine.ensures) ∙ ok_is) (record { answer = said.answer; memory = said.memory })

pub returns-in-Broken : goal.returns-in-Broken
unfolding verdict_said
returns-in-Broken c =
    let said = c.say_fault.ensures in
    let short = c.if-input-gt-MOST_TAKEN.false in
    let line = check_short c.args.input.now short (vetted c.args.input.now short c.in-Broken.ensures) in
    rw (line ∙ ap (fault_said c.in-Broken.record) (sym c.number.ensures)) (record { answer = said.answer; memory = said.memory })

pub returns-in-BadTail : goal.returns-in-BadTail
unfolding verdict_said
returns-in-BadTail c =
    let said = c.say-in-BadTail.ensures in
    let short = c.if-input-gt-MOST_TAKEN.false in
    rw (check_short c.args.input.now short (vetted c.args.input.now short c.in-BadTail.ensures) ∙ bad_tail_is) (record { answer = said.answer; memory = said.memory })
