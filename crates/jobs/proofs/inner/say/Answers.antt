-- `say` meets its contract: each test is a row of the refusals, and what has room is put at the front (`has_room`). Assumes nothing.
use native.Mathlib.Omega.{arith}
use Rattle.jobs.proofs.AnswerLaws.{out_long, out_short, has_room}
use Rattle.jobs.proofs.inner.say.Goals as goal

pub returns-then-out-gt-LONGEST : goal.returns-then-out-gt-LONGEST
returns-then-out-gt-LONGEST c =
    let (answer, memory) = out_long c.args.message.now c.args.out.now c.if-out-gt-LONGEST.true in
    record { answer = answer; memory = memory }

pub returns-then-out-message : goal.returns-then-out-message
returns-then-out-message c =
    let (answer, memory) = out_short c.args.message.now c.args.out.now c.if-out-gt-LONGEST.false c.if-out-message.true in
    record { answer = answer; memory = memory }

pub returns : goal.returns
returns c =
    let (answer, memory) = has_room c.args.message.now c.args.out.now c.if-out-gt-LONGEST.false c.if-out-message.false (omega arith) c.put.ensures.memory in
    record { answer = answer; memory = memory }
