-- `flush` meets its contract: where no bit is held there is nothing to pad; the rest the check finds. Assumes nothing.
use native.Mathlib.Omega.{arith}
use Rattle.writer.proofs.AnswerLaws.{flush_nothing}
use Rattle.writer.proofs.inner.flush.Goals as goal

pub returns : goal.returns
returns c =
    let both = flush_nothing c.args.order c.args.out.now c.args.w c.requires (omega arith) in record { answer = both.0; memory = both.1 }
