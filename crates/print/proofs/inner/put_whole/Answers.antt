-- `put_whole` meets its contract: it puts as many digits as the number takes. Assumes nothing.
use Rattle.print.proofs.inner.put_whole.Goals as goal

pub returns : goal.returns
returns c =
    let p = c.put_part in
    let k = c.places-k in
    record {
      answer = rw k.ensures.0 at p.ensures.answer;
      memory = rw k.ensures.0 at p.ensures.memory;
    }
