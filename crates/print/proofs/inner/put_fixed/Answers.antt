-- `put_fixed` meets its contract: the whole part with its point, and the decimals with their comma behind it (`fixed_store`).
-- Assumes nothing.
use native.Mathlib.Omega.{arith}
use Rattle.print.proofs.StoreLaws.{fixed_store}
use Rattle.print.proofs.inner.put_fixed.Goals as goal

pub returns : goal.returns
returns c =
    let a = c.args in
    let p = c.put_part in
    let q = c.put_whole-mid in
    let e = p.ensures.answer in
    let f = q.ensures.answer in
    record {
      answer = omega arith;
      memory = fixed_store a.out.now q.new.out p.new.out a.at q.result a.whole a.decimals a.k f q.ensures.memory p.ensures.memory;
    }
