-- `put_part` meets its contract: a byte behind the digits that were put is one store more (`part_store`). Assumes nothing.
use mathlib.Core.Path.{refl}
use Rattle.print.proofs.StoreLaws.{part_store}
use Rattle.print.proofs.inner.put_part.Goals as goal

pub returns : goal.returns
returns c =
    let a = c.args in
    let p = c.put_digits in
    record {
      answer = refl;
      memory = part_store a.out.now p.new.out a.at a.k a.n a.end p.ensures;
    }
