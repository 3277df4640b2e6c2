-- `read` meets its contract: the value of a read is below 2 to its width. Assumes nothing.
use Prim.Native.Nat.{ℕ, ◌<◌, ◌^◌}
use mathlib.Core.Path.{subst}
use Rattle.reader.proofs.AnswerLaws.{answered-lt}
use Rattle.reader.proofs.Cursor.read.Goals as goal

pub of_bits-requires : goal.of_bits-requires
of_bits-requires g c =
    let a = c.args in
    subst (λ (w : ℕ). c.in_ok-read.read.value < 2 ^ w) c.WIDTH.ensures (answered-lt a.order a.src.now a.self _ c.in_ok-read.ensures)
