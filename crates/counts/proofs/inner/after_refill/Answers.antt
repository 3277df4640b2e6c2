-- `after_refill` meets its contract: it counts on by what `fetched` answers, which is at most 7 bytes and at most what is left. Assumes nothing.
use mathlib.Core.Path.{ap}
use Prim.Native.Nat.{ℕ}
use Rattle.counts.specs.Counts.{after_fetch}
use Rattle.counts.proofs.inner.after_refill.Goals as goal

pub returns : goal.returns
returns c =
    ap (λ (n : ℕ). after_fetch n c.args.k) c.fetched-n.ensures
