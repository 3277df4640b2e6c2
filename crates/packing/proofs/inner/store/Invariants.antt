-- `store` meets its contract: what is still to be stored from here is what was to be stored at first (`store_step`). Assumes nothing.
use mathlib.Core.Path.{◌≡◌}
use Prim.Native.Nat.{◌+◌, ◌-◌, ◌*◌, ◌^◌, ◌<◌}
use lib.ListN.{length}
use lib.Seq.{sets}
use Rattle.bits.specs.declared.Order.TheVariants.{Little}
use Rattle.packing.specs.Packing.{bytes_of}
use Rattle.packing.proofs.inner.store.Given as goal

abbrev pub invariant-loop-k : goal.invariant-loop-k
invariant-loop-k l =
    (length l.out ≡ length l.initial.out) × (l.left < 2 ^ 64)
    × (sets l.out l.k (bytes_of Little (l.at + l.n - l.k) (64 - 8 * (l.at + l.n - l.k)) l.left)
    ≡ sets l.initial.out l.at (bytes_of Little l.n (64 - 8 * l.n) l.word))
