-- `tail_good` meets its contract: what the division by 89 leaves over is behind the last record. Assumes nothing.
use mathlib.Core.Path.{◌≡◌, ap, ◌∙◌}
use Prim.Native.Nat.{ℕ, ◌-◌, ◌*◌, ◌/◌, ◌%◌}
use native.Mathlib.Omega.{arith}
use lib.Dec.{eqb}
use lib.ListN.{length}
use borrow.Author.Tests.{lt-ltb, le-ltb}
use Rattle.bits.specs.declared.Order.TheVariants.{Big}
use Rattle.bits.specs.Field.{field}
use Rattle.record.specs.Record.{record_bits}
use Rattle.strip.specs.Strip.{tail_good}
use Rattle.strip.proofs.inner.tail_good.Goals as goal

pub returns-then-bits-lt8 : goal.returns-then-bits-lt8
unfolding tail_good
returns-then-bits-lt8 c =
    let s = c.args.src.now in
    let n = 8 * length s in
    let e : n - n % record_bits ≡ record_bits * (n / record_bits) = omega arith in
    rw (lt-ltb (n % record_bits) 8 c.if-bits-lt8.true) (ap (λ (v : ℕ). eqb v 0) (c.short_field.ensures ∙ ap (λ (p : ℕ). field Big s p (n % record_bits)) e))

pub returns-else-bits-lt8 : goal.returns-else-bits-lt8
unfolding tail_good
returns-else-bits-lt8 c = rw (le-ltb _ _ c.if-bits-lt8.false)
