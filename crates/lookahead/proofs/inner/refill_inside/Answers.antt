-- `refill_inside` meets its contract: the counts are those after a refill (`inside_counts`), and the register goes with them (`full_register`). Assumes nothing.
use mathlib.Core.Path.{◌≡◌, ap, ◌∙◌}
use Prim.Native.Nat.{◌+◌, ◌-◌, ◌/◌, ◌%◌}
use native.Mathlib.Omega.{arith}
use lib.ListN.{length}
use Rattle.bits.specs.Word.{skipped}
use Rattle.counts.specs.declared.Counts.{Counts}
use Rattle.counts.specs.Counts.{Within}
use Rattle.lookahead.specs.State.{register_of, state_of}
use Rattle.lookahead.proofs.StateLaws.{full_register, inside_counts}
use Rattle.lookahead.proofs.inner.refill_inside.Goals as goal

pub returns : goal.returns
returns c =
    let a = c in
    let o = a.args.order in
    let s = a.args.src.now in
    let k : Counts = record { offset = a.args.k.offset + (63 - a.args.k.lookahead) / 8; lookahead = 56 + a.args.k.lookahead % 8 } in
    let w : Within (length s) k = record { fetched = omega (arith, a.requires.1); small = omega arith; behind = omega (arith, a.requires.2) } in
    let e : c.skip_bits.result ≡ register_of o s k =
    c.skip_bits.ensures ∙ ap (skipped o (64 - k.lookahead)) c.load_whole-word.ensures ∙ full_register o s w a.requires.2 (omega arith) in
    (λ i. record { offset = k.offset; lookahead = k.lookahead; register = e i })
    ∙ ap (state_of o s) (inside_counts (length s) a.args.k a.requires.1 a.requires.0.small)
