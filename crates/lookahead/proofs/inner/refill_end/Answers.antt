-- `refill_end` meets its contract: the counts after a refill are within the slice, and the register goes with them. Assumes nothing.
use mathlib.Core.Path.{sym, ap, ◌∙◌, subst}
use lib.ListN.{length}
use Rattle.counts.specs.Counts.{Within}
use Rattle.counts.proofs.CountLaws.{refill-within}
use Rattle.lookahead.specs.State.{state_of}
use Rattle.lookahead.proofs.inner.refill_end.Goals as goal

pub register_end-requires : goal.register_end-requires
register_end-requires c =
    let a = c in
    subst (Within (length a.args.src.now)) (sym c.after_refill-next.ensures) (refill-within a.requires)

pub returns : goal.returns
returns c =
    let a = c.args in
    let k = c.after_refill-next.result in
    (λ i. record { offset = k.offset; lookahead = k.lookahead; register = c.register_end.ensures i })
    ∙ ap (state_of a.order a.src.now) c.after_refill-next.ensures
