-- `state_at` meets its contract: it puts the counts and their register together. Assumes nothing.
use Rattle.lookahead.proofs.inner.state_at.Goals as goal

pub returns : goal.returns
returns c =
    let k = c.args.k in
    λ i. record { offset = k.offset; lookahead = k.lookahead; register = c.register_at.ensures i }
