use Rattle.lookahead.proofs.inner.+bits_before.Given as goal

abbrev pub decreases-bits_before : goal.decreases-bits_before
decreases-bits_before l = l.n
