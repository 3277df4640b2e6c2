use Rattle.words.proofs.inner.+load_bytes.Given as goal

-- proposed from what the function passes where it calls itself
abbrev pub decreases-load_bytes : goal.decreases-load_bytes
decreases-load_bytes l = l.n
