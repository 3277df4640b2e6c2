use Rattle.reader.proofs.inner.+read_any.Given as goal

abbrev pub decreases-read_any : goal.decreases-read_any
decreases-read_any l = l.bits
