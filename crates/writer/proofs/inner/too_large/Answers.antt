-- `too_large` meets its contract: above the low n - 1 bits stands more than one bit (`large_test`). Assumes nothing.
use Rattle.writer.proofs.WidthLaws.{large_test}
use Rattle.writer.proofs.inner.too_large.Goals as goal

pub returns : goal.returns
returns c = large_test c.args.n c.args.value c.requires.0 c.requires.1 c.ranges.value.fits
