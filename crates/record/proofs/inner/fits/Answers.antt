-- `fits` meets its contract: the numbers of a record name it. Assumes nothing.
use Rattle.std.proofs.Common.{ap, ◌∙◌}
use Rattle.record.specs.Record.{fits}
use Rattle.record.proofs.inner.fits.Goals as goal

pub returns : goal.returns
returns c = c.fit.ensures ∙ ap fits c.from.ensures
