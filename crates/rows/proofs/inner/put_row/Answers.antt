-- `put_row` meets its contract: a record's numbers name it. Assumes nothing.
use mathlib.Core.Path.{ap, ◌∙◌}
use lib.Seq.{sets}
use Rattle.record.specs.declared.Record.{Record}
use Rattle.record.specs.Record.{fits}
use Rattle.record.proofs.FitLaws.{in_fields}
use Rattle.rows.specs.Row.{row_bytes}
use Rattle.rows.proofs.inner.put_row.Goals as goal

pub put_columns-requires : goal.put_columns-requires
put_columns-requires c = (c.requires.0, in_fields _ (ap fits c.from.ensures ∙ c.requires.1))

pub returns : goal.returns
returns c = c.put_columns.ensures ∙ ap (λ (r : Record). sets c.args.out.now 0 (row_bytes r)) c.from.ensures
