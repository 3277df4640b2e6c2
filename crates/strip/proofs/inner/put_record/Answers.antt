-- `put_record` meets its contract: a record's numbers name it. Assumes nothing.
use mathlib.Core.Path.{ap, ◌∙◌}
use Rattle.bits.specs.declared.Order.TheVariants.{Big}
use Rattle.packing.specs.Packing.{put, put_out}
use Rattle.record.specs.declared.Record.{Record}
use Rattle.record.specs.Record.{fits, record_bits}
use Rattle.record.proofs.FitLaws.{in_fields}
use Rattle.strip.specs.Bits.{bits_of}
use Rattle.strip.proofs.inner.put_record.Goals as goal

pub put_six-requires : goal.put_six-requires
put_six-requires c = (c.requires.0, c.requires.1, in_fields _ (ap fits c.from.ensures ∙ c.requires.2))

pub returns : goal.returns
returns c =
    let a = c.args in
    record {
      answer = c.put_six.ensures.answer ∙ ap (λ (r : Record). put Big a.c record_bits (bits_of r)) c.from.ensures;
      memory = c.put_six.ensures.memory ∙ ap (λ (r : Record). put_out Big a.out.now a.c record_bits (bits_of r)) c.from.ensures;
    }
