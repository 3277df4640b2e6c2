-- `put_strip` meets its contract: what is still to be put from here is what was to be put at first (`underway_step`). Assumes nothing.
use mathlib.Core.Path.{ap, ◌∙◌}
use lib.ListN.{length}
use Rattle.bits.specs.declared.Order.TheVariants.{Big}
use Rattle.packing.specs.Packing.{put, put_out}
use Rattle.packing.proofs.PutLaws.{put-length}
use Rattle.record.specs.declared.Record.{Record}
use Rattle.record.specs.Record.{fits, record_bits}
use Rattle.record.proofs.FitLaws.{in_fields}
use Rattle.strip.specs.Bits.{bits_of}
use Rattle.writer.specs.declared.Writer.{Writer}
use Rattle.writer.specs.Writer.{state_in, writer_with, padding}
use Rattle.strip.proofs.MidwayLaws.{writer_belongs, writer_flushed}
use Rattle.strip.proofs.UnderwayLaws.{underway_start, underway_fits, underway_room, underway_step, underway_length, underway_out}
use Rattle.strip.proofs.inner.put_strip.Goals as goal

pub loop-i-init : goal.loop-i-init
loop-i-init c = let a = c.args in underway_start a.numbers.now a.n a.out.now c.requires.2 c.requires.0 c.requires.3

pub put_six-c-requires : goal.put_six-c-requires
put_six-c-requires c =
    let a = c.args in
    let l = c.loop-i in
    let f = underway_fits a.numbers.now a.n a.out.now l.out l.c l.i l.invariant c.loop-i-test.true in
    let room = underway_room a.numbers.now a.n a.out.now l.out l.c l.i l.invariant c.loop-i-test.true c.requires.1 in
    (l.invariant.midway.belongs, room, in_fields _ (ap fits c.numbers_at.ensures ∙ f))

pub loop-i-preserved : goal.loop-i-preserved
loop-i-preserved c =
    let a = c.args in
    let l = c.loop-i in
    let six = c.put_six-c in
    underway_step a.numbers.now a.n a.out.now l.out l.c l.i l.invariant c.loop-i-test.true c.requires.1
    six.new.out six.result (six.ensures.memory ∙ ap (λ (r : Record). put_out Big l.out l.c record_bits (bits_of r)) c.numbers_at.ensures)
    (six.ensures.answer ∙ ap (λ (r : Record). put Big l.c record_bits (bits_of r)) c.numbers_at.ensures)

pub flush-last-requires : goal.flush-last-requires
flush-last-requires c = writer_belongs _ c.writer_with.ensures c.loop-i.invariant.midway.belongs

pub shape_of-out : goal.shape_of-out
shape_of-out c =
    let l = c.loop-i in
    ap length (writer_flushed _ c.writer_with.ensures c.flush-last.ensures.memory) ∙ put-length Big l.c (padding (writer_with l.c)) 0 l.out ∙ l.invariant.midway.same

pub returns : goal.returns
returns c =
    let a = c.args in
    let l = c.loop-i in
    record {
      answer = ap (λ (w : Writer). w.written) (c.flush-last.ensures.answer ∙ ap (λ (w : Writer). writer_with (put Big (state_in w) (padding w) 0)) c.writer_with.ensures)
          ∙ underway_length a.numbers.now a.n a.out.now l.out l.c l.i l.invariant c.loop-i-test.false;
      memory = writer_flushed _ c.writer_with.ensures c.flush-last.ensures.memory ∙ underway_out a.numbers.now a.n a.out.now l.out l.c l.i l.invariant c.loop-i-test.false;
    }
