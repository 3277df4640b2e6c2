-- `put_records` meets its contract: the records of the lines still to come, put from here, give what all give from the start
-- (`underway_step`). Assumes nothing.
use mathlib.Core.Path.{sym, ap, ◌∙◌, subst}
use lib.ListN.{length}
use native.Mathlib.Omega.{arith}
use Rattle.bits.specs.declared.Order.TheVariants.{Big}
use Rattle.packing.specs.Packing.{Belongs, put, put_out}
use Rattle.writer.specs.declared.Writer.{Writer}
use Rattle.writer.specs.Writer.{state_in, writer_with, padding}
use Rattle.strip.proofs.MidwayLaws.{midway_length, midway_out}
use Rattle.text.specs.Text.{body_of}
use Rattle.text.proofs.PackLaws.{underway_start, underway_there, underway_further, underway_fits, underway_room, underway_step, underway_end}
use Rattle.text.proofs.inner.put_records.Goals as goal

pub loop-at-init : goal.loop-at-init
loop-at-init c = underway_start c.args.text.now c.args.out.now c.requires.0 c.requires.2 c.requires.3

pub line_at-line-requires : goal.line_at-line-requires
line_at-line-requires c = c.loop-at.invariant.within

pub unwrap-requires : goal.unwrap-requires
unwrap-requires c =
    let l = c.loop-at in
    underway_there c.args.text.now c.args.out.now l.out l.c l.at l.invariant c.loop-at-test.true c.line_at-line.result c.line_at-line.ensures

pub put_record-c-requires : goal.put_record-c-requires
put_record-c-requires c =
    let a = c.args in
    let l = c.loop-at in
    let found = c.line_at-line in (
      l.invariant.midway.belongs,
      underway_room a.text.now a.out.now l.out l.c l.at l.invariant c.loop-at-test.true found.result found.ensures c.unwrap.ensures c.requires.4,
      underway_fits a.text.now a.out.now l.out l.c l.at l.invariant c.loop-at-test.true found.result found.ensures c.unwrap.ensures,
    )

pub loop-at-smaller : goal.loop-at-smaller
loop-at-smaller c =
    let a = c.args in
    let l = c.loop-at in
    let f = underway_further a.text.now a.out.now l.out l.c l.at l.invariant c.loop-at-test.true c.line_at-line.result c.line_at-line.ensures in
    omega arith

pub loop-at-preserved : goal.loop-at-preserved
loop-at-preserved c =
    let a = c.args in
    let l = c.loop-at in
    underway_step a.text.now a.out.now l.out l.c l.at l.invariant c.loop-at-test.true c.line_at-line.result c.line_at-line.ensures c.unwrap.ensures c.requires.4
    c.put_record-c.new.out c.put_record-c.result c.put_record-c.ensures.memory c.put_record-c.ensures.answer

pub flush-last-requires : goal.flush-last-requires
flush-last-requires c =
    let l = c.loop-at in
    subst (λ (w : Writer). Belongs (length l.out) (state_in w)) (sym c.writer_with.ensures) l.invariant.midway.belongs

pub returns : goal.returns
returns c =
    let a = c.args in
    let l = c.loop-at in
    let end = underway_end a.text.now a.out.now l.out l.c l.at l.invariant c.loop-at-test.false in
    let same = c.writer_with.ensures in
    let flushed = c.flush-last.ensures in
    record {
      answer = ap (λ (w : Writer). w.written) (flushed.answer ∙ ap (λ (w : Writer). writer_with (put Big (state_in w) (padding w) 0)) same)
          ∙ midway_length (body_of a.text.now).records a.out.now l.out l.c end;
      memory = flushed.memory ∙ ap (λ (w : Writer). put_out Big l.out (state_in w) (padding w) 0) same
          ∙ midway_out (body_of a.text.now).records a.out.now l.out l.c end;
    }
