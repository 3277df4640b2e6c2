-- `put_records` meets its contract: what is still to be put from here is what was to be put at first (`underway_step`). Assumes nothing.
use mathlib.Core.Path.{◌≡◌, sym, ap, ◌∙◌, subst}
use Prim.Native.Nat.{◌*◌}
use native.Mathlib.Omega.{arith}
use mathlib.Core.Bool.{true}
use lib.ListN.{length}
use Rattle.bits.specs.declared.Order.TheVariants.{Big}
use Rattle.packing.specs.Packing.{put}
use Rattle.packing.proofs.PutLaws.{put-length}
use Rattle.writer.specs.declared.Writer.{Writer}
use Rattle.writer.specs.Writer.{state_in, writer_with, padding}
use Rattle.record.specs.declared.Record.{Record}
use Rattle.record.specs.Record.{fits}
use Rattle.record.proofs.FitLaws.{true-fits}
use Rattle.rows.specs.Row.{columns_at, record_said, row_length}
use Rattle.strip.proofs.MidwayLaws.{writer_belongs, writer_flushed}
use Rattle.rows.proofs.RowsLaws.{row_fits}
use Rattle.rows.proofs.UnderwayLaws.{underway_start, underway_good, underway_room, underway_step, underway_length, underway_out}
use Rattle.rows.proofs.inner.put_records.Goals as goal

pub loop-i-init : goal.loop-i-init
loop-i-init c = let a = c.args in underway_start a.src.now a.n a.out.now c.requires.2 c.requires.0 c.requires.4

pub row_at-found-requires : goal.row_at-found-requires
row_at-found-requires c =
    let l = c.loop-i in
    (omega (arith, l.invariant.there), c.requires.1, (underway_good c.args.src.now c.args.n c.args.out.now l.out l.c l.i l.invariant c.loop-i-test.true).0)

pub put_record-c-requires : goal.put_record-c-requires
put_record-c-requires c =
    let a = c.args in
    let l = c.loop-i in
    let g = underway_good a.src.now a.n a.out.now l.out l.c l.i l.invariant c.loop-i-test.true in (
      l.invariant.midway.belongs,
      underway_room a.src.now a.n a.out.now l.out l.c l.i l.invariant c.loop-i-test.true c.requires.3,
      subst (λ (r : Record). fits r ≡ true) (sym c.row_at-found.ensures) (true-fits (record_said (columns_at a.src.now (8 * (row_length * l.i)))) (row_fits a.src.now (8 * (row_length * l.i)) g.0)),
    )

pub loop-i-preserved : goal.loop-i-preserved
loop-i-preserved c =
    let a = c.args in
    let l = c.loop-i in
    let put = c.put_record-c in
    underway_step a.src.now a.n a.out.now l.out l.c l.i l.invariant c.loop-i-test.true c.requires.3
    c.row_at-found.result put.new.out put.result c.row_at-found.ensures put.ensures.memory put.ensures.answer

pub flush-last-requires : goal.flush-last-requires
flush-last-requires c = writer_belongs _ c.writer_with.ensures c.loop-i.invariant.midway.belongs

pub shape_of-out : goal.shape_of-out
shape_of-out c =
    let l = c.loop-i in
    ap length (writer_flushed _ c.writer_with.ensures c.flush-last.ensures.memory) ∙ put-length Big l.c (padding (writer_with l.c)) 0 l.out ∙ l.invariant.midway.same

pub returns : goal.returns
returns c =
    let a = c.args in
    let l = c.loop-i in
    record {
      answer = ap (λ (w : Writer). w.written) (c.flush-last.ensures.answer ∙ ap (λ (w : Writer). writer_with (put Big (state_in w) (padding w) 0)) c.writer_with.ensures)
          ∙ underway_length a.src.now a.n a.out.now l.out l.c l.i l.invariant c.loop-i-test.false;
      memory = writer_flushed _ c.writer_with.ensures c.flush-last.ensures.memory ∙ underway_out a.src.now a.n a.out.now l.out l.c l.i l.invariant c.loop-i-test.false;
    }
