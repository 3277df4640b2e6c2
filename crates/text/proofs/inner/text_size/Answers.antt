-- `text_size` meets its contract: the bytes so far with those of the lines still to come are those of the header and all lines
-- (`next_size`). Assumes nothing.
use mathlib.Core.Path.{◌≡◌, sym, ap, ◌∙◌, subst}
use Prim.Native.Nat.{◌*◌, ◌≤◌}
use native.Mathlib.Omega.{arith}
use Rattle.record.specs.declared.Record.{Record}
use Rattle.record.specs.Record.{Fits, record_bits}
use Rattle.strip.specs.Bits.{record_at}
use Rattle.strip.proofs.PackedLaws.{record_fits}
use Rattle.listing.specs.Listing.{size_of}
use Rattle.listing.proofs.PieceLaws.{size_few}
use Rattle.text.proofs.ListLaws.{next_size, end_size, good_size, bad-size}
use Rattle.text.proofs.inner.text_size.Goals as goal
use Rattle.text.proofs.inner.text_size.Goals.{After-line_size-size}

pub line_size-size-requires : goal.line_size-size-requires
line_size-size-requires c = subst (λ (r : Record). Fits r) (sym c.record_at.ensures) (record_fits c.args.strip.now (record_bits * c.loop-i.i))

-- the size of the next line
size_is : (c : After-line_size-size) →
    let r = record_at c.args.strip.now (record_bits * c.loop-i.i) in
    (c.line_size-size.result ≡ size_of r) × (size_of r ≤ 41)
size_is c =
    (c.line_size-size.ensures ∙ ap size_of c.record_at.ensures, size_few _ (record_fits c.args.strip.now (record_bits * c.loop-i.i)))

pub overflow_add-size : goal.overflow_add-size
overflow_add-size c = let z = size_is c in omega arith

pub loop-i-preserved : goal.loop-i-preserved
loop-i-preserved c =
    let z = size_is c in
    let n = next_size c.args.strip.now _ c.loop-i.i c.loop-i-test.true in
    (omega arith, omega arith)

pub returns-then-tail_good : goal.returns-then-tail_good
returns-then-tail_good c =
    let e = end_size c.args.strip.now _ c.loop-i.i c.loop-i-test.false in
    let n = good_size c.args.strip.now (sym c.tail_good.ensures ∙ c.if-tail_good.true) in
    omega arith

pub returns : goal.returns
returns c =
    let e = end_size c.args.strip.now _ c.loop-i.i c.loop-i-test.false in
    let n = bad-size c.args.strip.now (sym c.tail_good.ensures ∙ c.if-tail_good.false) in
    omega arith
