-- `put_text` meets its contract: the lines still to come, put from here, give all lines behind the header (`Putting`), and the room for
-- the whole text is room for each of its parts. Assumes nothing.
use mathlib.Core.Path.{sym, ap, ap₂, ◌∙◌, subst}
use mathlib.Core.List.{List}
use Prim.Native.Nat.{ℕ, ◌+◌, ◌*◌}
use lib.Seq.{sets}
use native.Mathlib.Omega.{arith}
use Rattle.record.specs.declared.Record.{Record}
use Rattle.record.specs.Record.{Fits, record_bits}
use Rattle.strip.proofs.PackedLaws.{record_fits}
use Rattle.listing.specs.Listing.{line_of, size_of}
use Rattle.text.proofs.HeaderLaws.{bad_tail_bytes, bad_tail_is}
use Rattle.text.proofs.ListLaws.{putting_room, putting_step, text_size, all_put, good_size, bad-size, head_put, good_put, bad-put}
use Rattle.text.proofs.inner.put_text.Goals as goal

pub put-at-requires : goal.put-at-requires
put-at-requires c = let t = text_size c.args.strip.now in let p = c.requires.1 in omega arith

pub put_line-at-requires : goal.put_line-at-requires
put_line-at-requires c =
    let s = c.args.strip.now in
    let e = c.record_at.ensures in
    let t = text_size s in
    let p = c.requires.1 in
    let k = c.put-at.auto.out in
    let room = putting_room c.loop-i.invariant c.loop-i-test.true (omega arith) in
    let z = ap size_of e in
    (subst (λ (r : Record). Fits r) (sym e) (record_fits s (record_bits * c.loop-i.i)), omega arith)

pub loop-i-preserved : goal.loop-i-preserved
loop-i-preserved c =
    let l = c.loop-i in
    let e = c.record_at.ensures in
    let put = c.put_line-at.ensures in
    putting_step l.invariant c.loop-i-test.true (put.answer ∙ ap (λ (r : Record). l.at + size_of r) e)
    (put.memory ∙ ap (λ (r : Record). sets l.out l.at (line_of r)) e)

pub returns-then-tail_good : goal.returns-then-tail_good
returns-then-tail_good c =
    let s = c.args.strip.now in
    let good = sym c.tail_good.ensures ∙ c.if-tail_good.true in
    let (size, out) = all_put _ _ c.put-at.ensures.memory c.loop-i.invariant c.loop-i-test.false in
    record {
      answer = size ∙ good_size s good;
      memory = out ∙ good_put s c.args.out.now good;
    }

pub put-requires : goal.put-requires
put-requires c =
    let bad = bad-size c.args.strip.now (sym c.tail_good.ensures ∙ c.if-tail_good.false) in
    let (size, out) = all_put _ _ c.put-at.ensures.memory c.loop-i.invariant c.loop-i-test.false in
    let same = c.loop-i.invariant.same in
    let k = c.put-at.auto.out in
    let p = c.requires.1 in
    omega arith

pub returns : goal.returns
returns c =
    let s = c.args.strip.now in
    let bad = sym c.tail_good.ensures ∙ c.if-tail_good.false in
    let (size, out) = all_put _ _ c.put-at.ensures.memory c.loop-i.invariant c.loop-i-test.false in
    let put = c.put.ensures in
    record {
      answer = put.answer ∙ ap (λ (n : ℕ). n + 9) size ∙ bad-size s bad;
      memory = put.memory ∙ ap₂ (λ (l : List ℕ) (k : ℕ). sets l k bad_tail_bytes) out size ∙ ap (sets (head_put s c.args.out.now) _) (sym bad_tail_is) ∙ bad-put s c.args.out.now bad;
    }
