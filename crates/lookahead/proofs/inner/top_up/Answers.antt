-- `top_up` meets its contract: it refills exactly if the lookahead is too short, and eight bytes are there on both sides. Assumes nothing.
use mathlib.Core.Path.{sym, ap, ◌∙◌}
use mathlib.Core.Bool.{Bool}
use native.Mathlib.Omega.{arith}
use lib.ListN.{length}
use borrow.Author.Tests.{lt-ltb, le-ltb}
use Rattle.counts.specs.Counts.{refill_if}
use Rattle.lookahead.specs.State.{counts_of, state_of}
use Rattle.lookahead.proofs.StateLaws.{inside_is, belongs_is}
use Rattle.lookahead.proofs.inner.top_up.Goals as goal

pub refill_inside-requires : goal.refill_inside-requires
refill_inside-requires c =
    let a = c in
    let k = counts_of a.args.c in
    let i = inside_is (length a.args.src.now) k a.requires.1 in
    (a.requires.0.within, i.1, omega (arith, i.2))

pub returns-then-c-w : goal.returns-then-c-w
returns-then-c-w c =
    let a = c.args in
    c.refill_inside.ensures
    ∙ ap (λ (b : Bool). state_of a.order a.src.now (refill_if b (length a.src.now) (counts_of a.c))) (sym (lt-ltb _ _ c.if-c-w.true))

pub returns : goal.returns
returns c =
    let a = c in
    belongs_is a.requires.0
    ∙ ap (λ (b : Bool). state_of a.args.order a.args.src.now (refill_if b (length a.args.src.now) (counts_of a.args.c))) (sym (le-ltb _ _ c.if-c-w.false))
