-- `is_of` meets its contract: its tests are those of `belongs`, one after the other. Assumes nothing.
use mathlib.Core.Path.{ap, ◌∙◌}
use lib.ListN.{length}
use lib.Dec.{eqb}
use borrow.Author.Tests.{le-leb, lt-leb}
use Rattle.counts.specs.Counts.{Within}
use Rattle.lookahead.specs.State.{belongs, counts_of}
use Rattle.lookahead.proofs.StateLaws.{belongs_register}
use Rattle.lookahead.proofs.inner.is_of.Goals as goal

pub returns-then-src-c : goal.returns-then-src-c
unfolding belongs
returns-then-src-c c = simp (lt-leb _ _ c.if-src-c.true)

pub returns-then-c-gt63 : goal.returns-then-c-gt63
unfolding belongs
returns-then-c-gt63 c = simp (le-leb _ _ c.if-src-c.false, lt-leb _ _ c.if-c-gt63.true)

pub returns-then-c : goal.returns-then-c
unfolding belongs
returns-then-c c =
    simp (le-leb _ _ c.if-src-c.false, le-leb _ _ c.if-c-gt63.false, lt-leb _ _ c.if-c.true)

pub returns : goal.returns
returns c =
    let c₃ = c in
    let c₂ = c₃ in
    let a = c₂.args in
    let h : Within (length a.src.now) (counts_of a.c) = record { fetched = c₂.if-src-c.false; small = c₂.if-c-gt63.false; behind = c₃.if-c.false } in
    ap (eqb a.c.register) c.register_at.ensures ∙ belongs_register a.order a.src.now a.c h
