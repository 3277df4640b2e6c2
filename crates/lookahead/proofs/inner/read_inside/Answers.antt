-- `read_inside` meets its contract: as `read_short`, since 64 bits are there. Assumes nothing.
use native.Mathlib.Omega.{arith}
use lib.ListN.{length}
use lib.Dec.{ltb}
use Rattle.counts.proofs.CountLaws.{if_within, short_enough}
use Rattle.lookahead.specs.State.{counts_of}
use Rattle.lookahead.proofs.StateLaws.{is_ready, is_took, short_read, inside_is}
use Rattle.lookahead.proofs.inner.read_inside.Goals as goal

pub take-requires : goal.take-requires
take-requires c =
    let a = c.args in
    let h = c.requires in
    let k = h.0.within in
    let i = inside_is (length a.src.now) (counts_of a.c) h.1 in
    is_ready a.order a.src.now c.top_up.ensures h.0.short (if_within k (ltb a.c.lookahead a.w))
    (short_enough k a.w h.2 (omega (arith, i.1, h.2)))

pub returns : goal.returns
returns c =
    let a = c.args in
    let h = c.requires in
    short_read a.order a.src.now h.0.within a.w h.2 c.take.result
    (is_took a.order a.src.now c.top_up.ensures a.w c.take.result (c.take.ensures.value, c.take.ensures.state))
