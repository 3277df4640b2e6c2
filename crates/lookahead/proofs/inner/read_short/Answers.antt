-- `read_short` meets its contract: after the refill the bits are there (`short_enough`), and the place is the same. Assumes nothing.
use mathlib.Core.Path.{◌≡◌}
use lib.ListN.{length}
use lib.Dec.{ltb}
use Rattle.counts.specs.Counts.{refill_if}
use Rattle.counts.proofs.CountLaws.{if_within, short_enough}
use Rattle.lookahead.specs.State.{counts_of, state_of}
use Rattle.lookahead.proofs.StateLaws.{is_ready, is_took, short_read}
use Rattle.lookahead.proofs.inner.read_short.Goals as goal
use Rattle.lookahead.proofs.inner.read_short.Goals.{After-refill_if, After-take}

-- where the place began
abbrev start_1 : After-refill_if → After-refill_if
start_1 c = c

-- the state that is read from: it was refilled exactly if the lookahead was too short
filled_1 :
    (c : After-refill_if) → let a = (start_1 c).args in
    c.refill_if.result ≡ state_of a.order a.src.now (refill_if (ltb a.c.lookahead a.w) (length a.src.now) (counts_of a.c))
filled_1 c = c.refill_if.ensures

pub take-requires : goal.take-requires
take-requires c =
    let a = (start_1 c).args in
    let h = (start_1 c).requires in
    let k = h.0.within in
    is_ready a.order a.src.now (filled_1 c) h.0.short (if_within k (ltb a.c.lookahead a.w)) (short_enough k a.w h.1 h.2)

-- where the place began
abbrev start_2 : After-take → After-take
start_2 c = c

-- the state that is read from: it was refilled exactly if the lookahead was too short
filled_2 :
    (c : After-take) → let a = (start_2 c).args in
    c.refill_if.result ≡ state_of a.order a.src.now (refill_if (ltb a.c.lookahead a.w) (length a.src.now) (counts_of a.c))
filled_2 c = c.refill_if.ensures

pub returns : goal.returns
returns c =
    let a = (start_2 c).args in
    let h = (start_2 c).requires in
    short_read a.order a.src.now h.0.within a.w h.1 c.take.result
    (is_took a.order a.src.now (filled_2 c) a.w c.take.result (c.take.ensures.value, c.take.ensures.state))
