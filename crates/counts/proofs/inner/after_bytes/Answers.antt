-- `after_bytes` meets its contract: bytes of the lookahead are taken (`bytes_held`), and beyond it the code goes the definition's way,
-- with the partial byte as a remainder (`bytes_beyond`). Assumes nothing.
use mathlib.Core.Path.{sym, ap, ◌∙◌, subst}
use Prim.Native.Nat.{ℕ, ◌+◌, ◌-◌, ◌/◌, ◌%◌, ◌≤◌}
use native.Mathlib.Omega.{arith}
use Rattle.counts.specs.declared.Counts.{Counts}
use Rattle.counts.specs.Counts.{Within, after_eights}
use Rattle.counts.proofs.CountLaws.{Moved, refill-moved, moved_room}
use Rattle.counts.proofs.BytesLaws.{passed_le, bytes_held, bytes_beyond}
use Rattle.counts.proofs.inner.after_bytes.Goals as goal
use Rattle.counts.proofs.inner.after_bytes.Goals.{After-passed_over-over}

-- no more bytes are passed over than are read beyond the lookahead
over-le :
    (c : After-passed_over-over) →
    c.passed_over-over.result ≤ c.args.n - c.args.k.lookahead / 8
over-le c =
    let a = c.args in
    let m = a.n - a.k.lookahead / 8 in
    subst (λ (v : ℕ). v ≤ m) (sym c.passed_over-over.ensures) (passed_le (a.k.lookahead % 8) m (omega arith))

-- the counts that are then refilled
abbrev ready : After-passed_over-over → Counts
ready c =
    let k = c.args.k in
    record { offset = k.offset + c.passed_over-over.result; lookahead = k.lookahead % 8 }

ready_within : (c : After-passed_over-over) → Within c.args.len (ready c)
ready_within c =
    let h = over-le c in record { fetched = omega arith; small = omega arith; behind = omega arith }

pub returns-then-n-held : goal.returns-then-n-held
returns-then-n-held c =
    let a = c.args in
    bytes_held a.len a.n a.k c.if-n-held.true

pub overflow_add-k : goal.overflow_add-k
overflow_add-k c = omega (arith, over-le c.before)

pub after_refill-f-requires : goal.after_refill-f-requires
after_refill-f-requires c = ready_within c.before

pub overflow_sub-beyond-2 : goal.overflow_sub-beyond-2
overflow_sub-beyond-2 c = over-le c.before.before

pub after_eights-requires : goal.after_eights-requires
after_eights-requires c =
    let len = c.args.len in
    let k = ready c.before.before in
    let h = ready_within c.before.before in
    let x : Moved len 0 k c.after_refill-f.result = subst (Moved len 0 k) (sym c.after_refill-f.ensures) (refill-moved h) in
    let g = over-le c.before.before in
    (x.within, moved_room x h (omega arith))

pub returns : goal.returns
returns c =
    let a = c.args in
    let p = c.passed_over-over in
    c.after_eights.ensures ∙ ap (after_eights a.len (a.n - a.k.lookahead / 8 - p.result)) c.after_refill-f.ensures
    ∙ bytes_beyond a.len a.n p.result a.k c.if-n-held.false p.ensures
