-- `check_write` meets its contract: it tests what `write_refusal` tests, in the same order; at width 0 nothing is left to test. Assumes nothing.
use mathlib.Core.Path.{◌≡◌}
use Prim.Native.Nat.{◌+◌, ◌*◌, ◌≤◌}
use native.Mathlib.Omega.{arith}
use borrow.Author.Tests.{lt-ltb, le-ltb, ne_eqb}
use Rattle.bits.specs.Refusals.{or_else, first_refusal}
use Rattle.bits.proofs.RefusalLaws.{handed_on, number_ne}
use Rattle.packing.proofs.BelongsLaws.{refusal_belongs}
use Rattle.writer.specs.Writer.{bits_written, oversized, write_refusal}
use Rattle.writer.proofs.AnswerLaws.{own_refusal}
use Rattle.writer.proofs.inner.check_write.Goals as goal

pub returns-in_err-check : goal.returns-in_err-check
unfolding write_refusal first_refusal or_else
returns-in_err-check c =
    rw (
      handed_on _ _ c.from_residual.ensures.1,
      own_refusal _ c.state_in.ensures c.in_err-check.ensures,
      ne_eqb _ _ (number_ne c.in_err-check.field-0.0),
    )

pub returns-then-bits-gt64 : goal.returns-then-bits-gt64
unfolding write_refusal first_refusal or_else
returns-then-bits-gt64 c = rw (own_refusal _ c.state_in.ensures c.in_ok-check.ensures, lt-ltb _ _ c.if-bits-gt64.true)

pub returns-then-bits-eq0 : goal.returns-then-bits-eq0
unfolding write_refusal first_refusal or_else oversized
returns-then-bits-eq0 c =
    let a = c.args in
    let z = own_refusal _ c.state_in.ensures c.in_ok-check.ensures in
    let e : a.bits ≡ 0 = omega arith in
    let room : bits_written a.w + 0 ≤ 8 * a.len = omega (arith, (refusal_belongs _ _ z).within) in
    rw (z, e, le-ltb _ _ room)

pub returns-then-too_large : goal.returns-then-too_large
unfolding write_refusal first_refusal or_else
returns-then-too_large c =
    rw (own_refusal _ c.state_in.ensures c.in_ok-check.ensures, le-ltb _ _ c.if-bits-gt64.false, ← c.too_large.ensures, c.if-too_large.true)

pub check_room-requires : goal.check_room-requires
check_room-requires c = (refusal_belongs _ _ (own_refusal _ c.state_in.ensures c.in_ok-check.ensures), omega arith)

pub returns : goal.returns
unfolding write_refusal first_refusal or_else
returns c =
    rw (own_refusal _ c.state_in.ensures c.in_ok-check.ensures, le-ltb _ _ c.if-bits-gt64.false, ← c.too_large.ensures, c.if-too_large.false)
    c.check_room.ensures
