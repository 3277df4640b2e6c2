-- `from` meets its contract: a magnitude comes back from its 64 bits. Assumes nothing.
use Rattle.std.proofs.Common.{◌≡◌, ◌<◌, ap, ◌∙◌, arith, w16}
use lib.Signed.{mag}
use mir.ValLaws.{to_z-of_z}
use Rattle.bits.specs.Signed.{signed, pattern}
use Rattle.sign.proofs.SignedLaws.{signed-pattern}
use Rattle.record.specs.Record.{depth}
use Rattle.record.proofs.inner.NumbersFromRecord.from.Goals as goal

pub returns : goal.returns
returns c =
    let r = c.args.r in
    let h : mag r.magnitude < depth = omega arith in
    let e : signed 64 c.magnitude_number.result ≡ r.magnitude =
    ap (signed 64) (c.magnitude_number.ensures ∙ ap (pattern 64) (to_z-of_z w16 r.magnitude (record { sfits = h })))
    ∙ signed-pattern 63 r.magnitude (omega (arith, h)) in
    rw (c.from.ensures, c.from-2.ensures, c.from-3.ensures, c.from-4.ensures, e)
