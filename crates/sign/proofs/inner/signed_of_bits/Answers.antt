-- `signed_of_bits` meets its contract: the cast reads bits as `signed` does (`signed_to_z`). Assumes nothing.
use Rattle.std.proofs.Common.{◌≡◌, ◌∙◌, sym, w64, to_z}
use mir.ValLaws.{to_z-of_z}
use Rattle.sign.proofs.SignedLaws.{signed_to_z}
use Rattle.sign.proofs.inner.signed_of_bits.Goals as goal

pub returns : goal.returns
returns c =
    let e : c.cast_signed.result ≡ to_z w64 c.args.x = c.cast_signed.ensures in
    to_z-of_z w64 _ (record { sfits = c.cast_signed.type_inv }) ∙ e ∙ sym (signed_to_z w64 c.args.x c.ranges.x.fits)
