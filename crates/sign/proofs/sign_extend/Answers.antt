-- `sign_extend` meets its contract: it refuses by the tests of `extend_of`, in that order, and else answers as `extend` does. Assumes nothing.
use Rattle.std.proofs.Common.{◌^◌, ◌<◌, ◌≤◌, sym, ◌∙◌, w64, ltb-false, ltb-true, le-ltb, lt-ltb, le-leb}
use mir.ValLaws.{to_z-of_z}
use borrow.Author.Tests.{lt-leb}
use Rattle.bits.specs.Refusals.{or_else, first_refusal}
use Rattle.sign.specs.Extend.{extend_refusal, extend_of}
use Rattle.sign.proofs.sign_extend.Goals as goal

-- the value fits its width
small : (c : goal.Then-fits) → c.args.val < 2 ^ c.args.bits
small c = ltb-true _ _ (sym c.fits.ensures ∙ c.if-fits.true)

-- or it does not
large : (c : goal.Else-fits) → 2 ^ c.args.bits ≤ c.args.val
large c = ltb-false _ _ (sym c.fits.ensures ∙ c.if-fits.false)

pub returns-then-bits-gt64 : goal.returns-then-bits-gt64
unfolding extend_of extend_refusal first_refusal or_else
returns-then-bits-gt64 c = simp (lt-ltb _ _ c.if-bits-gt64.true)

pub extend-requires : goal.extend-requires
extend-requires c = (c.if-bits-gt64.false, small c)

pub returns-then-fits : goal.returns-then-fits
unfolding extend_of extend_refusal first_refusal or_else
returns-then-fits c =
    let e = to_z-of_z w64 c.extend.result (record { sfits = c.extend.type_inv }) ∙ c.extend.ensures in
    simp (le-ltb _ _ c.if-bits-gt64.false, lt-leb _ _ (small c.before), e)

pub returns-else-fits : goal.returns-else-fits
unfolding extend_of extend_refusal first_refusal or_else
returns-else-fits c =
    simp (le-ltb _ _ c.if-bits-gt64.false, le-leb _ _ (large c))
