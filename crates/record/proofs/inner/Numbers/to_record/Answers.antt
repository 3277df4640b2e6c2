-- `to_record` meets its contract: numbers that fit their fields fit the record's types, so each cast keeps them. Assumes nothing.
use Rattle.std.proofs.Common.{◌≡◌, true, sym, subst, arith, ℤ, w16, w64, SFits}
use mir.ValLaws.{to_z-of_z}
use Rattle.bits.specs.Signed.{signed}
use Rattle.record.specs.declared.inner.Numbers.{Numbers}
use Rattle.record.specs.Record.{fits, named}
use Rattle.record.proofs.FitLaws.{fits-true}
use Rattle.record.proofs.inner.Numbers.to_record.Goals as goal

pub overflow_cast-result : goal.overflow_cast-result
overflow_cast-result c = let h = (fits-true _ c.requires).star in omega arith

pub overflow_cast-result-2 : goal.overflow_cast-result-2
overflow_cast-result-2 c = let h = (fits-true _ c.requires).limit in omega arith

-- the magnitude is of 16 bits
narrow : (six : Numbers) {z : ℤ} → fits (named six) ≡ true → z ≡ signed 64 six.magnitude → SFits w16 z
narrow six h e = subst (SFits w16) (sym e) (record { sfits = (fits-true _ h).magnitude })

pub overflow_cast-result-3 : goal.overflow_cast-result-3
overflow_cast-result-3 c = rw (to_z-of_z w64 _ (record { sfits = c.signed_of_bits.type_inv })) (narrow c.args.self c.requires c.signed_of_bits.ensures)

pub overflow_cast-result-4 : goal.overflow_cast-result-4
overflow_cast-result-4 c = let h = (fits-true _ c.requires).error in omega arith

pub overflow_cast-result-5 : goal.overflow_cast-result-5
overflow_cast-result-5 c = let h = (fits-true _ c.requires).filter in omega arith

pub returns : goal.returns
returns c =
    rw (to_z-of_z w64 _ (record { sfits = c.signed_of_bits.type_inv }), to_z-of_z w16 _ (narrow c.args.self c.requires c.signed_of_bits.ensures), c.signed_of_bits.ensures)
