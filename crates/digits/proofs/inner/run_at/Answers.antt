-- `run_at` meets its contract: what is left of the run behind the value so far gives the whole run (`Left`), also after one digit more.
-- Assumes nothing.
use mathlib.Core.Path.{refl, sym, ◌∙◌}
use native.Mathlib.Omega.{arith}
use Rattle.digits.proofs.PlaceLaws.{left_next, left_stop, left_end}
use Rattle.digits.proofs.inner.run_at.Goals as goal

pub loop-i-init : goal.loop-i-init
loop-i-init c = record { within = c.requires; small = omega arith; sum = refl; count = refl }

pub one_more-value-requires : goal.one_more-value-requires
one_more-value-requires c = (c.loop-i.invariant.small, sym c.is_ascii_digit.ensures.value ∙ c.if-not-is_ascii_digit.false)

pub loop-i-preserved : goal.loop-i-preserved
loop-i-preserved c =
    left_next _ _ _ _ c.loop-i.invariant c.loop-i-test.true (sym c.is_ascii_digit.ensures.value ∙ c.if-not-is_ascii_digit.false) c.one_more-value.ensures

pub returns-then-not-is_ascii_digit : goal.returns-then-not-is_ascii_digit
returns-then-not-is_ascii_digit c =
    left_stop _ _ _ _ c.loop-i.invariant c.loop-i-test.true (sym c.is_ascii_digit.ensures.value ∙ c.if-not-is_ascii_digit.true)

pub returns : goal.returns
returns c = left_end _ _ _ _ c.loop-i.invariant c.loop-i-test.false
