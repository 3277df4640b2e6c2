-- `rule_broken` meets its contract: each test is a row of the rules. Assumes nothing.
use mathlib.Core.Path.{sym}
use mathlib.Core.Bool.{and-false}
use borrow.Author.Tests.{lt-ltb, le-ltb, eq-eqb, ne_eqb}
use Rattle.bits.specs.Refusals.{or_else, first_refusal}
use Rattle.vetting.specs.Verdicts.{rule_broken}
use Rattle.vetting.proofs.inner.rule_broken.Goals as goal
use Rattle.vetting.proofs.inner.rule_broken.Goals.{else-error-eq0-via-then-error-eq0+else-limit-ne1, else-error-eq0-via-else-error-eq0}

pub returns-then-date-above : goal.returns-then-date-above
unfolding rule_broken first_refusal or_else
returns-then-date-above c = rw (lt-ltb _ _ c.if-date-above.true)

pub returns-then-filter-gt-LAST_FILTER : goal.returns-then-filter-gt-LAST_FILTER
unfolding rule_broken first_refusal or_else
returns-then-filter-gt-LAST_FILTER c = rw (le-ltb _ _ c.if-date-above.false, lt-ltb _ _ c.if-filter-gt-LAST_FILTER.true)

pub returns-then-limit-ne1 : goal.returns-then-limit-ne1
unfolding rule_broken first_refusal or_else
returns-then-limit-ne1 c =
    rw (le-ltb _ _ c.if-date-above.false, le-ltb _ _ c.if-filter-gt-LAST_FILTER.false, eq-eqb _ _ c.if-error-eq0.true, ne_eqb _ _ c.if-limit-ne1.true)

pub returns : goal.returns
unfolding rule_broken first_refusal or_else
returns c =
    rw (le-ltb _ _ c.if-date-above.false, le-ltb _ _ c.if-filter-gt-LAST_FILTER.false)
    (elim c.else-error-eq0.branch [
      | else-error-eq0-via-then-error-eq0+else-limit-ne1 w ↦ sym (simp (eq-eqb _ _ w.if-limit-ne1.false, and-false))
      | else-error-eq0-via-else-error-eq0 w ↦ rw (ne_eqb _ _ w.if-error-eq0.false)
    ])
