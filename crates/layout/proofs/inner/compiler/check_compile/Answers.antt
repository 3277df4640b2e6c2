-- `check_compile` meets its contract: it tests in the order of the refusal numbers. Assumes nothing.
use mathlib.Core.Path.{sym, ◌∙◌}
use borrow.Author.Tests.{lt-ltb, le-ltb}
use Rattle.bits.specs.Refusals.{longest, or_else, first_refusal}
use Rattle.layout.specs.Answers.{compile_refusal}
use Rattle.layout.proofs.inner.compiler.check_compile.Goals as goal
use Rattle.layout.proofs.inner.compiler.check_compile.Goals.{then-layout-gt-LONGEST-via-then-layout-gt-LONGEST, then-layout-gt-LONGEST-via-else-layout-gt-LONGEST+then-room-gt-LONGEST}

pub returns-then-layout-gt-LONGEST : goal.returns-then-layout-gt-LONGEST
unfolding compile_refusal first_refusal or_else
returns-then-layout-gt-LONGEST c =
    elim c.then-layout-gt-LONGEST.branch [
      | then-layout-gt-LONGEST-via-then-layout-gt-LONGEST w ↦ rw (lt-ltb longest _ w.if-layout-gt-LONGEST.true)
      | then-layout-gt-LONGEST-via-else-layout-gt-LONGEST+then-room-gt-LONGEST w ↦ rw (le-ltb longest _ w.if-layout-gt-LONGEST.false, lt-ltb longest _ w.if-room-gt-LONGEST.true)
    ]

pub returns-then-not-is_layout : goal.returns-then-not-is_layout
unfolding compile_refusal first_refusal or_else
returns-then-not-is_layout c =
    rw (le-ltb longest _ c.if-layout-gt-LONGEST.false, le-ltb longest _ c.if-room-gt-LONGEST.false, ← c.is_layout.ensures, c.if-not-is_layout.true)

pub put_plan-requires : goal.put_plan-requires
put_plan-requires c = sym c.is_layout.ensures ∙ c.if-not-is_layout.false

pub returns-then-room-put_plan : goal.returns-then-room-put_plan
unfolding compile_refusal first_refusal or_else
returns-then-room-put_plan c =
    rw (le-ltb longest _ c.if-layout-gt-LONGEST.false, le-ltb longest _ c.if-room-gt-LONGEST.false, ← c.is_layout.ensures, c.if-not-is_layout.false, ← c.put_plan.ensures.answer, lt-ltb _ _ c.if-room-put_plan.true)

pub returns : goal.returns
unfolding compile_refusal first_refusal or_else
returns c =
    rw (le-ltb longest _ c.if-layout-gt-LONGEST.false, le-ltb longest _ c.if-room-gt-LONGEST.false, ← c.is_layout.ensures, c.if-not-is_layout.false, ← c.put_plan.ensures.answer, le-ltb _ _ c.if-room-put_plan.false)
