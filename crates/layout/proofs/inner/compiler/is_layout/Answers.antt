-- `is_layout` meets its contract: 128 bytes are 64 fields. Assumes nothing.
use mathlib.Core.Path.{sym, ◌∙◌}
use Rattle.layout.proofs.LayoutLaws.{is_layout_odd, is_layout_long, is_layout_good}
use Rattle.layout.proofs.inner.compiler.is_layout.Goals as goal
use Rattle.layout.proofs.inner.compiler.is_layout.Goals.{then-layout-ne0-via-then-layout-ne0, then-layout-ne0-via-else-layout-ne0+then-layout-gt128}

pub returns-then-layout-ne0 : goal.returns-then-layout-ne0
returns-then-layout-ne0 c =
    elim c.then-layout-ne0.branch [
      | then-layout-ne0-via-then-layout-ne0 w ↦ sym (is_layout_odd _ w.if-layout-ne0.true)
      | then-layout-ne0-via-else-layout-ne0+then-layout-gt128 w ↦ sym (is_layout_long _ w.if-layout-ne0.false w.if-layout-gt128.true)
    ]

pub returns : goal.returns
returns c = c.good_fields.ensures ∙ sym (is_layout_good _ c.if-layout-ne0.false c.if-layout-gt128.false)
