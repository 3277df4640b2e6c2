-- `gone_to` meets its contract: the counts at a place within the slice are those of a cursor there. Assumes nothing.
use mathlib.Core.Path.{sym, subst, ap, ◌∙◌}
use lib.ListN.{length}
use Rattle.counts.specs.declared.Counts.{Counts}
use Rattle.counts.specs.Counts.{Within}
use Rattle.counts.proofs.PlaceLaws.{at_within}
use Rattle.reader.specs.Cursor.{with_state, cursor_at, gone_to}
use Rattle.reader.proofs.inner.gone_to.Goals as goal

pub state_at-requires : goal.state_at-requires
state_at-requires c =
    let a = c.args in
    subst (λ (k : Counts). Within (length a.src.now) k) (sym c.counts_at.ensures) (at_within c.requires.0)

pub returns : goal.returns
unfolding gone_to cursor_at
returns c =
    let a = c.args in
    c.with_state.ensures ∙ ap (with_state a.c) c.state_at.ensures ∙ ap (cursor_at a.order a.src.now a.c) c.counts_at.ensures
