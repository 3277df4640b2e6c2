-- `close` meets its contract: the byte behind the run is the first of the text behind it (`stands_good`); where the test or that byte is
-- missing, what is answered stands for no part. Assumes nothing.
use mathlib.Core.Path.{sym, ◌∙◌}
use Rattle.digits.proofs.PlaceLaws.{next_within, stands_good, stands_open, stands_failed}
use Rattle.digits.proofs.inner.close.Goals as goal
use Rattle.digits.proofs.inner.close.Goals.{else-ok-via-then-ok+else-starts_at, else-ok-via-else-ok}

pub starts_at-requires : goal.starts_at-requires
starts_at-requires c = next_within c.args.src.now c.args.at c.args.run c.requires.0 c.requires.1

pub returns-then-starts_at : goal.returns-then-starts_at
returns-then-starts_at c =
    let a = c.args in
    stands_good a.src.now a.at a.run c.requires.0 c.requires.1 a.ok a.end c.if-ok.true (sym c.starts_at.ensures ∙ c.if-starts_at.true)

pub returns-else-ok : goal.returns-else-ok
returns-else-ok c =
    let a = c.args in
    elim c.else-ok.branch [
      | else-ok-via-then-ok+else-starts_at w ↦
          stands_open a.src.now a.at a.run c.requires.0 c.requires.1 a.ok a.end w.if-ok.true (sym w.starts_at.ensures ∙ w.if-starts_at.false)
      | else-ok-via-else-ok w ↦ stands_failed a.src.now a.at a.run c.requires.0 c.requires.1 a.ok a.end w.if-ok.false
    ]
