-- `count_lines` meets its contract: what is left from each line on gives all there is (`left_next`). Assumes nothing.
use Prim.Native.Nat.{ℕ, ◌+◌}
use mathlib.Core.Path.{◌≡◌, sym, ap, ◌∙◌}
use native.Mathlib.Omega.{arith}
use Rattle.std.specs.Prelude.{Err}
use Rattle.text.specs.declared.PackError.TheVariants.{BadLine}
use Rattle.text.specs.Text.{header, bad_line_of}
use Rattle.text.proofs.HeaderLaws.{headed_long}
use Rattle.text.proofs.LinesLaws.{line_there, left_start, left_next, left_bad, left_end}
use Rattle.text.proofs.inner.count_lines.Goals as goal

pub loop-at-init : goal.loop-at-init
loop-at-init c = left_start c.args.text.now (headed_long header c.args.text.now c.requires)

pub loop-at-preserved : goal.loop-at-preserved
loop-at-preserved c =
    let l = c.line_at-line.ensures in
    let good = sym (line_there l) ∙ c.if-is_none.ensures in
    left_next c.args.text.now c.loop-at.at c.loop-at.count c.loop-at.invariant c.line_at-line.result.next c.loop-at-test.true good l.rest (l.further good) l.within

pub returns-then-is_none : goal.returns-then-is_none
returns-then-is_none c =
    let t = c.args.text.now in
    let head = c.requires in
    let (bad, count) = left_bad t c.loop-at.at c.loop-at.count c.loop-at.invariant c.loop-at-test.true (sym (line_there c.line_at-line.ensures) ∙ c.if-is_none.ensures) in
    let line : c.loop-at.count + 2 ≡ bad_line_of t = rw head (omega arith) in
    rw bad (ap (λ (k : ℕ). Err (BadLine k)) line)

pub returns : goal.returns
returns c = left_end c.args.text.now c.loop-at.at c.loop-at.count c.loop-at.invariant c.loop-at-test.false
