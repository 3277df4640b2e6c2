-- `is_inside` meets its contract: its tests are those of the definition, one after the other. Assumes nothing.
use mathlib.Core.Path.{◌≡◌, sym, ap, ◌∙◌}
use mathlib.Core.Bool.{Bool}
use Rattle.std.proofs.Common.{rules}
use Prim.Native.Nat.{ℕ}
use native.Mathlib.Omega.{arith}
use lib.ListN.{length}
use lib.Dec.{eqb}
use borrow.Author.Tests.{le-leb, lt-leb}
use Rattle.counts.specs.declared.Counts.{Counts}
use Rattle.lookahead.specs.State.{register_of}
use Rattle.lookahead.proofs.StateLaws.{inside_is}
use Rattle.reader.specs.declared.Cursor.{Cursor}
use Rattle.reader.specs.Cursor.{counts_in, inside_end, is_inside}
use Rattle.reader.proofs.ReadLaws.{end_is}
use Rattle.reader.proofs.inner.is_inside.Goals as goal
use Rattle.reader.proofs.inner.is_inside.Goals.{then-bits-le56, else-bits-le56}

-- what the test of a cursor's counts says
told : (len : ℕ) (c : Cursor) {k : Counts} {b v t : Bool} → k ≡ counts_in c → b ≡ inside_end len c.end k → v ≡ b → v ≡ t
    → inside_end len c.end (counts_in c) ≡ t
told len c f e g h = sym (ap (inside_end len c.end) f) ∙ sym e ∙ sym g ∙ h

pub register_behind-requires : goal.register_behind-requires
register_behind-requires c =
    let a = c.args in
    elim c.if-bits-le56.branch [
      | then-bits-le56 w ↦
          let (within, _, _) = end_is (length a.src.now) a.c.end _ (sym w.inside_end.ensures ∙ sym w.value-is ∙ c.if-inside_end.true) in
          let i = inside_is (length a.src.now) _ within in
          (record { fetched = omega (arith, i.1); small = i.3; behind = omega (arith, i.2, i.3) }, i.2)
      | else-bits-le56 w ↦ search rules
    ]

pub returns-then-inside_end : goal.returns-then-inside_end
unfolding is_inside
returns-then-inside_end c =
    let a = c.args in
    elim c.if-bits-le56.branch [
      | then-bits-le56 w ↦
          rw (le-leb _ _ w.if-bits-le56.true, told (length a.src.now) a.c c.counts_in-k.ensures w.inside_end.ensures w.value-is c.if-inside_end.true)
          (ap (eqb a.c.register) (c.register_behind.ensures ∙ ap (register_of a.order a.src.now) c.counts_in-k.ensures))
      | else-bits-le56 w ↦ search rules
    ]

pub returns-else-inside_end : goal.returns-else-inside_end
unfolding is_inside
returns-else-inside_end c =
    let a = c.args in
    elim c.if-bits-le56.branch [
      | then-bits-le56 w ↦
          rw (le-leb _ _ w.if-bits-le56.true, told (length a.src.now) a.c c.counts_in-k.ensures w.inside_end.ensures w.value-is c.if-inside_end.false) c.if-inside_end.false
      | else-bits-le56 w ↦ rw (lt-leb _ _ w.if-bits-le56.false) c.if-inside_end.false
    ]
