-- `check_pack` meets its contract: the tests, one by one; 89 n bits have room in len bytes if n is at most 8 len / 89. Assumes nothing.
use mathlib.Core.Path.{◌∙◌}
use Rattle.bits.specs.Refusals.{bad_row}
use Rattle.rows.proofs.AnswerLaws.{found_is, long_rows, long_out, no_room_lem, bad_row_lem, all_good, named_some, named_none}
use Rattle.rows.proofs.inner.check_pack.Goals as goal
use Rattle.rows.proofs.inner.check_pack.Goals.{then-rows-gt-LONGEST-via-then-rows-gt-LONGEST, then-rows-gt-LONGEST-via-else-rows-gt-LONGEST+then-len-gt-LONGEST}

pub returns-then-rows-gt-LONGEST : goal.returns-then-rows-gt-LONGEST
returns-then-rows-gt-LONGEST c =
    let a = c.args in
    elim c.then-rows-gt-LONGEST.branch [
      | then-rows-gt-LONGEST-via-then-rows-gt-LONGEST w ↦ found_is a.rows.now a.len (long_rows a.rows.now a.len w.if-rows-gt-LONGEST.true)
      | then-rows-gt-LONGEST-via-else-rows-gt-LONGEST+then-len-gt-LONGEST w ↦ found_is a.rows.now a.len (long_out a.rows.now a.len w.if-rows-gt-LONGEST.false w.if-len-gt-LONGEST.true)
    ]

pub returns-then-len-rows : goal.returns-then-len-rows
returns-then-len-rows c =
    let a = c.args in
    found_is a.rows.now a.len (no_room_lem a.rows.now a.len c.if-rows-gt-LONGEST.false c.if-len-gt-LONGEST.false c.if-len-rows.true)

pub returns-in-Some : goal.returns-in-Some
returns-in-Some c =
    let a = c.args in
    let bad = named_some c.in-Some.ensures in
    (λ i. record { refusal = bad_row; row = bad.0 i })
    ∙ found_is a.rows.now a.len (bad_row_lem a.rows.now a.len c.if-rows-gt-LONGEST.false c.if-len-gt-LONGEST.false c.if-len-rows.false bad.1)

pub returns-in-None : goal.returns-in-None
returns-in-None c =
    let a = c.args in
    found_is a.rows.now a.len (all_good a.rows.now a.len c.if-rows-gt-LONGEST.false c.if-len-gt-LONGEST.false c.if-len-rows.false (named_none c.in-None.ensures))
