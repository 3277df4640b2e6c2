-- `put_line` meets its contract: six pieces, each put where the one before it ended, make the line (`line_put`). Assumes nothing.
use mir.Syntax.{w16}
use mir.ValLaws.{to_z-of_z}
use Rattle.listing.proofs.PieceLaws.{line_put}
use Rattle.listing.proofs.inner.put_line.Goals as goal

pub returns-clause-memory : goal.returns-clause-memory
returns-clause-memory c =
    let a = c.args in
    let m = to_z-of_z w16 a.r.magnitude (record { sfits = c.requires.0.magnitude }) in
    let star = c.put_whole-at1.ensures in
    let date = c.put_fixed-at2.ensures in
    let limit = c.put_whole-at3.ensures in
    let magnitude = c.put_magnitude-at4.ensures in
    let error = c.put_fixed-at5.ensures in
    let filter = c.put_whole.ensures in
    (line_put a.r a.out.now a.at (star.answer, star.memory) (date.answer, date.memory)
    (rw c.from.ensures at limit.answer, rw c.from.ensures at limit.memory) (rw m at magnitude.answer, rw m at magnitude.memory)
    (rw c.from-error.ensures at error.answer, rw c.from-error.ensures at error.memory)
    (rw c.from-2.ensures at filter.answer, rw c.from-2.ensures at filter.memory)).1
