-- `check_bytes` meets its contract: its tests are those of `bytes_refusal`, in the same order. Assumes nothing.
use mathlib.Core.Path.{sym}
use borrow.Author.Tests.{lt-ltb, le-ltb}
use Rattle.std.specs.Prelude.{[], ltb}
use Rattle.bits.specs.Refusals.{or_else, first_refusal, ◌⟶◌, too_few}
use Rattle.reader.specs.Cursor.{bytes_left}
use Rattle.bits.proofs.RefusalLaws.{first_handed}
use Rattle.reader.proofs.CursorLaws.{refusal_own}
use Rattle.reader.specs.Answers.{bytes_refusal}
use Rattle.reader.proofs.inner.check_bytes.Goals as goal

pub returns-then-n-gt-LONGEST : goal.returns-then-n-gt-LONGEST
unfolding bytes_refusal first_refusal or_else
returns-then-n-gt-LONGEST c = rw (lt-ltb _ _ c.if-n-gt-LONGEST.true)

pub returns-in_err-check : goal.returns-in_err-check
unfolding bytes_refusal first_refusal or_else
returns-in_err-check c =
    let a = c.args in
    rw (le-ltb _ _ c.if-n-gt-LONGEST.false)
    (first_handed _ _ _ (ltb (bytes_left a.src.now a.c) a.n ⟶ too_few) [] c.from_residual.ensures.1 c.in_err-check.ensures)

pub bytes_left-requires : goal.bytes_left-requires
bytes_left-requires c = (refusal_own (sym c.in_ok-check.ensures)).fits

pub returns-then-bytes_left-n : goal.returns-then-bytes_left-n
unfolding bytes_refusal first_refusal or_else
returns-then-bytes_left-n c =
    rw (le-ltb _ _ c.if-n-gt-LONGEST.false, ← c.in_ok-check.ensures, ← c.bytes_left.ensures, lt-ltb _ _ c.if-bytes_left-n.true)

pub returns : goal.returns
unfolding bytes_refusal first_refusal or_else
returns c =
    rw (le-ltb _ _ c.if-n-gt-LONGEST.false, ← c.in_ok-check.ensures, ← c.bytes_left.ensures, le-ltb _ _ c.if-bytes_left-n.false)
