-- `write_line` meets its contract: it refuses by the tests of `write_refusal`, in that order, before the first byte, and else puts the line.
-- Assumes nothing.
use mathlib.Core.Path.{sym, ◌∙◌}
use Prim.Native.Nat.{◌<◌, ◌≤◌}
use lib.ListN.{length}
use native.Mathlib.Nat.{zero-add}
use borrow.Author.Tests.{lt-ltb, le-ltb}
use Rattle.bits.specs.Refusals.{or_else, first_refusal}
use Rattle.record.proofs.FitLaws.{fits-true}
use Rattle.listing.specs.Listing.{line_of, write_refusal, write_line, write_out}
use Rattle.listing.proofs.PieceLaws.{line_length}
use Rattle.std.proofs.Common.{rules}
use Rattle.listing.proofs.write_line.Goals as goal

pub returns-then-out-gt-LONGEST : goal.returns-then-out-gt-LONGEST
unfolding write_line write_out write_refusal first_refusal or_else
returns-then-out-gt-LONGEST c = let h = lt-ltb _ _ c.if-out-gt-LONGEST.true in record { answer = rw h; memory = rw h }

pub returns-then-not-fits : goal.returns-then-not-fits
unfolding write_line write_out write_refusal first_refusal or_else
returns-then-not-fits c =
    let h = le-ltb _ _ c.if-out-gt-LONGEST.false in
    let e = sym c.fits.ensures ∙ c.if-not-fits.true in
    record { answer = rw (h, e); memory = rw (h, e) }

pub line_size-requires : goal.line_size-requires
line_size-requires c = fits-true _ (sym c.fits.ensures ∙ c.if-not-fits.false)

pub returns-then-out-line_size : goal.returns-then-out-line_size
unfolding write_line write_out write_refusal first_refusal or_else
returns-then-out-line_size c =
    let a = c.args in
    let h = le-ltb _ _ c.if-out-gt-LONGEST.false in
    let e = sym c.fits.ensures ∙ c.if-not-fits.false in
    let k : length a.out.now < length (line_of a.r) = rw (line_length a.r, ← c.line_size.ensures) c.if-out-line_size.true in
    record { answer = rw (h, e, lt-ltb _ _ k); memory = rw (h, e, lt-ltb _ _ k) }

pub put_line-requires : goal.put_line-requires
put_line-requires c = (fits-true _ (sym c.fits.ensures ∙ c.if-not-fits.false), search rules)

pub returns : goal.returns
unfolding write_line write_out write_refusal first_refusal or_else
returns c =
    let a = c.args in
    let h = le-ltb _ _ c.if-out-gt-LONGEST.false in
    let e = sym c.fits.ensures ∙ c.if-not-fits.false in
    let k : length (line_of a.r) ≤ length a.out.now = rw (line_length a.r, ← c.line_size.ensures) c.if-out-line_size.false in
    let n = c.put_line.ensures.answer ∙ zero-add _ ∙ sym (line_length a.r) in
    record { answer = rw (h, e, le-ltb _ _ k, n); memory = rw (h, e, le-ltb _ _ k, c.put_line.ensures.memory) }
