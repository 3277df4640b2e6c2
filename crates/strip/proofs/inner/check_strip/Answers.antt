-- `check_strip` meets its contract: the records named are those of the whole sixes that there are (`whole_records`), and 89 n bits have
-- room in len bytes if n is at most 8 len / 89. Assumes nothing.
use Prim.Native.Nat.{ℕ, ◌*◌, ◌/◌, ◌<◌, ◌≤◌, min}
use mathlib.Core.Path.{◌≡◌, sym, ap, ◌∙◌}
use mathlib.Core.Bool.{Bool}
use mathlib.Core.List.{List}
use native.Mathlib.Omega.{arith}
use lib.ListN.{length}
use borrow.Author.Tests.{lt-ltb, le-ltb}
use Rattle.bits.specs.Refusals.{or_else, first_refusal}
use Rattle.strip.specs.Strip.{records_in, all_fit, strip_length}
use Rattle.strip.specs.Answers.{strip_refusal}
use Rattle.strip.proofs.ListLaws.{whole_records}
use Rattle.strip.proofs.inner.check_strip.Goals as goal
use Rattle.strip.proofs.inner.check_strip.Goals.{then-there-n-via-then-there-n, then-there-n-via-else-there-n+then-len-n}

pub all_fit-requires : goal.all_fit-requires
all_fit-requires c = omega (arith, c.min-there.ensures)

pub returns-then-len-gt-LONGEST : goal.returns-then-len-gt-LONGEST
unfolding strip_refusal first_refusal or_else
returns-then-len-gt-LONGEST c = rw (lt-ltb _ _ c.if-len-gt-LONGEST.true)

-- what was found of the records that are there holds of all
all_is : (n : ℕ) (ns : List ℕ) {k : ℕ} {t : Bool} → t ≡ all_fit (records_in k ns) → k ≡ min n (length ns / 6) → all_fit (records_in n ns) ≡ t
all_is n ns found there = ap all_fit (whole_records n ns) ∙ ap (λ (k : ℕ). all_fit (records_in k ns)) (sym there) ∙ sym found

pub returns-then-not-all_fit : goal.returns-then-not-all_fit
unfolding strip_refusal first_refusal or_else
returns-then-not-all_fit c =
    rw (
      le-ltb _ _ c.if-len-gt-LONGEST.false,
      all_is _ _ c.all_fit.ensures c.min-there.ensures,
      c.if-not-all_fit.true,
    )

pub returns-then-there-n : goal.returns-then-there-n
unfolding strip_refusal first_refusal or_else
returns-then-there-n c =
    let a = c.args in
    rw (
      le-ltb _ _ c.if-len-gt-LONGEST.false,
      all_is _ _ c.all_fit.ensures c.min-there.ensures,
      c.if-not-all_fit.false,
    )
    (elim c.then-there-n.branch [
      | then-there-n-via-then-there-n w ↦
          let few : length a.numbers.now < 6 * a.n = omega (arith, c.min-there.ensures) in
          rw (lt-ltb (length a.numbers.now) (6 * a.n) few)
      | then-there-n-via-else-there-n+then-len-n w ↦
          let enough : 6 * a.n ≤ length a.numbers.now = omega (arith, c.min-there.ensures) in
          let short : a.len < strip_length a.n = omega arith in
          rw (le-ltb (length a.numbers.now) (6 * a.n) enough, lt-ltb a.len (strip_length a.n) short)
    ])

pub returns : goal.returns
unfolding strip_refusal first_refusal or_else
returns c =
    let a = c.args in
    let enough : 6 * a.n ≤ length a.numbers.now = omega (arith, c.min-there.ensures) in
    let room : strip_length a.n ≤ a.len = omega arith in
    rw (
      le-ltb _ _ c.if-len-gt-LONGEST.false,
      all_is _ _ c.all_fit.ensures c.min-there.ensures,
      c.if-not-all_fit.false,
      le-ltb (length a.numbers.now) (6 * a.n) enough,
      le-ltb a.len (strip_length a.n) room,
    )
