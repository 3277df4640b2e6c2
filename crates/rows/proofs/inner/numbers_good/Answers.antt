-- `numbers_good` meets its contract: each test that passed or failed decides its part of the conjunction. Assumes nothing.
use mathlib.Core.Path.{sym, ◌∙◌}
use mathlib.Core.Bool.{and-true, and-false}
use borrow.Author.Tests.{lt-ltb, le-ltb, eq-eqb, ne_eqb}
use Rattle.rows.proofs.inner.numbers_good.Goals as goal
use Rattle.rows.proofs.inner.numbers_good.Goals.{then-letter-eq-LETTER_T, else-letter-eq-LETTER_T, else-star-lt1048576-via-then-star-lt1048576+then-date-lt274877906944+then-error-lt1024+else-filter-lt16, else-star-lt1048576-via-then-star-lt1048576+then-date-lt274877906944+else-error-lt1024, else-star-lt1048576-via-then-star-lt1048576+else-date-lt274877906944, else-star-lt1048576-via-else-star-lt1048576}

pub returns-then-filter-lt16 : goal.returns-then-filter-lt16
returns-then-filter-lt16 c =
    let star = lt-ltb _ _ c.if-star-lt1048576.true in
    let date = lt-ltb _ _ c.if-date-lt274877906944.true in
    let error = lt-ltb _ _ c.if-error-lt1024.true in
    let filter = lt-ltb _ _ c.if-filter-lt16.true in
    elim c.if-letter-eq-LETTER_T.branch [
      | then-letter-eq-LETTER_T w ↦ w.result-is ∙ sym (simp (star, date, error, filter, eq-eqb _ _ w.if-letter-eq-LETTER_T.true))
      | else-letter-eq-LETTER_T w ↦ w.result-is ∙ sym (simp (star, date, error, filter, ne_eqb _ _ w.if-letter-eq-LETTER_T.false, and-true))
    ]

pub returns : goal.returns
returns c =
    elim c.else-star-lt1048576.branch [
      | else-star-lt1048576-via-then-star-lt1048576+then-date-lt274877906944+then-error-lt1024+else-filter-lt16 w ↦ sym (simp (le-ltb _ _ w.if-filter-lt16.false, and-false))
      | else-star-lt1048576-via-then-star-lt1048576+then-date-lt274877906944+else-error-lt1024 w ↦ sym (simp (le-ltb _ _ w.if-error-lt1024.false, and-false))
      | else-star-lt1048576-via-then-star-lt1048576+else-date-lt274877906944 w ↦ sym (simp (le-ltb _ _ w.if-date-lt274877906944.false, and-false))
      | else-star-lt1048576-via-else-star-lt1048576 w ↦ sym (simp (le-ltb _ _ w.if-star-lt1048576.false))
    ]
