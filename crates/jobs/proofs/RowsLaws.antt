-- Laws of the jobs on rows: what their answers are, and that the rows' own answers are the jobs'.
use Prim.Native.Nat.{ℕ, zero, suc, ◌*◌, ◌%◌, ◌<◌, ◌≤◌}
use mathlib.Core.Path.{◌≡◌, refl, sym, ap, ◌∙◌}
use mathlib.Core.Bool.{Bool, true, false, cond, true≢false}
use mathlib.Core.List.{List}
use lib.ListN.{length}
use lib.Dec.{ltb, eqb}
use native.Mathlib.Omega.{arith}
use borrow.Author.Tests.{lt-ltb, le-ltb, eq-eqb, ne_eqb, eqb-true, eqb-false}
use Rattle.std.specs.Prelude.{Option, Some, None, Ok, Err}
use Rattle.std.specs.Option.{IsSome}
use Rattle.bits.specs.Refusals.{bad_row, if_done, longest, done, too_long, no_room, ◌⟶◌, or_else, first_refusal, LengthTold}
use Rattle.bits.proofs.TestLaws.{by_test}
use Rattle.strip.specs.Strip.{strip_length, strip_bytes, count_of, records_of, tail_good}
use Rattle.strip.proofs.StripLaws.{length_strip}
use Rattle.strip.proofs.PackedLaws.{records_count}
use Rattle.rows.specs.declared.PackError.TheVariants.{BadRow}
use Rattle.rows.specs.Row.{row_length}
use Rattle.rows.specs.Rows.{named, rows_whole, rows_strip, strip_rows, rows_bytes, row_count, records_of_rows, first_bad}
use Rattle.rows.specs.Answers.{Rows, Packed, rows_told, packed_told, rows_refusal, rows_of, rows_out, pack_refusal, packed_of, packed_out}
use Rattle.rows.proofs.RowsLaws.{rows_length, rows_count}
use Rattle.rows.proofs.Theorems.{bad_row_exactly}
use Rattle.rows.proofs.AnswerLaws.{good_rows, whole_strip, rows_whole_lem, rows_cut}
use Rattle.text.specs.Text.{bad_tail}
use Rattle.text.proofs.HeaderLaws.{length-bad_tail}
use Rattle.jobs.specs.Jobs.{most_taken, too_long_said, bad_row_said, rows_answer, pack_rows_answer}
use Rattle.jobs.specs.Answers.{answer_refusal, answered_of}
use Rattle.jobs.proofs.AnswerLaws.{answered, Done, done_alike}
use Rattle.jobs.proofs.PackLaws.{refusal_few}
use Rattle.jobs.proofs.MessageLaws.{bad_row_bytes, bad_row_is, numbered_few}

-- where a call is done with a good tail, it tells no bad one
done_good : {A : Type 0} (refusal : A → ℕ) (tail : A → Bool) (e : ℕ) (a b : A) {r : A} → r ≡ if_done e a b → refusal r ≡ done → tail r ≡ false
    → refusal b ≡ e → tail a ≡ true → ⊥
done_good refusal tail e a b is d f k g =
    by (eqb e done) refl (sym (ap refusal is) ∙ d) (sym (ap tail is) ∙ f)
  where
    by : (t : Bool) → eqb e done ≡ t → refusal (cond t a b) ≡ done → tail (cond t a b) ≡ false → ⊥
    by true z p q = true≢false (sym g ∙ q)
    by false z p q = eqb-false e done z (sym k ∙ p)

-- ---- a strip's rows

module _ (s : List ℕ) where
  pub rows_long : most_taken < length s → rows_answer s ≡ too_long_said
  unfolding rows_answer
  rows_long h = rw (lt-ltb most_taken (length s) h)

  -- the rows of a strip's records
  pub rows_size : length (rows_bytes (records_of s)) ≡ row_length * count_of s
  rows_size = rows_length (records_of s) ∙ ap (λ (k : ℕ). row_length * k) (records_count s 0 (count_of s))

  module _ (h : length s ≤ most_taken) where
    pub rows_good : tail_good s ≡ true → rows_answer s ≡ rows_bytes (records_of s)
    unfolding rows_answer
    rows_good e = rw (le-ltb most_taken (length s) h, e)

    pub rows_bad : tail_good s ≡ false → rows_answer s ≡ bad_tail
    unfolding rows_answer
    rows_bad e = rw (le-ltb most_taken (length s) h, e)

    same_refusal : (len : ℕ) → rows_refusal s len ≡ answer_refusal (rows_bytes (records_of s)) len
    unfolding rows_refusal answer_refusal first_refusal or_else
    same_refusal len =
        let short : ltb longest (length s) ≡ false = le-ltb longest (length s) (omega arith) in
        rw (short, rows_size)

    -- the rows' own answer is the job's
    pub rows_done : tail_good s ≡ true → (out : List ℕ) {r : Rows} {last : List ℕ} → r ≡ rows_of s (length out) → last ≡ rows_out s out
        → Done (rows_answer s) out (answered r.refusal r.length) last
    unfolding rows_of rows_out
    rows_done good out e f =
        rw (rows_good good)
        (done_alike (λ (x : Rows). answered x.refusal x.length) out (same_refusal (length out)) (good_rows s good) refl refl e f)

    -- and it tells a length where it is not refused
    pub rows_there : tail_good s ≡ true → (len : ℕ) (o : Option ℕ) → rows_told (Ok o) ≡ rows_of s len → IsSome o
    unfolding rows_of
    rows_there good len (Some n) e = refl
    rows_there good len None e =
        let there : Rows = record { refusal = done; length = length (strip_rows s); tail_good = tail_good s } in
        let none : Rows = record { refusal = rows_refusal s len; length = 0; tail_good = false } in
        absurd (done_good (λ (x : Rows). x.refusal) (λ (x : Rows). x.tail_good) (rows_refusal s len) there none e refl refl refl good)

    -- how long an answer can be
    pub rows_few : length (rows_answer s) ≤ 106020
    rows_few =
        by_test (tail_good s)
        (λ g. let a = ap length (rows_good g) in let b = rows_size in omega arith)
        (λ g. let a = ap length (rows_bad g) in let b = length-bad_tail in omega arith)

-- ---- rows packed

-- the row that is named first, and where none is
pub row_named : (n : ℕ) {k : ℕ} → Some k ≡ named n → (n ≡ 0 → ⊥) × (k ≡ n)
row_named n {k} = by (eqb n 0) refl
  where
    by : (t : Bool) → eqb n 0 ≡ t → ◌≡◌ {A = Option ℕ} (Some k) (cond t None (Some n)) → (n ≡ 0 → ⊥) × (k ≡ n)
    by true p e = absurd cc
    by false p e = (eqb-false n 0 p, cc)

pub row_none : (n : ℕ) → None ≡ named n → n ≡ 0
row_none n = by (eqb n 0) refl
  where
    by : (t : Bool) → eqb n 0 ≡ t → ◌≡◌ {A = Option ℕ} None (cond t None (Some n)) → n ≡ 0
    by true p e = eqb-true n 0 p
    by false p e = absurd cc

-- the number of a bad row is that of a row
pub bad_row_small : (t : List ℕ) → first_bad t ≤ row_count t
bad_row_small t = by (first_bad t) refl
  where
    by : (n : ℕ) → first_bad t ≡ n → n ≤ row_count t
    by zero e = omega arith
    by (suc i) e = ((bad_row_exactly t i).0 e).0

module _ (t : List ℕ) where
  -- the strip of the records of rows
  pub strip_size : length (strip_bytes (records_of_rows t)) ≡ strip_length (row_count t)
  strip_size = length_strip (records_of_rows t) ∙ ap strip_length (rows_count (row_count t) t 0)

  pub pack_rows_long : most_taken < length t → pack_rows_answer t ≡ too_long_said
  unfolding pack_rows_answer
  pack_rows_long h = rw (lt-ltb most_taken (length t) h)

  module _ (h : length t ≤ most_taken) where
    pub pack_rows_bad : (first_bad t ≡ 0 → ⊥) → pack_rows_answer t ≡ bad_row_said (first_bad t)
    unfolding pack_rows_answer
    pack_rows_bad b = rw (le-ltb most_taken (length t) h, ne_eqb (first_bad t) 0 b)

    module _ (none : first_bad t ≡ 0) where
      pub pack_rows_good : length t % row_length ≡ 0 → pack_rows_answer t ≡ strip_bytes (records_of_rows t)
      unfolding pack_rows_answer
      pack_rows_good w = rw (le-ltb most_taken (length t) h, eq-eqb (first_bad t) 0 none, rows_whole_lem t w)

      pub pack_rows_cut : (length t % row_length ≡ 0 → ⊥) → pack_rows_answer t ≡ bad_tail
      unfolding pack_rows_answer
      pack_rows_cut w = rw (le-ltb most_taken (length t) h, eq-eqb (first_bad t) 0 none, rows_cut t w)

      same_pack_refusal : (len : ℕ) → pack_refusal t len ≡ answer_refusal (strip_bytes (records_of_rows t)) len
      unfolding pack_refusal answer_refusal first_refusal or_else
      same_pack_refusal len =
          let short : ltb longest (length t) ≡ false = le-ltb longest (length t) (omega arith) in
          rw (short, eq-eqb (first_bad t) 0 none, strip_size)
          (ap (or_else (ltb longest len ⟶ too_long)) (last_row (ltb len (strip_length (row_count t)))))
        where
          last_row : (b : Bool) → or_else (b ⟶ no_room) done ≡ (b ⟶ no_room)
          last_row true = refl
          last_row false = refl

      -- the rows' own answer is the job's
      pub pack_rows_done : length t % row_length ≡ 0 → (out : List ℕ) {r : Packed} {last : List ℕ}
          → r ≡ packed_of t (length out) → last ≡ packed_out t out → Done (pack_rows_answer t) out (answered r.refusal r.length) last
      unfolding packed_of packed_out
      pack_rows_done w out e f =
          let same = whole_strip t (rows_whole_lem t w) in
          rw (pack_rows_good w)
          (done_alike (λ (x : Packed). answered x.refusal x.length) out (same_pack_refusal (length out)) same refl refl e f)

      -- and it tells a length where it is not refused, and no bad row
      module _ (w : length t % row_length ≡ 0) where
        pub pack_rows_there : (len : ℕ) (o : Option ℕ) → packed_told (Ok o) ≡ packed_of t len → IsSome o
        unfolding packed_of
        pack_rows_there len (Some n) e = refl
        pack_rows_there len None e =
            let there : Packed = record { refusal = done; row = 0; length = length (rows_strip t); tail_good = rows_whole t } in
            let row = cond (eqb (pack_refusal t len) bad_row) (first_bad t) 0 in
            let none : Packed = record { refusal = pack_refusal t len; row = row; length = 0; tail_good = false } in
            absurd (done_good (λ (x : Packed). x.refusal) (λ (x : Packed). x.tail_good) (pack_refusal t len) there none e refl refl refl (rows_whole_lem t w))

        pub no_row : (out : List ℕ) {last : List ℕ} {n : ℕ} → packed_told (Err (BadRow n)) ≡ packed_of t (length out) → last ≡ packed_out t out → ⊥
        unfolding answered_of
        no_row out e f =
            let (told, _) = pack_rows_done w out e f in
            let refusal = ap (λ (x : LengthTold). x.refusal) told in
            let few = refusal_few (pack_rows_answer t) (length out) in
            omega arith

    -- how long an answer can be
    pub pack_rows_few : length (pack_rows_answer t) ≤ 40495
    pack_rows_few =
        by_test (eqb (first_bad t) 0)
        (λ g.
        let none = eqb-true (first_bad t) 0 g in
        by_test (eqb (length t % row_length) 0)
        (λ w. let a = ap length (pack_rows_good none (eqb-true _ _ w)) in let b = strip_size in omega arith)
        (λ w. let a = ap length (pack_rows_cut none (eqb-false _ _ w)) in let b = length-bad_tail in omega arith))
        (λ b.
        let a = ap length (pack_rows_bad (eqb-false _ _ b) ∙ bad_row_is (first_bad t)) in
        let k = bad_row_small t in
        let message = numbered_few bad_row_bytes (first_bad t) (omega arith) in
        omega arith)
