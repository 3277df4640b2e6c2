-- Laws of rows one behind the other, as the loops meet them.
use mathlib.Core.Path.{◌≡◌, refl, sym, ap, ap₂, ◌∙◌}
use mathlib.Core.Bool.{Bool, true, false, cond}
use mathlib.Core.List.{List, [], ◌∷◌}
use Prim.Native.Nat.{ℕ, zero, suc, ◌+◌, ◌-◌, ◌*◌, ◌<◌, ◌≤◌}
use native.Mathlib.Omega.{arith}
use lib.ListN.{length, length-append}
use Rattle.record.specs.declared.Record.{Record}
use Rattle.record.specs.Record.{Fits}
use Rattle.strip.specs.Strip.{all_fit}
use Rattle.record.proofs.FitLaws.{true-fits}
use Rattle.bits.proofs.TestLaws.{by_test, both_true}
use Rattle.rows.specs.Row.{columns_at, in_range, record_said, row_bytes, row_bits, row_length}
use Rattle.rows.specs.Rows.{rows_bytes, records_in_rows, bad_from}
use Rattle.rows.proofs.ColumnLaws.{record_fits, columns_typed}
use Rattle.rows.proofs.RowLaws.{row_length_lem}

-- ---- the rows of records

pub rows_length : (rs : List Record) → length (rows_bytes rs) ≡ row_length * length rs
unfolding rows_bytes
rows_length [] = refl
rows_length (r ∷ rs) = omega (arith, length-append (row_bytes r) (rows_bytes rs), row_length_lem r, rows_length rs)

-- ---- the first bad row

module _ (s : List ℕ) (n i at : ℕ) (more : i < n) where
  pub next_bad : bad_from s (8 * at) (i + 1) (n - i) ≡ cond (in_range (columns_at s (8 * at))) (bad_from s (8 * (at + 18)) (i + 1 + 1) (n - (i + 1))) (i + 1)
  unfolding bad_from
  next_bad =
      let e : n - i ≡ suc (n - (i + 1)) = omega arith in
      let f : 8 * at + 144 ≡ 8 * (at + 18) = omega arith in
      let g : suc (i + 1) ≡ i + 1 + 1 = omega arith in
      ap (bad_from s (8 * at) (i + 1)) e ∙ ap₂ (λ (q k : ℕ). cond (in_range (columns_at s (8 * at))) (bad_from s q k (n - (i + 1))) (i + 1)) f g

  -- where none is bad, the next says a record, and none behind it is bad
  pub next_good : bad_from s (8 * at) (i + 1) (n - i) ≡ 0 → (in_range (columns_at s (8 * at)) ≡ true) × (bad_from s (8 * (at + 18)) (i + 1 + 1) (n - (i + 1)) ≡ 0)
  next_good z = by (in_range (columns_at s (8 * at))) refl (sym next_bad ∙ z)
    where
      by : (t : Bool) → in_range (columns_at s (8 * at)) ≡ t → cond t (bad_from s (8 * (at + 18)) (i + 1 + 1) (n - (i + 1))) (i + 1) ≡ 0
          → (in_range (columns_at s (8 * at)) ≡ true) × (bad_from s (8 * (at + 18)) (i + 1 + 1) (n - (i + 1)) ≡ 0)
      by true p z = (p, z)
      by false p z = absurd (omega arith)

  pub next_record : records_in_rows s (8 * at) (n - i) ≡ record_said (columns_at s (8 * at)) ∷ records_in_rows s (8 * (at + 18)) (n - (i + 1))
  unfolding records_in_rows
  next_record =
      let e : n - i ≡ suc (n - (i + 1)) = omega arith in
      let f : 8 * at + 144 ≡ 8 * (at + 18) = omega arith in
      ap (records_in_rows s (8 * at)) e ∙ ap (λ (q : ℕ). record_said (columns_at s (8 * at)) ∷ records_in_rows s q (n - (i + 1))) f

pub none_bad : (s : List ℕ) (n i p k : ℕ) → n ≤ i → bad_from s p k (n - i) ≡ 0
unfolding bad_from
none_bad s n i p k h = let e : n - i ≡ 0 = omega arith in ap (bad_from s p k) e

pub none_left : (s : List ℕ) (n i p : ℕ) → n ≤ i → records_in_rows s p (n - i) ≡ []
unfolding records_in_rows
none_left s n i p h = let e : n - i ≡ 0 = omega arith in ap (records_in_rows s p) e

-- the record of a row that says one fits
module _ (s : List ℕ) (p : ℕ) (good : in_range (columns_at s p) ≡ true) where
  pub row_fits : Fits (record_said (columns_at s p))
  row_fits = record_fits (columns_at s p) good (columns_typed s p).magnitude

-- rows of which none is bad say records that fit, one each
pub rows_fit : (n : ℕ) (s : List ℕ) (p k : ℕ) → bad_from s p (suc k) n ≡ 0 → all_fit (records_in_rows s p n) ≡ true
unfolding bad_from records_in_rows all_fit
rows_fit zero s p k z = refl
rows_fit (suc n) s p k z =
    by_test (in_range (columns_at s p))
    (λ t.
    let more : bad_from s (p + row_bits) (suc (suc k)) n ≡ 0 = ap (λ (b : Bool). cond b (bad_from s (p + row_bits) (suc (suc k)) n) (suc k)) (sym t) ∙ z in
    both_true (true-fits (record_said (columns_at s p)) (row_fits s p t)) (rows_fit n s (p + row_bits) (suc k) more))
    (λ f. let e : suc k ≡ 0 = ap (λ (b : Bool). cond b (bad_from s (p + row_bits) (suc (suc k)) n) (suc k)) (sym f) ∙ z in absurd (omega arith))

pub rows_count : (n : ℕ) (s : List ℕ) (p : ℕ) → length (records_in_rows s p n) ≡ n
unfolding records_in_rows
rows_count zero s p = refl
rows_count (suc n) s p = ap suc (rows_count n s (p + row_bits))

-- ---- the first bad row is the first

-- the number of a bad row is none, or not below that of the row where the search starts
bad_from_lem : (n : ℕ) (s : List ℕ) (p k : ℕ) → (bad_from s p k n ≡ 0 → ⊥) → k ≤ bad_from s p k n
unfolding bad_from
bad_from_lem zero s p k h = absurd (h refl)
bad_from_lem (suc n) s p k h = by (in_range (columns_at s p)) h (λ g. bad_from_lem n s (p + row_bits) (suc k) g)
  where
    by : (t : Bool) → (cond t (bad_from s (p + row_bits) (suc k) n) k ≡ 0 → ⊥) → ((bad_from s (p + row_bits) (suc k) n ≡ 0 → ⊥) → suc k ≤ bad_from s (p + row_bits) (suc k) n)
        → k ≤ cond t (bad_from s (p + row_bits) (suc k) n) k
    by true h next = let l : suc k ≤ bad_from s (p + row_bits) (suc k) n = next h in omega arith
    by false h next = omega arith

-- the row of that number says no record, and each before it says one
pub bad_is_first : (n : ℕ) (s : List ℕ) (p k i : ℕ) → bad_from s p (suc k) n ≡ suc (k + i)
    → (i < n) × (in_range (columns_at s (p + row_bits * i)) ≡ false) × ((j : ℕ) → j < i → in_range (columns_at s (p + row_bits * j)) ≡ true)
unfolding bad_from
bad_is_first zero s p k i e = absurd (omega arith)
bad_is_first (suc n) s p k i e = by (in_range (columns_at s p)) refl i e (λ j f. bad_is_first n s (p + row_bits) (suc k) j f)
  where
    Says : ℕ → Type 0
    Says i = (i < suc n) × (in_range (columns_at s (p + row_bits * i)) ≡ false) × ((j : ℕ) → j < i → in_range (columns_at s (p + row_bits * j)) ≡ true)

    by : (t : Bool) → in_range (columns_at s p) ≡ t → (i : ℕ) → cond t (bad_from s (p + row_bits) (suc (suc k)) n) (suc k) ≡ suc (k + i)
        → ((j : ℕ) → bad_from s (p + row_bits) (suc (suc k)) n ≡ suc (suc k + j)
        → (j < n) × (in_range (columns_at s (p + row_bits + row_bits * j)) ≡ false) × ((m : ℕ) → m < j → in_range (columns_at s (p + row_bits + row_bits * m)) ≡ true)) → Says i
    by false q zero e next = let z : p ≡ p + row_bits * 0 = omega arith in (omega arith, ap (λ (x : ℕ). in_range (columns_at s x)) (sym z) ∙ q, λ j h. absurd (omega arith))
    by false q (suc i) e next = absurd (omega arith)
    by true q zero e next = let l = bad_from_lem n s (p + row_bits) (suc (suc k)) (λ z. omega arith) in absurd (omega arith)
    by true q (suc i) e next =
        let f : bad_from s (p + row_bits) (suc (suc k)) n ≡ suc (suc k + i) = omega arith in
        let (a, b, c) = next i f in
        let z : (j : ℕ) → p + row_bits + row_bits * j ≡ p + row_bits * suc j = λ j. omega arith in
        (omega arith, ap (λ (x : ℕ). in_range (columns_at s x)) (sym (z i)) ∙ b, before c z)
      where
        before : ((m : ℕ) → m < i → in_range (columns_at s (p + row_bits + row_bits * m)) ≡ true) → ((j : ℕ) → p + row_bits + row_bits * j ≡ p + row_bits * suc j)
            → (j : ℕ) → j < suc i → in_range (columns_at s (p + row_bits * j)) ≡ true
        before c z zero h = let w : p + row_bits * 0 ≡ p = omega arith in ap (λ (x : ℕ). in_range (columns_at s x)) w ∙ q
        before c z (suc j) h = ap (λ (x : ℕ). in_range (columns_at s x)) (sym (z j)) ∙ c j (omega arith)

-- and the other way
pub first_is_bad : (n : ℕ) (s : List ℕ) (p k i : ℕ) → i < n → in_range (columns_at s (p + row_bits * i)) ≡ false
    → ((j : ℕ) → j < i → in_range (columns_at s (p + row_bits * j)) ≡ true) → bad_from s p k n ≡ k + i
unfolding bad_from
first_is_bad zero s p k i h bad before = absurd (omega arith)
first_is_bad (suc n) s p k zero h bad before =
    let e : p + row_bits * 0 ≡ p = omega arith in
    let f : in_range (columns_at s p) ≡ false = ap (λ (q : ℕ). in_range (columns_at s q)) (sym e) ∙ bad in
    rw f (omega arith)
first_is_bad (suc n) s p k (suc i) h bad before =
    let e : p + row_bits * 0 ≡ p = omega arith in
    let t : in_range (columns_at s p) ≡ true = ap (λ (q : ℕ). in_range (columns_at s q)) (sym e) ∙ before 0 (omega arith) in
    let next : (j : ℕ) → p + row_bits + row_bits * j ≡ p + row_bits * suc j = λ j. omega arith in
    let more : bad_from s (p + row_bits) (suc k) n ≡ suc k + i =
    first_is_bad n s (p + row_bits) (suc k) i (omega arith) (ap (λ (q : ℕ). in_range (columns_at s q)) (next i) ∙ bad)
    (λ j l. ap (λ (q : ℕ). in_range (columns_at s q)) (next j) ∙ before (suc j) (omega arith)) in
    rw t (omega (arith, more))

-- none is bad exactly if each says a record
pub all_are_good : (n : ℕ) (s : List ℕ) (p k : ℕ) → ((j : ℕ) → j < n → in_range (columns_at s (p + row_bits * j)) ≡ true) → bad_from s p k n ≡ 0
unfolding bad_from
all_are_good zero s p k all = refl
all_are_good (suc n) s p k all =
    let e : p + row_bits * 0 ≡ p = omega arith in
    let t : in_range (columns_at s p) ≡ true = ap (λ (q : ℕ). in_range (columns_at s q)) (sym e) ∙ all 0 (omega arith) in
    let next : (j : ℕ) → p + row_bits + row_bits * j ≡ p + row_bits * suc j = λ j. omega arith in
    rw t (all_are_good n s (p + row_bits) (suc k) (λ j l. ap (λ (q : ℕ). in_range (columns_at s q)) (next j) ∙ all (suc j) (omega arith)))

pub good_is_all : (n : ℕ) (s : List ℕ) (p k : ℕ) → bad_from s p (suc k) n ≡ 0 → (j : ℕ) → j < n → in_range (columns_at s (p + row_bits * j)) ≡ true
unfolding bad_from
good_is_all zero s p k z j h = absurd (omega arith)
good_is_all (suc n) s p k z j h = by (in_range (columns_at s p)) refl z j h (good_is_all n s (p + row_bits) (suc k))
  where
    by : (t : Bool) → in_range (columns_at s p) ≡ t → cond t (bad_from s (p + row_bits) (suc (suc k)) n) (suc k) ≡ 0 → (j : ℕ) → j < suc n
        → (bad_from s (p + row_bits) (suc (suc k)) n ≡ 0 → (i : ℕ) → i < n → in_range (columns_at s (p + row_bits + row_bits * i)) ≡ true) → in_range (columns_at s (p + row_bits * j)) ≡ true
    by false q z j h more = absurd (omega arith)
    by true q z zero h more = let e : p + row_bits * 0 ≡ p = omega arith in ap (λ (x : ℕ). in_range (columns_at s x)) e ∙ q
    by true q z (suc j) h more = let e : p + row_bits * suc j ≡ p + row_bits + row_bits * j = omega arith in ap (λ (x : ℕ). in_range (columns_at s x)) e ∙ more z j (omega arith)
