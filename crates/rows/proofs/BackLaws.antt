-- The way back: rows of records say those records, and rows that say records are the rows of those.
use mathlib.Core.Path.{◌≡◌, refl, sym, ap, ap₂, ◌∙◌}
use mathlib.Core.Bool.{Bool, true, false, cond}
use mathlib.Core.List.{List, [], ◌∷◌, ◌++◌, append_assoc}
use Prim.Native.Nat.{ℕ, zero, suc, ◌+◌, ◌*◌, ◌^◌, ◌<◌, ◌≤◌}
use native.Mathlib.Nat.{add-zero}
use native.Mathlib.Omega.{arith}
use lib.ListN.{length, get_or, take, drop, length-append, length-drop, take-append-drop}
use lib.Seq.{take-add, drop-drop, get_or-drop, length-take-le}
use Rattle.bits.specs.declared.Order.TheVariants.{Big}
use Rattle.bits.specs.Field.{field}
use Rattle.bits.specs.Signed.{signed}
use Rattle.bits.proofs.FieldLaws.{field_before, field-behind}
use Rattle.record.specs.declared.Record.{Record}
use Rattle.record.specs.Record.{Fits}
use Rattle.strip.specs.Strip.{all_fit}
use Rattle.strip.proofs.FitLaws.{all_fit_parts}
use Rattle.rows.specs.Row.{Columns, columns_at, columns_of, in_range, record_said, row_bytes, row_bits, row_length}
use Rattle.rows.specs.Rows.{rows_bytes, records_in_rows, bad_from}
use Rattle.rows.proofs.ColumnLaws.{columns_found, record_typed, columns_good, columns_record}
use Rattle.rows.proofs.RowLaws.{row_length_lem, row_bits_lem, same_row}

-- ---- rows of records

-- the columns of a row that stands behind other bytes
pub columns_behind : (pre more : List ℕ) (r : Record) → Fits r → columns_at (pre ++ (row_bytes r ++ more)) (8 * length pre) ≡ columns_of r
columns_behind pre more r fit =
    let l = row_length_lem r in
    columns_found (columns_of r) (record_typed r fit) (pre ++ (row_bytes r ++ more)) (8 * length pre)
    (ap (λ (p : ℕ). field Big (pre ++ (row_bytes r ++ more)) p row_bits) (sym (add-zero (8 * length pre)))
    ∙ field-behind Big pre (row_bytes r ++ more) 0 row_bits ∙ field_before Big (row_bytes r) more 0 row_bits (omega arith) ∙ row_bits_lem r fit)

-- rows of records that fit, behind other bytes, say these records, and none is bad
pub rows_say : (rs : List Record) (pre : List ℕ) (k : ℕ) → all_fit rs ≡ true
    → (records_in_rows (pre ++ rows_bytes rs) (8 * length pre) (length rs) ≡ rs) × (bad_from (pre ++ rows_bytes rs) (8 * length pre) k (length rs) ≡ 0)
unfolding rows_bytes records_in_rows bad_from
rows_say [] pre k h = (refl, refl)
rows_say (r ∷ rs) pre k h =
    let (one, others) = all_fit_parts r rs h in
    let s : List ℕ = pre ++ (row_bytes r ++ rows_bytes rs) in
    let c : columns_at s (8 * length pre) ≡ columns_of r = columns_behind pre (rows_bytes rs) r one in
    let good : in_range (columns_at s (8 * length pre)) ≡ true = ap in_range c ∙ columns_good r one in
    let is : record_said (columns_at s (8 * length pre)) ≡ r = ap record_said c ∙ columns_record r one in
    let e : (pre ++ row_bytes r) ++ rows_bytes rs ≡ s = append_assoc pre (row_bytes r) (rows_bytes rs) in
    let f : 8 * length (pre ++ row_bytes r) ≡ 8 * length pre + row_bits = omega (arith, length-append pre (row_bytes r), row_length_lem r) in
    let (next, none) = rows_say rs (pre ++ row_bytes r) (suc k) others in (
      ap₂ (λ (x : Record) (xs : List Record). x ∷ xs) is (ap₂ (λ (t : List ℕ) (p : ℕ). records_in_rows t p (length rs)) (sym e) (sym f) ∙ next),
      ap (λ (t : Bool). cond t (bad_from s (8 * length pre + row_bits) (suc k) (length rs)) k) good
          ∙ ap₂ (λ (t : List ℕ) (p : ℕ). bad_from t p (suc k) (length rs)) (sym e) (sym f) ∙ none,
    )

-- ---- rows that say records

-- the columns of a row are those of the bytes from it on
module _ (s : List ℕ) (at : ℕ) (there : at ≤ length s) where
  from_there : (p w : ℕ) → field Big s (8 * at + p) w ≡ field Big (drop at s) p w
  from_there p w =
      let l : length (take at s) ≡ at = length-take-le at s there in
      ap₂ (λ (t : List ℕ) (k : ℕ). field Big t (8 * k + p) w) (sym (take-append-drop at s)) (sym l) ∙ field-behind Big (take at s) (drop at s) p w

  columns_there : columns_at s (8 * at) ≡ columns_at (drop at s) 0
  unfolding columns_at
  columns_there =
      let star = ap (λ (p : ℕ). field Big s p 32) (sym (add-zero (8 * at))) ∙ from_there 0 32 in
      λ i. record {
        star = signed 32 (star i);
        date = signed 64 (from_there 32 64 i);
        limit = from_there 96 8 i;
        magnitude = signed 16 (from_there 104 16 i);
        error = signed 16 (from_there 120 16 i);
        filter = from_there 136 8 i;
      }

pub same_rows : (n : ℕ) (s : List ℕ) (at k : ℕ) → ((i : ℕ) → get_or s i 0 < 2 ^ 8) → at + row_length * n ≤ length s → bad_from s (8 * at) (suc k) n ≡ 0
    → rows_bytes (records_in_rows s (8 * at) n) ≡ take (row_length * n) (drop at s)
unfolding rows_bytes records_in_rows bad_from
same_rows zero s at k bytes there z = refl
same_rows (suc n) s at k bytes there z = by (in_range (columns_at s (8 * at))) refl z (λ f. same_rows n s (at + 18) (suc k) bytes (omega arith) f)
  where
    here : at ≤ length s
    here = omega arith

    e : 8 * at + row_bits ≡ 8 * (at + 18)
    e = omega arith

    by : (t : Bool) → in_range (columns_at s (8 * at)) ≡ t → cond t (bad_from s (8 * at + row_bits) (suc (suc k)) n) (suc k) ≡ 0
        → (bad_from s (8 * (at + 18)) (suc (suc k)) n ≡ 0 → rows_bytes (records_in_rows s (8 * (at + 18)) n) ≡ take (row_length * n) (drop (at + 18) s))
        → row_bytes (record_said (columns_at s (8 * at))) ++ rows_bytes (records_in_rows s (8 * at + row_bits) n) ≡ take (row_length * suc n) (drop at s)
    by false p z next = absurd (omega arith)
    by true p z next =
        let d : List ℕ = drop at s in
        let c : columns_at s (8 * at) ≡ columns_at d 0 = columns_there s at here in
        let l : row_length ≤ length d = omega (arith, length-drop at s) in
        let one : row_bytes (record_said (columns_at s (8 * at))) ≡ take row_length d =
        ap (λ (x : Columns). row_bytes (record_said x)) c ∙ same_row d (λ i. rw get_or-drop (bytes (at + i))) l (ap in_range (sym c) ∙ p) in
        let more : rows_bytes (records_in_rows s (8 * at + row_bits) n) ≡ take (row_length * n) (drop (at + 18) s) =
        ap (λ (q : ℕ). rows_bytes (records_in_rows s q n)) e ∙ next (ap (λ (q : ℕ). bad_from s q (suc (suc k)) n) (sym e) ∙ z) in
        let m : row_length * suc n ≡ row_length + row_length * n = omega arith in
        ap₂ (λ (a b : List ℕ). a ++ b) one more
        ∙ sym (ap (λ (j : ℕ). take j d) m ∙ take-add row_length (row_length * n) d ∙ ap (λ (t : List ℕ). take row_length d ++ take (row_length * n) t) (drop-drop 18 at s))
