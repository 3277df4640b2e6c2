-- Laws of a strip's rows: a record's parts out of two words, and the rows that are left to be stored.
use mathlib.Core.Path.{◌≡◌, refl, sym, ap, ap₂, ◌∙◌}
use mathlib.Core.List.{List, append-nil}
use Prim.Native.Nat.{ℕ, zero, suc, ◌+◌, ◌-◌, ◌*◌, ◌/◌, ◌%◌, ◌^◌, ◌≤◌}
use native.Mathlib.Omega.{arith}
use lib.ListN.{length}
use lib.Seq.{sets, length-sets}
use Rattle.bits.specs.declared.Order.TheVariants.{Big}
use Rattle.bits.specs.Field.{field, join}
use Rattle.bits.specs.Word.{first, rest, skipped}
use Rattle.bits.proofs.FieldLaws.{field_split, field-rest}
use Rattle.bits.proofs.WordLaws.{first-skipped}
use Rattle.bits.proofs.StoreLaws.{sets-append}
use Rattle.record.specs.Record.{record_bits}
use Rattle.strip.specs.Bits.{record_at}
use Rattle.strip.specs.Strip.{records_from}
use Rattle.rows.specs.Row.{row_bytes, row_length}
use Rattle.rows.specs.Rows.{rows_bytes}
use Rattle.rows.proofs.RowLaws.{row_length_lem}

-- ---- one record

-- the three parts of the record that starts u bits into byte b, out of two words, seven bytes apart, that are moved by u bits
module _ (s : List ℕ) (b u : ℕ) (few : u ≤ 7) {front back : ℕ}
    (f : front ≡ skipped Big u (field Big s (8 * b) 64)) (g : back ≡ skipped Big u (field Big s (8 * (b + 7)) 64)) where
  abbrev place : ℕ
  place = 8 * b + u

  -- the first w bits of either
  of_front : (w : ℕ) → w ≤ 57 → first Big w (64 - w) front ≡ field Big s place w
  of_front w h = ap (first Big w (64 - w)) f ∙ first-skipped Big s (8 * b) u w (omega arith)

  of_back : (w : ℕ) → w ≤ 57 → first Big w (64 - w) back ≡ field Big s (place + 56) w
  of_back w h =
      let e : 8 * (b + 7) + u ≡ place + 56 = omega arith in
      ap (first Big w (64 - w)) g ∙ first-skipped Big s (8 * (b + 7)) u w (omega arith) ∙ ap (λ (q : ℕ). field Big s q w) e

  pub star_part : front / 2 ^ 44 ≡ field Big s place 20
  unfolding first
  star_part = of_front 20 (omega arith)

  pub date_part : front / 2 ^ 8 % 2 ^ 36 * 4 + back / 2 ^ 62 ≡ field Big s (place + 20) 38
  unfolding first rest join
  date_part =
      let e : place + 20 + 36 ≡ place + 56 = omega arith in
      let x : front / 2 ^ 8 % 2 ^ 36 ≡ field Big s (place + 20) 36 =
      ap (λ (n : ℕ). n % 2 ^ 36) (of_front 56 (omega arith)) ∙ field-rest Big s place 20 36 in
      ap₂ (λ (n m : ℕ). n * 4 + m) x (of_back 2 (omega arith))
      ∙ sym (field_split Big s (place + 20) 36 2 ∙ ap (λ (q : ℕ). field Big s (place + 20) 36 * 4 + field Big s q 2) e)

  pub rest_part : back / 2 ^ 31 % 2 ^ 31 ≡ field Big s (place + 58) 31
  unfolding first rest
  rest_part =
      let e : place + 56 + 2 ≡ place + 58 = omega arith in
      ap (λ (n : ℕ). n % 2 ^ 31) (of_back 33 (omega arith)) ∙ field-rest Big s (place + 56) 2 31 ∙ ap (λ (q : ℕ). field Big s q 31) e

-- ---- records one behind the other

-- the rows of the n records from place p on
abbrev pub rows_from : List ℕ → ℕ → ℕ → List ℕ
rows_from s p n = rows_bytes (records_from s p n)

-- the rows of k records, and those of the n behind them
pub next_stored : (k n : ℕ) (s l : List ℕ) (p at : ℕ)
    → sets (sets l at (rows_from s p k)) (at + row_length * k) (rows_from s (p + record_bits * k) n) ≡ sets l at (rows_from s p (k + n))
unfolding records_from rows_bytes
next_stored zero n s l p at =
    let e : p + record_bits * 0 ≡ p = omega arith in
    let f : at + row_length * 0 ≡ at = omega arith in
    let g : n ≡ 0 + n = omega arith in
    λ i. sets l (f i) (rows_from s (e i) (g i))
next_stored (suc k) n s l p at =
    let r : List ℕ = row_bytes (record_at s p) in
    let q : ℕ = p + record_bits in
    let e : p + record_bits * suc k ≡ q + record_bits * k = omega arith in
    let f : at + row_length * suc k ≡ at + length r + row_length * k = omega (arith, row_length_lem (record_at s p)) in
    let g : suc (k + n) ≡ suc k + n = omega arith in
    (λ i. sets (sets-append r (rows_from s q k) l at i) (f i) (rows_from s (e i) n))
    ∙ next_stored k n s (sets l at r) q (at + length r)
    ∙ sym (sets-append r (rows_from s q (k + n)) l at)
    ∙ ap (λ (j : ℕ). sets l at (rows_from s p j)) g

-- the rows of none, and of one
pub no_row : (s l : List ℕ) (p at : ℕ) → l ≡ sets l at (rows_from s p 0)
unfolding records_from rows_bytes
no_row s l p at = refl

pub one_row : (s : List ℕ) (p : ℕ) → row_bytes (record_at s p) ≡ rows_from s p 1
unfolding records_from rows_bytes
one_row s p = sym (append-nil (row_bytes (record_at s p)))

-- behind the rows of k records that of the next
pub one_more : (s l : List ℕ) (p at k : ℕ) (t u : List ℕ) → t ≡ sets l at (rows_from s p k)
    → u ≡ sets t (at + row_length * k) (row_bytes (record_at s (p + record_bits * k))) → u ≡ sets l at (rows_from s p (k + 1))
one_more s l p at k t u e f =
    f ∙ ap₂ (λ (x y : List ℕ). sets x (at + row_length * k) y) e (one_row s (p + record_bits * k)) ∙ next_stored k 1 s l p at

-- the rows that are left from record i on, stored behind what stands, give what those from record i₀ on were to give
pub record Left (s : List ℕ) (n : ℕ) (l₀ : List ℕ) (i₀ p₀ at₀ : ℕ) (l : List ℕ) (i p at : ℕ) : Type 0 where
  pub within : i ≤ n
  pub there : p + record_bits * (n - i) ≤ 8 * length s
  pub room : at + row_length * (n - i) ≤ length l
  pub size : length l ≡ length l₀
  pub rows : sets l at (rows_from s p (n - i)) ≡ sets l₀ at₀ (rows_from s p₀ (n - i₀))

pub left_start : (s : List ℕ) (n : ℕ) (l : List ℕ) (i p at : ℕ) → i ≤ n → p + record_bits * (n - i) ≤ 8 * length s
    → at + row_length * (n - i) ≤ length l → Left s n l i p at l i p at
left_start s n l i p at within there room = record { within = within; there = there; room = room; size = refl; rows = refl }

module _ (s : List ℕ) (n : ℕ) (l₀ : List ℕ) (i₀ p₀ at₀ : ℕ) (l : List ℕ) (i p at : ℕ) (g : Left s n l₀ i₀ p₀ at₀ l i p at) where
  -- k rows more
  pub left_step : (k : ℕ) {t : List ℕ} {q : ℕ} → i + k ≤ n → p + record_bits * k ≡ q → t ≡ sets l at (rows_from s p k)
      → Left s n l₀ i₀ p₀ at₀ t (i + k) q (at + row_length * k)
  left_step k {t} {q} h e f =
      let m : k + (n - (i + k)) ≡ n - i = omega arith in
      let len : length t ≡ length l = ap length f ∙ length-sets l at (rows_from s p k) in
      record {
        within = h;
        there = omega (arith, g.there);
        room = omega (arith, g.room);
        size = len ∙ g.size;
        rows = ap₂ (λ (x : List ℕ) (j : ℕ). sets x (at + row_length * k) (rows_from s j (n - (i + k)))) f (sym e)
            ∙ next_stored k (n - (i + k)) s l p at ∙ ap (λ (j : ℕ). sets l at (rows_from s p j)) m ∙ g.rows;
      }

  -- none left
  pub left_none : n ≤ i → l ≡ sets l₀ at₀ (rows_from s p₀ (n - i₀))
  left_none h = let e : 0 ≡ n - i = omega arith in no_row s l p at ∙ ap (λ (j : ℕ). sets l at (rows_from s p j)) e ∙ g.rows
