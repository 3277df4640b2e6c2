-- What is promised of rows, in words of the definitions.
use mathlib.Core.Path.{◌≡◌, refl, sym, ap, ap₂, ◌∙◌}
use mathlib.Core.Bool.{Bool, true, false}
use mathlib.Core.List.{List, [], ◌++◌}
use Prim.Native.Nat.{ℕ, suc, ◌+◌, ◌*◌, ◌/◌, ◌%◌, ◌^◌, ◌<◌, ◌≤◌}
use native.Mathlib.Nat.{zero-add}
use native.Mathlib.Omega.{arith}
use lib.ListN.{length, get_or, take, drop, length-append, take-append-drop}
use lib.Seq.{sets, length-sets, take-length}
use borrow.Author.Tests.{le-ltb, eq-eqb, eqb-true}
use Rattle.bits.specs.Refusals.{longest, done, bad_row, or_else, first_refusal, Told}
use Rattle.bits.proofs.StoreLaws.{front_take}
use Rattle.bits.proofs.TestLaws.{by_test}
use Rattle.record.specs.declared.Record.{Record}
use Rattle.record.specs.Record.{Fits}
use Rattle.record.proofs.FitLaws.{fits-true}
use Rattle.strip.specs.Strip.{all_fit, strip_length, strip_bytes, count_of, records_of, tail_good}
use Rattle.strip.proofs.PackedLaws.{records_fit, records_count}
use Rattle.strip.proofs.StripLaws.{strip_count, strip_records, strip_tail, strip_same}
use Rattle.rows.specs.Row.{columns_at, columns_of, row_bytes, in_range, record_said, row_length, row_bits}
use Rattle.rows.specs.Rows.{rows_bytes, strip_rows, row_count, rows_whole, records_in_rows, records_of_rows, bad_from, first_bad, rows_strip}
use Rattle.rows.specs.Answers.{Packed, row_refusal, row_out, read_refusal, read_of, rows_of, rows_out, packed_of, packed_out}
use Rattle.rows.proofs.ColumnLaws.{columns_good, columns_record}
use Rattle.rows.proofs.RowLaws.{row_length_lem, same_row}
use Rattle.rows.proofs.RowsLaws.{rows_count, rows_fit, row_fits, bad_is_first, first_is_bad, all_are_good, good_is_all}
use Rattle.rows.proofs.AnswerLaws.{row_passed, row_done, read_passed, refusal_is, read_good, read_bad, pack_passed, good_rows, good_length, whole_strip, rows_whole_lem, whole_length, bad_row_lem, packed_by, packed_number, rows_none, strip_none, turns, rows_left, packs, strip_left, packed_parts}
use Rattle.rows.proofs.BackLaws.{columns_behind, rows_say, same_rows}

-- ---- one record

-- bytes that start with a record's row are read as that record
said : (s : List ℕ) (r : Record) → Fits r → length s ≤ longest → row_bytes r ≡ take row_length s → read_of s ≡ record { refusal = done; value = r }
unfolding read_of read_refusal first_refusal or_else
said s r fit short e =
    let whole : s ≡ row_bytes r ++ drop row_length s = sym (take-append-drop row_length s) ∙ ap (λ (t : List ℕ). t ++ drop row_length s) (sym e) in
    let columns : columns_at s 0 ≡ columns_of r = ap (λ (t : List ℕ). columns_at t 0) whole ∙ columns_behind [] (drop row_length s) r fit in
    let there : row_length ≤ length s = omega (arith, ap length whole, length-append (row_bytes r) (drop row_length s), row_length_lem r) in
    let good : in_range (columns_at s 0) ≡ true = ap in_range columns ∙ columns_good r fit in
    rw (le-ltb longest (length s) short, le-ltb (length s) row_length there, good) (λ i. record { refusal = done; value = (ap record_said columns ∙ columns_record r fit) i })

-- the row that write_row leaves
row_written : (out : List ℕ) (r : Record) → row_refusal (length out) r ≡ done → (row_out out r ≡ sets out 0 (row_bytes r)) × (take row_length (row_out out r) ≡ row_bytes r)
unfolding row_out
row_written out r z =
    let (short, fit, room) = row_passed (length out) r z in
    let l = row_length_lem r in
    rw (eq-eqb _ _ z) (refl, ap (λ (k : ℕ). take k (sets out 0 (row_bytes r))) (sym l) ∙ front_take (row_bytes r) out (omega (arith, l, room)))

-- there_and_back: a record written as a row and read is the same record
pub there_and_back : (out : List ℕ) (r : Record) → row_refusal (length out) r ≡ done → read_of (row_out out r) ≡ record { refusal = done; value = r }
there_and_back out r z =
    let (short, fit, room) = row_passed (length out) r z in
    let (is, row) = row_written out r z in
    said (row_out out r) r (fits-true r fit) (omega (arith, ap length is, length-sets out 0 (row_bytes r), short)) (sym row)

-- its columns say the record's numbers
pub row_says : (out : List ℕ) (r : Record) → row_refusal (length out) r ≡ done → columns_at (row_out out r) 0 ≡ columns_of r
row_says out r z =
    let (short, fit, room) = row_passed (length out) r z in
    let w : List ℕ = row_out out r in
    let whole : w ≡ row_bytes r ++ drop row_length w = sym (take-append-drop row_length w) ∙ ap (λ (t : List ℕ). t ++ drop row_length w) (row_written out r z).1 in
    ap (λ (t : List ℕ). columns_at t 0) whole ∙ columns_behind [] (drop row_length w) r (fits-true r fit)

-- the row that is read, and what it says
row_found : (s : List ℕ) → ((i : ℕ) → get_or s i 0 < 2 ^ 8) → (read_of s).refusal ≡ done → Fits (read_of s).value × (row_bytes (read_of s).value ≡ take row_length s)
unfolding read_of
row_found s bytes z =
    let d : read_refusal s ≡ done = refusal_is s ∙ z in
    let (short, there, good) = read_passed s d in
    rw (eq-eqb _ _ d) (row_fits s 0 good, same_row s bytes there good)

-- back-and-there: a row that becomes a record comes back from it as the same 18 bytes
pub back_and_there : (s out : List ℕ) → ((i : ℕ) → get_or s i 0 < 2 ^ 8) → (read_of s).refusal ≡ done → length out ≤ longest → row_length ≤ length out
    → (row_refusal (length out) (read_of s).value ≡ done) × (take row_length (row_out out (read_of s).value) ≡ take row_length s)
back_and_there s out bytes z short room =
    let (fit, row) = row_found s bytes z in
    let d = row_done (length out) (read_of s).value short fit room in
    (d, (row_written out (read_of s).value d).1 ∙ row)

-- refused-exactly: a row is refused with 11 exactly if no record that fits has it
pub refused_exactly : (s : List ℕ) → ((i : ℕ) → get_or s i 0 < 2 ^ 8) → length s ≤ longest → row_length ≤ length s
    → ((read_of s).refusal ≡ bad_row → (r : Record) → Fits r → row_bytes r ≡ take row_length s → ⊥)
    × (((r : Record) → Fits r → row_bytes r ≡ take row_length s → ⊥) → (read_of s).refusal ≡ bad_row)
refused_exactly s bytes short there = (
  λ z r fit e. let d : bad_row ≡ done = sym z ∙ ap (λ (x : Told Record). x.refusal) (said s r fit short e) in omega arith,
  λ none.
      by_test (in_range (columns_at s 0))
      (λ t. let (fit, row) = row_found s bytes (read_good s short there t) in absurd (none (read_of s).value fit row))
      (λ f. read_bad s short there f),
)

-- ---- whole strips

-- strip-rows-strip: the rows of a strip with a good tail all say records, and packed they are that strip
pub strip_rows_strip : (s : List ℕ) → ((i : ℕ) → get_or s i 0 < 2 ^ 8) → tail_good s ≡ true
    → (row_count (strip_rows s) ≡ count_of s) × (first_bad (strip_rows s) ≡ 0) × (rows_whole (strip_rows s) ≡ true) × (rows_strip (strip_rows s) ≡ s)
strip_rows_strip s bytes good =
    let rs : List Record = records_of s in
    let w : List ℕ = strip_rows s in
    let len = good_length s good in
    let n : row_count w ≡ count_of s = omega (arith, len) in
    let m : length rs ≡ count_of s = records_count s 0 (count_of s) in
    let is : w ≡ rows_bytes rs = good_rows s good in
    let (say, none) = rows_say rs [] 1 (records_fit s 0 (count_of s)) in
    let whole = rows_whole_lem w (omega (arith, len)) in
    let found : records_of_rows w ≡ rs = ap₂ (λ (t : List ℕ) (k : ℕ). records_in_rows t 0 k) is (n ∙ sym m) ∙ say in
    (n, ap₂ (λ (t : List ℕ) (k : ℕ). bad_from t 0 1 k) is (n ∙ sym m) ∙ none, whole, whole_strip w whole ∙ ap strip_bytes found ∙ strip_same s bytes good)

-- strip-there-and-back: turned into rows and packed by the calls, a strip with a good tail is the strip itself, byte for byte
pub strip_there_and_back :
    (s out₁ out₂ : List ℕ) → ((i : ℕ) → get_or s i 0 < 2 ^ 8) → tail_good s ≡ true → length s ≤ longest →
    length out₁ ≤ longest → row_length * count_of s ≤ length out₁ → length out₂ ≤ longest → length s ≤ length out₂ →
    let rows = take (rows_of s (length out₁)).length (rows_out s out₁) in
    (packed_of rows (length out₂) ≡ record { refusal = done; row = 0; length = length s; tail_good = true }) × (take (length s) (packed_out rows out₂) ≡ s)
strip_there_and_back s out₁ out₂ bytes good short short₁ room₁ short₂ room₂ =
    let w : List ℕ = strip_rows s in
    let (n, none, whole, same) = strip_rows_strip s bytes good in
    let size = good_length s good in
    let e = rows_left s out₁ short short₁ good room₁ in
    let room : strip_length (row_count w) ≤ length out₂ = omega (arith, ap length same, whole_length w whole, room₂) in
    let (answer, memory) = packs w out₂ (omega (arith, size, short₁, room₁)) short₂ room none whole in (
      ap (λ (t : List ℕ). packed_of t (length out₂)) e ∙ answer ∙ ap (λ (k : ℕ). record { refusal = done; row = 0; length = k; tail_good = true }) (ap length same),
      ap (λ (t : List ℕ). take (length s) (packed_out t out₂)) e ∙ ap (take (length s)) (memory ∙ ap (sets out₂ 0) same) ∙ front_take s out₂ room₂,
    )

-- rows-strip-rows: rows that all say records, the last one whole, are those of their strip, whose tail is good
pub rows_strip_rows : (s : List ℕ) → ((i : ℕ) → get_or s i 0 < 2 ^ 8) → first_bad s ≡ 0 → rows_whole s ≡ true
    → (count_of (rows_strip s) ≡ row_count s) × (tail_good (rows_strip s) ≡ true) × (strip_rows (rows_strip s) ≡ s)
unfolding rows_whole
rows_strip_rows s bytes none whole =
    let rs : List Record = records_of_rows s in
    let fit : all_fit rs ≡ true = rows_fit (row_count s) s 0 0 none in
    let is : rows_strip s ≡ strip_bytes rs = whole_strip s whole in
    let tail : tail_good (rows_strip s) ≡ true = ap tail_good is ∙ strip_tail rs fit in
    let z : length s % row_length ≡ 0 = eqb-true _ _ whole in
    let all : row_length * row_count s ≡ length s = omega arith in (
      ap count_of is ∙ strip_count rs fit ∙ rows_count (row_count s) s 0,
      tail,
      good_rows (rows_strip s) tail ∙ ap (λ (t : List ℕ). rows_bytes (records_of t)) is ∙ ap rows_bytes (strip_records rs fit)
          ∙ same_rows (row_count s) s 0 0 bytes (omega arith) none ∙ ap (λ (k : ℕ). take k s) all ∙ take-length s,
    )

-- rows-there-and-back: packed and turned into rows by the calls, rows that all say records are the same bytes
pub rows_there_and_back :
    (s out₁ out₂ : List ℕ) → ((i : ℕ) → get_or s i 0 < 2 ^ 8) → (packed_of s (length out₁)).refusal ≡ done → (packed_of s (length out₁)).tail_good ≡ true →
    length out₂ ≤ longest → length s ≤ length out₂ →
    let strip = take (packed_of s (length out₁)).length (packed_out s out₁) in
    (rows_of strip (length out₂) ≡ record { refusal = done; length = length s; tail_good = true }) × (take (length s) (rows_out strip out₂) ≡ s)
rows_there_and_back s out₁ out₂ bytes z tail short₂ room₂ =
    let (d, whole) = packed_parts s (length out₁) z tail in
    let (short, short₁, room₁, none) = pack_passed s (length out₁) d in
    let (n, good, same) = rows_strip_rows s bytes none whole in
    let x : List ℕ = rows_strip s in
    let e = strip_left s out₁ short short₁ room₁ none whole in
    let size : length x ≡ strip_length (row_count s) = whole_length s whole in
    let len : length (strip_rows x) ≡ length s = ap length same in
    let room : row_length * count_of x ≤ length out₂ = omega (arith, good_length x good, len, room₂) in
    let (answer, memory) = turns x out₂ (omega (arith, size, room₁, short₁)) short₂ room in (
      ap (λ (t : List ℕ). rows_of t (length out₂)) e ∙ answer ∙ ap₂ (λ (k : ℕ) (b : Bool). record { refusal = done; length = k; tail_good = b }) len good,
      ap (λ (t : List ℕ). take (length s) (rows_out t out₂)) e ∙ ap (take (length s)) (memory ∙ ap (sets out₂ 0) same) ∙ front_take s out₂ room₂,
    )

-- ---- which row is bad

-- bad-row-exactly: the number of the first bad row is that of the first that says no record, from 1
pub bad_row_exactly : (s : List ℕ) (i : ℕ)
    → (first_bad s ≡ suc i → (i < row_count s) × (in_range (columns_at s (row_bits * i)) ≡ false) × ((j : ℕ) → j < i → in_range (columns_at s (row_bits * j)) ≡ true))
    × (i < row_count s → in_range (columns_at s (row_bits * i)) ≡ false → ((j : ℕ) → j < i → in_range (columns_at s (row_bits * j)) ≡ true) → first_bad s ≡ suc i)
bad_row_exactly s i = (
  λ e.
      let (there, bad, before) = bad_is_first (row_count s) s 0 0 i (e ∙ ap suc (sym (zero-add i))) in
      (there, at_place i false bad, λ j h. at_place j true (before j h)),
  λ there bad before. first_is_bad (row_count s) s 0 1 i there (from_place i false bad) (λ j h. from_place j true (before j h)) ∙ one_more i,
)
  where
    at_place : (j : ℕ) (b : Bool) → in_range (columns_at s (0 + row_bits * j)) ≡ b → in_range (columns_at s (row_bits * j)) ≡ b
    at_place j b e = ap (λ (p : ℕ). in_range (columns_at s p)) (sym (zero-add (row_bits * j))) ∙ e

    from_place : (j : ℕ) (b : Bool) → in_range (columns_at s (row_bits * j)) ≡ b → in_range (columns_at s (0 + row_bits * j)) ≡ b
    from_place j b e = ap (λ (p : ℕ). in_range (columns_at s p)) (zero-add (row_bits * j)) ∙ e

    one_more : (k : ℕ) → 1 + k ≡ suc k
    one_more k = omega arith

-- no-bad-row: it is 0 exactly if each says one
pub no_bad_row : (s : List ℕ)
    → (first_bad s ≡ 0 → (j : ℕ) → j < row_count s → in_range (columns_at s (row_bits * j)) ≡ true)
    × (((j : ℕ) → j < row_count s → in_range (columns_at s (row_bits * j)) ≡ true) → first_bad s ≡ 0)
no_bad_row s = (
  λ e j h. ap (λ (p : ℕ). in_range (columns_at s p)) (sym (zero-add (row_bits * j))) ∙ good_is_all (row_count s) s 0 0 e j h,
  λ all. all_are_good (row_count s) s 0 1 (λ j h. ap (λ (p : ℕ). in_range (columns_at s p)) (zero-add (row_bits * j)) ∙ all j h),
)

-- bad-row-told: rows that have room are refused by 11, with a number, exactly if that is the first bad row's
pub bad_row_told : (s : List ℕ) (len i : ℕ) → length s ≤ longest → len ≤ longest → strip_length (row_count s) ≤ len
    → (((packed_of s len).refusal ≡ bad_row) × ((packed_of s len).row ≡ suc i) → first_bad s ≡ suc i) × (first_bad s ≡ suc i → ((packed_of s len).refusal ≡ bad_row) × ((packed_of s len).row ≡ suc i))
bad_row_told s len i short short' room = (
  λ (e, f). sym (ap (λ (a : Packed). a.row) (packed_by s len (sym (packed_number s len) ∙ e))) ∙ f,
  λ e.
      let p = packed_by s len (sym (bad_row_lem s len short short' enough (λ z. omega (arith, e, z)))) in
      (ap (λ (a : Packed). a.refusal) p, ap (λ (a : Packed). a.row) p ∙ e),
)
  where
    enough : row_count s ≤ 8 * len / 89
    enough = omega arith

-- ---- tails

-- tails-told: a bad tail is told and not refused, and nothing is written then; so is a cut row
pub tails_told : (s out : List ℕ)
    → (tail_good s ≡ false → (rows_of s (length out)).refusal ≡ done → (rows_of s (length out) ≡ record { refusal = done; length = 0; tail_good = false }) × (rows_out s out ≡ out))
    × (rows_whole s ≡ false → (packed_of s (length out)).refusal ≡ done → (packed_of s (length out) ≡ record { refusal = done; row = 0; length = 0; tail_good = false }) × (packed_out s out ≡ out))
tails_told s out = (rows_none s out, strip_none s out)
