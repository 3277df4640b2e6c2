-- Laws of answers: what a call that is done has tested, and what it leaves.
use mathlib.Core.Path.{◌≡◌, refl, sym, ap, ap₂, ◌∙◌}
use mathlib.Core.Bool.{Bool, true, false, cond}
use mathlib.Core.List.{List, []}
use Rattle.std.specs.Prelude.{Option, Some, None, Result, Err}
use Rattle.std.specs.Result.{IsErrAnd}
use Rattle.std.proofs.lemmas.Result.{err_from_is_err_and}
use Prim.Native.Nat.{ℕ, suc, ◌*◌, ◌/◌, ◌%◌, ◌<◌, ◌≤◌}
use native.Mathlib.Omega.{arith}
use lib.Dec.{eqb}
use lib.ListN.{length, take}
use lib.Seq.{sets}
use borrow.Author.Tests.{eqb-true, eqb-false, lt-ltb, le-ltb, eq-eqb, ne_eqb}
use Rattle.bits.specs.declared.Refusal.{Refusal}
use Rattle.bits.specs.Refusals.{number, longest, done, too_long, no_room, bad_row, or_else, first_refusal, if_done, Told}
use Rattle.bits.proofs.TestLaws.{by_test}
use Rattle.bits.proofs.StoreLaws.{front_take}
use Rattle.bits.proofs.RefusalLaws.{number_ne, passed, test_held, at_most, if_refused, if_done_lem, number_of}
use Rattle.record.specs.declared.Record.{Record}
use Rattle.record.specs.Record.{Fits, fits}
use Rattle.record.proofs.FitLaws.{true-fits}
use Rattle.strip.specs.Strip.{count_of, strip_length, tail_good, records_of, strip_bytes}
use Rattle.strip.proofs.PackedLaws.{records_count}
use Rattle.strip.proofs.StripLaws.{length_strip}
use Rattle.rows.specs.Row.{columns_at, in_range, row_length}
use Rattle.rows.specs.Rows.{rows_bytes, strip_rows, row_count, rows_whole, records_of_rows, first_bad, named, rows_strip}
use Rattle.rows.specs.declared.PackError.{PackError}
use Rattle.rows.specs.declared.PackError.TheVariants as why
use Rattle.rows.specs.Answers.{Found, Rows, Packed, error_number, error_row, rows_told, packed_told, found_of, row_refusal, read_refusal, read_of, rows_refusal, rows_of, rows_out, pack_refusal, packed_of, packed_out}
use Rattle.rows.proofs.RowsLaws.{rows_length, rows_count}

-- ---- what a call that is done has tested

pub row_passed : (len : ℕ) (r : Record) → row_refusal len r ≡ done → (len ≤ longest) × (fits r ≡ true) × (row_length ≤ len)
unfolding row_refusal
row_passed len r z = let (short, (fit, room)) = passed _ z in (at_most _ _ _ short, test_held _ _ fit, at_most _ _ _ room)

pub row_done : (len : ℕ) (r : Record) → len ≤ longest → Fits r → row_length ≤ len → row_refusal len r ≡ done
unfolding row_refusal first_refusal or_else
row_done len r short fit room = rw (le-ltb _ _ short, true-fits r fit, le-ltb _ _ room)

pub read_passed : (s : List ℕ) → read_refusal s ≡ done → (length s ≤ longest) × (row_length ≤ length s) × (in_range (columns_at s 0) ≡ true)
unfolding read_refusal
read_passed s z = let (short, (there, good)) = passed _ z in (at_most _ _ _ short, at_most _ _ _ there, test_held _ _ good)

-- an answer's number is the refusal's
pub refusal_is : (s : List ℕ) → read_refusal s ≡ (read_of s).refusal
unfolding read_of
refusal_is s = sym (number_of (λ (a : Told Record). a.refusal) (read_refusal s) _ _ refl refl)

module _ (s : List ℕ) (short : length s ≤ longest) (there : row_length ≤ length s) where
  pub read_good : in_range (columns_at s 0) ≡ true → (read_of s).refusal ≡ done
  unfolding read_refusal first_refusal or_else
  read_good t = sym (refusal_is s) ∙ rw (le-ltb _ _ short, le-ltb _ _ there, t)

  pub read_bad : in_range (columns_at s 0) ≡ false → (read_of s).refusal ≡ bad_row
  unfolding read_refusal first_refusal or_else
  read_bad f = sym (refusal_is s) ∙ rw (le-ltb _ _ short, le-ltb _ _ there, f)

pub rows_passed : (s : List ℕ) (len : ℕ) → rows_refusal s len ≡ done → (length s ≤ longest) × (len ≤ longest) × (row_length * count_of s ≤ len)
unfolding rows_refusal
rows_passed s len z = let (short, (short', room)) = passed _ z in (at_most _ _ _ short, at_most _ _ _ short', at_most _ _ _ room)

pub pack_passed : (s : List ℕ) (len : ℕ) → pack_refusal s len ≡ done → (length s ≤ longest) × (len ≤ longest) × (strip_length (row_count s) ≤ len) × (first_bad s ≡ 0)
unfolding pack_refusal
pack_passed s len z =
    let (short, (short', (room, good))) = passed _ z in
    (at_most _ _ _ short, at_most _ _ _ short', at_most _ _ _ room, eqb-true _ _ (test_held _ _ good))

-- ---- a strip's rows

module _ (s : List ℕ) where
  pub good_rows : tail_good s ≡ true → strip_rows s ≡ rows_bytes (records_of s)
  unfolding strip_rows
  good_rows e = rw e

  pub good_length : tail_good s ≡ true → length (strip_rows s) ≡ row_length * count_of s
  good_length e = ap length (good_rows e) ∙ rows_length (records_of s) ∙ ap (λ (k : ℕ). row_length * k) (records_count s 0 (count_of s))

  pub no_rows : tail_good s ≡ false → strip_rows s ≡ []
  unfolding strip_rows
  no_rows e = rw e

-- what writing rows answers and leaves, from the test
module _ (s out : List ℕ) where
  pub rows_refused : (e : Refusal) → number e ≡ rows_refusal s (length out) → (rows_told (Err e) ≡ rows_of s (length out)) × (out ≡ rows_out s out)
  unfolding rows_of rows_out
  rows_refused e found =
      (◌∙◌ {A = Rows} (λ i. record { refusal = found i; length = 0; tail_good = false }) (if_refused found _ _ (number_ne e)), if_refused found _ _ (number_ne e))

  pub rows_done : done ≡ rows_refusal s (length out) → {n : ℕ} {b : Bool} {t : List ℕ} → n ≡ length (strip_rows s) → b ≡ tail_good s → t ≡ sets out 0 (strip_rows s)
      → (◌≡◌ {A = Rows} (record { refusal = done; length = n; tail_good = b }) (rows_of s (length out))) × (t ≡ rows_out s out)
  unfolding rows_of rows_out
  rows_done found size tail memory =
      (◌∙◌ {A = Rows} (λ i. record { refusal = done; length = size i; tail_good = tail i }) (if_done_lem found _ _ refl), memory ∙ if_done_lem found _ _ refl)

-- ---- a number from 1, as the code has it

pub some_named : (k : ℕ) → (k ≡ 0 → ⊥) → Some k ≡ named k
some_named k h = rw (ne_eqb k 0 h) refl

-- how the two are told apart
abbrev one_up : Option ℕ → ℕ
one_up None = 0
one_up (Some k) = suc k

pub named_some : {r k : ℕ} → Some r ≡ named k → (r ≡ k) × (k ≡ 0 → ⊥)
named_some {r} {k} e =
    by_test (eqb k 0)
    (λ t. let z : suc r ≡ 0 = ap one_up (rw t at e) in absurd (omega arith))
    (λ t. let z : suc r ≡ suc k = ap one_up (rw t at e) in (omega arith, eqb-false k 0 t))

pub named_none : {k : ℕ} → None ≡ named k → k ≡ 0
named_none {k} e =
    by_test (eqb k 0) (λ t. eqb-true k 0 t) (λ t. let z : ◌≡◌ {A = ℕ} 0 (suc k) = ap one_up (rw t at e) in absurd (omega arith))

-- ---- packing rows: the refusal, test by test

module _ (s : List ℕ) (len : ℕ) where
  pub found_is : {e : ℕ} → e ≡ pack_refusal s len → ◌≡◌ {A = Found} (record { refusal = e; row = cond (eqb e bad_row) (first_bad s) 0 }) (found_of s len)
  found_is p = λ i. record { refusal = p i; row = cond (eqb (p i) bad_row) (first_bad s) 0 }

  pub long_rows : longest < length s → too_long ≡ pack_refusal s len
  unfolding pack_refusal first_refusal or_else
  long_rows h = rw (lt-ltb _ _ h)

  module _ (short : length s ≤ longest) where
    pub long_out : longest < len → too_long ≡ pack_refusal s len
    unfolding pack_refusal first_refusal or_else
    long_out h = rw (le-ltb _ _ short, lt-ltb _ _ h)

    module _ (short' : len ≤ longest) where
      pub no_room_lem : 8 * len / 89 < row_count s → no_room ≡ pack_refusal s len
      unfolding pack_refusal first_refusal or_else
      no_room_lem h = let l : len < strip_length (row_count s) = omega arith in rw (le-ltb _ _ short, le-ltb _ _ short', lt-ltb _ _ l)

      module _ (h : row_count s ≤ 8 * len / 89) where
        room : strip_length (row_count s) ≤ len
        room = omega arith

        pub bad_row_lem : (first_bad s ≡ 0 → ⊥) → bad_row ≡ pack_refusal s len
        unfolding pack_refusal first_refusal or_else
        bad_row_lem b = rw (le-ltb _ _ short, le-ltb _ _ short', le-ltb _ _ room, ne_eqb (first_bad s) 0 b)

        pub all_good : first_bad s ≡ 0 → done ≡ pack_refusal s len
        unfolding pack_refusal first_refusal or_else
        all_good g = rw (le-ltb _ _ short, le-ltb _ _ short', le-ltb _ _ room, eq-eqb (first_bad s) 0 g)

-- ---- the strip of rows

module _ (s : List ℕ) where
  pub whole_strip : rows_whole s ≡ true → rows_strip s ≡ strip_bytes (records_of_rows s)
  unfolding rows_strip
  whole_strip e = rw e

  pub whole_length : rows_whole s ≡ true → length (rows_strip s) ≡ strip_length (row_count s)
  whole_length e = ap length (whole_strip e) ∙ length_strip (records_of_rows s) ∙ ap strip_length (rows_count (row_count s) s 0)

  pub no_strip : rows_whole s ≡ false → rows_strip s ≡ []
  unfolding rows_strip
  no_strip e = rw e

  pub rows_whole_lem : length s % row_length ≡ 0 → rows_whole s ≡ true
  unfolding rows_whole
  rows_whole_lem e = eq-eqb _ _ e

  pub rows_cut : (length s % row_length ≡ 0 → ⊥) → rows_whole s ≡ false
  unfolding rows_whole
  rows_cut h = ne_eqb _ _ h

-- a `?` hands an error on as it is
pub handed : {A : Type 0} (r : Result A PackError) (e : PackError) → IsErrAnd r (λ y. y ≡ e) → r ≡ Err e
handed r e h = let p = err_from_is_err_and r h in p.1 ∙ ap Err p.2

-- no error has the number of what is done
pub error_ne : (e : PackError) → error_number e ≡ done → ⊥
error_ne (why.Refused e) z = number_ne e z
error_ne (why.BadRow k) z = omega arith

-- what packing rows answers and leaves, from what was found
module _ (s out : List ℕ) where
  pub pack_refused : (e : PackError) → ◌≡◌ {A = Found} (record { refusal = error_number e; row = error_row e }) (found_of s (length out))
      → (packed_told (Err e) ≡ packed_of s (length out)) × (out ≡ packed_out s out)
  unfolding packed_of packed_out
  pack_refused e found =
      let p : error_number e ≡ pack_refusal s (length out) = ap (λ (x : Found). x.refusal) found in
      (◌∙◌ {A = Packed} (λ i. record { refusal = (found i).refusal; row = (found i).row; length = 0; tail_good = false }) (if_refused p _ _ (error_ne e)), if_refused p _ _ (error_ne e))

  pub pack_done : done ≡ pack_refusal s (length out) → {n : ℕ} {b : Bool} {t : List ℕ} → n ≡ length (rows_strip s) → b ≡ rows_whole s → t ≡ sets out 0 (rows_strip s)
      → (◌≡◌ {A = Packed} (record { refusal = done; row = 0; length = n; tail_good = b }) (packed_of s (length out))) × (t ≡ packed_out s out)
  unfolding packed_of packed_out
  pack_done found size tail memory =
      (◌∙◌ {A = Packed} (λ i. record { refusal = done; row = 0; length = size i; tail_good = tail i }) (if_done_lem found _ _ refl), memory ∙ if_done_lem found _ _ refl)

-- ---- calls that are done, from their inputs

module _ (s out : List ℕ) (short : length s ≤ longest) (short' : length out ≤ longest) where
  pub turns : row_length * count_of s ≤ length out
      → (rows_of s (length out) ≡ record { refusal = done; length = length (strip_rows s); tail_good = tail_good s }) × (rows_out s out ≡ sets out 0 (strip_rows s))
  unfolding rows_of rows_out rows_refusal first_refusal or_else
  turns room = rw (le-ltb longest (length s) short, le-ltb longest (length out) short', le-ltb (length out) (row_length * count_of s) room) (refl, refl)

  -- what they leave, cut to its length
  pub rows_left : tail_good s ≡ true → row_length * count_of s ≤ length out → take (rows_of s (length out)).length (rows_out s out) ≡ strip_rows s
  rows_left good room =
      let (answer, memory) = turns room in
      ap₂ (λ (a : Rows) (t : List ℕ). take a.length t) answer memory ∙ front_take (strip_rows s) out (omega (arith, good_length s good))

  module _ (room : strip_length (row_count s) ≤ length out) (none : first_bad s ≡ 0) (whole : rows_whole s ≡ true) where
    pub packs : (packed_of s (length out) ≡ record { refusal = done; row = 0; length = length (rows_strip s); tail_good = true }) × (packed_out s out ≡ sets out 0 (rows_strip s))
    unfolding packed_of packed_out pack_refusal first_refusal or_else
    packs = rw (le-ltb longest (length s) short, le-ltb longest (length out) short', le-ltb (length out) (strip_length (row_count s)) room, eq-eqb (first_bad s) 0 none, whole) (refl, refl)

    pub strip_left : take (packed_of s (length out)).length (packed_out s out) ≡ rows_strip s
    strip_left =
        let (answer, memory) = packs in
        ap₂ (λ (a : Packed) (t : List ℕ). take a.length t) answer memory ∙ front_take (rows_strip s) out (omega (arith, whole_length s whole))

-- ---- answers by their refusal

module _ (s : List ℕ) (len : ℕ) where
  abbrev done_rows : Rows
  done_rows = record { refusal = done; length = length (strip_rows s); tail_good = tail_good s }

  abbrev refused_rows : ℕ → Rows
  refused_rows e = record { refusal = e; length = 0; tail_good = false }

  pub rows_by : {e : ℕ} → rows_refusal s len ≡ e → rows_of s len ≡ if_done e done_rows (refused_rows e)
  unfolding rows_of
  rows_by p = ap (λ (k : ℕ). if_done k done_rows (refused_rows k)) p

  pub rows_number : (rows_of s len).refusal ≡ rows_refusal s len
  rows_number = ap (λ (a : Rows). a.refusal) (rows_by refl) ∙ number_of (λ (a : Rows). a.refusal) (rows_refusal s len) done_rows (refused_rows (rows_refusal s len)) refl refl

  abbrev packed_done : Packed
  packed_done = record { refusal = done; row = 0; length = length (rows_strip s); tail_good = rows_whole s }

  abbrev packed_refused : ℕ → Packed
  packed_refused e = record { refusal = e; row = cond (eqb e bad_row) (first_bad s) 0; length = 0; tail_good = false }

  pub packed_by : {e : ℕ} → pack_refusal s len ≡ e → packed_of s len ≡ if_done e packed_done (packed_refused e)
  unfolding packed_of
  packed_by p = ap (λ (k : ℕ). if_done k packed_done (packed_refused k)) p

  pub packed_number : (packed_of s len).refusal ≡ pack_refusal s len
  packed_number =
      ap (λ (a : Packed). a.refusal) (packed_by refl) ∙ number_of (λ (a : Packed). a.refusal) (pack_refusal s len) packed_done (packed_refused (pack_refusal s len)) refl refl

-- rows that were packed: not refused, and whole
pub packed_parts : (s : List ℕ) (len : ℕ) → (packed_of s len).refusal ≡ done → (packed_of s len).tail_good ≡ true → (pack_refusal s len ≡ done) × (rows_whole s ≡ true)
packed_parts s len z tail =
    let d : pack_refusal s len ≡ done = sym (packed_number s len) ∙ z in
    (d, sym (ap (λ (a : Packed). a.tail_good) (packed_by s len d)) ∙ tail)

-- where there is no strip or are no rows, nothing is written
module _ (s out : List ℕ) where
  pub rows_none : tail_good s ≡ false → (rows_of s (length out)).refusal ≡ done
      → (rows_of s (length out) ≡ record { refusal = done; length = 0; tail_good = false }) × (rows_out s out ≡ out)
  unfolding rows_out
  rows_none f z =
      let d : rows_refusal s (length out) ≡ done = sym (rows_number s (length out)) ∙ z in (
        rows_by s (length out) d ∙ (λ i. record { refusal = done; length = length (no_rows s f i); tail_good = f i }),
        ap₂ (λ (e : ℕ) (t : List ℕ). if_done e (sets out 0 t) out) d (no_rows s f),
      )

  pub strip_none : rows_whole s ≡ false → (packed_of s (length out)).refusal ≡ done
      → (packed_of s (length out) ≡ record { refusal = done; row = 0; length = 0; tail_good = false }) × (packed_out s out ≡ out)
  unfolding packed_out
  strip_none f z =
      let d : pack_refusal s (length out) ≡ done = sym (packed_number s (length out)) ∙ z in (
        packed_by s (length out) d ∙ (λ i. record { refusal = done; row = 0; length = length (no_strip s f i); tail_good = f i }),
        ap₂ (λ (e : ℕ) (t : List ℕ). if_done e (sets out 0 t) out) d (no_strip s f),
      )
