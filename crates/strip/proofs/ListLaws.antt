-- Laws of lists of numbers, six a record: the records that they name, one after the other, and the numbers of records.
use mathlib.Core.Path.{◌≡◌, refl, sym, ap, ap₂, ◌∙◌}
use mathlib.Core.Bool.{Bool, true, cond, ◌&&◌}
use mathlib.Core.List.{List, [], ◌∷◌, ◌++◌}
use Prim.Native.Nat.{ℕ, zero, suc, ◌+◌, ◌-◌, ◌*◌, ◌/◌, ◌^◌, ◌<◌, ◌≤◌, min}
use native.Mathlib.Nat.{add-zero}
use native.Mathlib.Numerals.{unary_clauses}
use native.Mathlib.Omega.{arith}
use lib.Dec.{ltb}
use lib.IntN.{ℤ}
use lib.ListN.{length, get_or, take, drop, set, length-drop}
use lib.Seq.{sets, take-suc, take-add, get_or-drop, drop-drop}
use borrow.Author.Tests.{ltb-true, ltb-false, le-ltb}
use Rattle.bits.specs.Signed.{signed, pattern}
use Rattle.bits.proofs.TestLaws.{by_test}
use Rattle.bits.proofs.StoreLaws.{sets-append}
use Rattle.sign.proofs.SignedLaws.{pattern-signed, signed-pattern}
use Rattle.record.specs.declared.Record.{Record}
use Rattle.record.specs.Record.{fits, record_of, record_bits}
use Rattle.strip.specs.Bits.{record_at}
use Rattle.strip.specs.Strip.{numbers_of, all_numbers, record_in, records_in, all_fit, records_from}
use Rattle.strip.proofs.FitLaws.{all_fit_parts, with_magnitude}

-- the record of the six numbers from `at` on
abbrev pub record_from : List ℕ → ℕ → Record
record_from ns at = record_of (get_or ns at 0) (get_or ns (at + 1) 0) (get_or ns (at + 2) 0) (get_or ns (at + 3) 0) (get_or ns (at + 4) 0) (get_or ns (at + 5) 0)

record_from_lem : (ns : List ℕ) (at : ℕ) → record_in (drop at ns) ≡ record_from ns at
record_from_lem ns at = simp (get_or-drop, add-zero)

-- ---- records one after the other

-- the first of those still to come after i, whose numbers start at `at`
module _ (ns : List ℕ) (n i at : ℕ) (more : i < n) (there : at + 6 * (n - i) ≤ length ns) where
  pub next_record : records_in (n - i) (drop at ns) ≡ record_in (drop at ns) ∷ records_in (n - (i + 1)) (drop (at + 6) ns)
  unfolding records_in
  next_record =
      let e : n - i ≡ suc (n - (i + 1)) = omega arith in
      let l : 6 ≤ length (drop at ns) = omega (arith, length-drop at ns) in
      ap (λ (k : ℕ). records_in k (drop at ns)) e
      ∙ ap (λ (t : Bool). cond t [] (record_in (drop at ns) ∷ records_in (n - (i + 1)) (drop 6 (drop at ns)))) (le-ltb _ _ l)
      ∙ ap (λ (l : List ℕ). record_in (drop at ns) ∷ records_in (n - (i + 1)) l) (drop-drop 6 at ns)

  -- they fit if it does and the others do
  pub next_fits : all_fit (records_in (n - i) (drop at ns)) ≡ (fits (record_in (drop at ns)) && all_fit (records_in (n - (i + 1)) (drop (at + 6) ns)))
  unfolding all_fit
  next_fits = ap all_fit next_record

-- none is left after the last
pub no_record_left : (ns : List ℕ) (n i : ℕ) → n ≤ i → records_in (n - i) ns ≡ []
unfolding records_in
no_record_left ns n i h = let e : n - i ≡ 0 = omega arith in ap (λ (k : ℕ). records_in k ns) e

-- numbers name no more records than there are whole ones
pub whole_records : (n : ℕ) (ns : List ℕ) → records_in n ns ≡ records_in (min n (length ns / 6)) ns
unfolding records_in
whole_records zero ns = let e : min zero (length ns / 6) ≡ zero = omega arith in rw e
whole_records (suc n) ns =
    by_test (ltb (length ns) 6)
    (λ p.
    let l : length ns < 6 = ltb-true (length ns) 6 p in
    let e : min (suc n) (length ns / 6) ≡ zero = omega arith in
    rw (e, p))
    (λ p.
    let l : 6 ≤ length ns = ltb-false (length ns) 6 p in
    let d : length (drop 6 ns) ≡ length ns - 6 = length-drop 6 ns in
    let e : min (suc n) (length ns / 6) ≡ suc (min n (length (drop 6 ns) / 6)) = omega arith in
    rw (e, p) (ap (λ (rs : List Record). record_in ns ∷ rs) (whole_records n (drop 6 ns))))

-- ---- numbers stored

pub six_stored : (l : List ℕ) (at a b c d e f : ℕ) → set (set (set (set (set (set l at a) (at + 1) b) (at + 2) c) (at + 3) d) (at + 4) e) (at + 5) f ≡ sets l at (a ∷ b ∷ c ∷ d ∷ e ∷ f ∷ [])
six_stored l at a b c d e f = simp unary_clauses

-- the numbers of the record at a place, and those of the others behind them
pub next_stored : (s l : List ℕ) (p at n i : ℕ) → i < n
    → sets (sets l at (numbers_of (record_at s p))) (at + 6) (all_numbers (records_from s (p + record_bits) (n - (i + 1)))) ≡ sets l at (all_numbers (records_from s p (n - i)))
unfolding records_from all_numbers
next_stored s l p at n i h =
    let e : n - i ≡ suc (n - (i + 1)) = omega arith in
    rw e (sym (sets-append (numbers_of (record_at s p)) (all_numbers (records_from s (p + record_bits) (n - (i + 1)))) l at))

pub none_stored : (s l : List ℕ) (p at n i : ℕ) → n ≤ i → l ≡ sets l at (all_numbers (records_from s p (n - i)))
unfolding records_from all_numbers
none_stored s l p at n i h = let e : n - i ≡ 0 = omega arith in rw e

-- ---- there and back

-- records come back from their numbers
pub records_back : (rs : List Record) → all_fit rs ≡ true → records_in (length rs) (all_numbers rs) ≡ rs
unfolding records_in all_numbers
records_back [] h = refl
records_back (r ∷ rs) h =
    let (one, others) = all_fit_parts r rs h in
    let m : signed 64 (pattern 64 r.magnitude) ≡ r.magnitude = signed-pattern 63 r.magnitude (omega (arith, one.magnitude)) in
    let l : 6 ≤ length (numbers_of r ++ all_numbers rs) = omega arith in
    rw (le-ltb _ _ l) (ap₂ (λ (z : ℤ) (t : List Record). with_magnitude r z ∷ t) m (records_back rs others))

-- numbers name as many records as they are asked for, if they are there
pub records_named : (n : ℕ) (ns : List ℕ) → 6 * n ≤ length ns → length (records_in n ns) ≡ n
unfolding records_in
records_named zero ns h = refl
records_named (suc n) ns h =
    let l : 6 ≤ length ns = omega arith in
    rw (le-ltb (length ns) 6 l) (ap suc (records_named n (drop 6 ns) (omega (arith, length-drop 6 ns))))

-- numbers come back from the records that they name
module _ (ns : List ℕ) (words : (i : ℕ) → get_or ns i 0 < 2 ^ 64) where
  six_back : 6 ≤ length ns → numbers_of (record_in ns) ≡ take 6 ns
  six_back h =
      let m : pattern 64 (signed 64 (get_or ns 3 0)) ≡ get_or ns 3 0 = pattern-signed 64 (get_or ns 3 0) (words 3) in
      rw m (sym (rw (take-suc ns 5 0 (omega arith), take-suc ns 4 0 (omega arith), take-suc ns 3 0 (omega arith), take-suc ns 2 0 (omega arith), take-suc ns 1 0 (omega arith), take-suc ns 0 0 (omega arith))))

pub numbers_back : (n : ℕ) (ns : List ℕ) → ((i : ℕ) → get_or ns i 0 < 2 ^ 64) → 6 * n ≤ length ns → all_numbers (records_in n ns) ≡ take (6 * n) ns
unfolding records_in all_numbers
numbers_back zero ns words h = refl
numbers_back (suc n) ns words h =
    let l : 6 ≤ length ns = omega arith in
    let others = numbers_back n (drop 6 ns) (λ i. rw get_or-drop (words (6 + i))) (omega (arith, length-drop 6 ns)) in
    let e : 6 * suc n ≡ 6 + 6 * n = omega arith in
    rw (le-ltb (length ns) 6 l) (ap₂ (λ (x y : List ℕ). x ++ y) (six_back ns words l) others ∙ sym (rw (e, take-add 6 (6 * n) ns)))
