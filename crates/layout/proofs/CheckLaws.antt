-- One step of the plan check, the same at a field and inside a wide field.
use Prim.Native.Nat.{ℕ, ◌+◌, ◌-◌, ◌<◌, ◌≤◌}
use mathlib.Core.Path.{◌≡◌}
use mathlib.Core.Bool.{Bool, true, false}
use mathlib.Core.List.{List}
use native.Mathlib.Numerals.{add-one}
use native.Mathlib.Omega.{arith}
use lib.ListN.{length, drop, get_or}
use lib.Seq.{drop-cons, drop-length}
use lib.Dec.{eqb}
use borrow.Author.Tests.{leb-true, eqb-true, ltb-true, le-leb, eq-eqb, ne_eqb, lt-ltb}
use Rattle.layout.specs.Plan.{count, refill, wide, ends}
use Rattle.layout.specs.Check.{fits, ends_wide, at_field, in_wide}
use Rattle.layout.specs.Take.{checked, closed, at_on, wide_on}
use Rattle.bits.proofs.TestLaws.{both, both_true, by_test}

-- ---- what a step gives

pub fits-true : (low g b : ℕ) → low ≤ count b → count b ≤ g → fits low g b ≡ true
fits-true low g b h k = both_true (le-leb _ _ h) (le-leb _ _ k)

pub fits_of : (low g b : ℕ) → fits low g b ≡ true → (low ≤ count b) × (count b ≤ g)
fits_of low g b e = let (h, k) = both e in (leb-true _ _ h, leb-true _ _ k)

pub ends-wide-true : (b : ℕ) → ends b ≡ true → 1 ≤ count b → count b ≤ 8 → ends_wide b ≡ true
ends-wide-true b e h k = both_true e (both_true (le-leb _ _ h) (le-leb _ _ k))

pub ends-wide_of : (b : ℕ) → ends_wide b ≡ true → (ends b ≡ true) × (1 ≤ count b) × (count b ≤ 8)
ends-wide_of b e = let (last, counts) = both e in let (h, k) = both counts in (last, leb-true _ _ h, leb-true _ _ k)

module _ (low g b : ℕ) (again on : Bool) where
  pub checked-refill : b ≡ refill → low ≡ 0 → checked low g b again on ≡ again
  checked-refill e z = rw (eq-eqb b 0 e, eq-eqb low 0 z)

  pub checked_fit : (b ≡ refill → ⊥) → fits low g b ≡ true → checked low g b again on ≡ on
  checked_fit e f = rw (ne_eqb b 0 e, f)

module _ (last : Bool) (n : ℕ) (on : Bool) where
  pub closed_on : last ≡ true → (n ≡ 0 → ⊥) → closed last n on ≡ on
  closed_on e z = let h : 0 < n = omega arith in rw (e, lt-ltb 0 n h)

module _ (g n b : ℕ) (s : List ℕ) where
  pub at_on_end : (b ≡ wide → ⊥) → at_on g n b s ≡ closed (ends b) n (at_field 0 (g - count b) (n - 1) s)
  at_on_end e = rw (ne_eqb b wide e)

-- ---- what a step that passes says

-- a step that passes is a refill that may be there, or a take that fits
pub data Passed (low g b : ℕ) (again on : Bool) : Type 0 where
  filled : b ≡ refill → low ≡ 0 → again ≡ true → Passed low g b again on
  took : low ≤ count b → count b ≤ g → on ≡ true → Passed low g b again on

pub passed : (low g b : ℕ) (again on : Bool) → checked low g b again on ≡ true → Passed low g b again on
passed low g b again on e =
    by_test (eqb b refill)
    (λ p. let (z, x) = both (rw p at e) in filled (eqb-true _ _ p) (eqb-true _ _ z) x)
    (λ p. let (f, y) = both (rw p at e) in let (h, k) = fits_of low g b f in took h k y)

pub closed_of : (last : Bool) (n : ℕ) (on : Bool) → closed last n on ≡ true → (last ≡ true) × (0 < n) × (on ≡ true)
closed_of last n on e = let (l, x) = both e in let (h, y) = both x in (l, ltb-true _ _ h, y)

-- ---- at an index

module _ (low g n : ℕ) (s : List ℕ) (i : ℕ) where
  pub at_end : i ≡ length s → at_field low g n (drop i s) ≡ eqb low 0
  unfolding at_field
  at_end e = rw (e, drop-length)

  pub wide_end : i ≡ length s → in_wide low g n (drop i s) ≡ false
  unfolding at_field
  wide_end e = rw (e, drop-length)

  pub at_index : i < length s → at_field low g n (drop i s) ≡ checked low g (get_or s i 0) (at_field (g + 1) 56 n (drop (i + 1) s)) (at_on g n (get_or s i 0) (drop (i + 1) s))
  unfolding at_field
  at_index h = rw (drop-cons s i 0 h, add-one g, add-one i)

  pub wide_index : i < length s → in_wide low g n (drop i s) ≡ checked low g (get_or s i 0) (in_wide (g + 1) 56 n (drop (i + 1) s)) (wide_on g n (get_or s i 0) (drop (i + 1) s))
  unfolding at_field
  wide_index h = rw (drop-cons s i 0 h, add-one g, add-one i)
