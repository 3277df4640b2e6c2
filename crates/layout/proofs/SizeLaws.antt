-- How many bits steps take and how many fields they end: the size of the layout that they read.
use Prim.Native.Nat.{ℕ, ◌+◌, ◌*◌, ◌<◌, ◌≤◌}
use mathlib.Core.Path.{◌≡◌, refl, sym, ◌∙◌}
use mathlib.Core.Bool.{true}
use mathlib.Core.List.{List, [], ◌∷◌}
use native.Mathlib.Nat.{zero-add}
use native.Mathlib.Numerals.{add-one}
use native.Mathlib.Omega.{arith}
use lib.ListN.{length, drop, get_or}
use lib.Seq.{drop-cons, drop-length}
use Rattle.layout.specs.Layout.{bits_of}
use Rattle.layout.specs.Plan.{count, ends, decode}
use Rattle.layout.specs.Check.{is_plan}
use Rattle.layout.specs.Steps.{whole, total, one, ended}
use Rattle.layout.proofs.StepLaws.{whole_take, whole_on, whole_end, plan_whole}
use Rattle.bits.proofs.TestLaws.{by_test}

-- ---- against the layout

pub ended_is : (a : ℕ) (l : List ℕ) → length (decode a l) ≡ ended l
unfolding decode ended
ended_is a [] = refl
ended_is a (b ∷ s) =
    by_test (ends b) (λ p. rw p (omega (arith, ended_is 0 s))) (λ p. rw p (omega (arith, ended_is (a + count b) s)))

-- what is taken already counts
pub total_is : (a : ℕ) (l : List ℕ) → whole a l ≡ true → bits_of (decode a l) ≡ a + total l
unfolding decode bits_of total
total_is a [] e = let z = whole_end a e in omega arith
total_is a (b ∷ s) e =
    by_test (ends b)
    (λ p. rw p (omega (arith, total_is 0 s (whole_take a b s p e).1)))
    (λ p. rw p (omega (arith, total_is (a + count b) s (whole_on a b s p e).1)))

pub plan_ended : (p : List ℕ) → ended p ≡ length (decode 0 p)
plan_ended p = sym (ended_is 0 p)

pub plan_total : (p : List ℕ) → is_plan p ≡ true → total p ≡ bits_of (decode 0 p)
plan_total p e = sym (total_is 0 p (plan_whole p e) ∙ zero-add (total p))

-- ---- bounds

pub total-le : (l : List ℕ) → total l ≤ 63 * length l
unfolding total
total-le [] = omega arith
total-le (b ∷ s) = let i = total-le s in omega arith

pub ended-le : (l : List ℕ) → ended l ≤ length l
unfolding ended
ended-le [] = omega arith
ended-le (b ∷ s) = let i = ended-le s in by_test (ends b) (λ p. rw p (omega arith)) (λ p. rw p (omega arith))

-- ---- at an index

module _ (p : List ℕ) (i : ℕ) where
  pub total_at : i < length p → total (drop i p) ≡ count (get_or p i 0) + total (drop (i + 1) p)
  unfolding total
  total_at h = rw (drop-cons p i 0 h, add-one)

  pub ended_at : i < length p → ended (drop i p) ≡ one (get_or p i 0) + ended (drop (i + 1) p)
  unfolding ended
  ended_at h = rw (drop-cons p i 0 h, add-one)

  pub total_end : i ≡ length p → total (drop i p) ≡ 0
  unfolding total
  total_end e = rw (e, drop-length)

  pub ended_end : i ≡ length p → ended (drop i p) ≡ 0
  unfolding ended
  ended_end e = rw (e, drop-length)
