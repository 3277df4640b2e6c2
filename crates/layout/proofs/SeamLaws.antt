-- Plans by pieces: the steps of one take, and of takes one after the other.
use Prim.Native.Nat.{ℕ, ◌-◌, ◌<◌, ◌≤◌}
use mathlib.Core.Path.{◌≡◌, refl}
use mathlib.Core.List.{List, [], ◌∷◌, ◌++◌}
use native.Mathlib.Omega.{arith}
use lib.Dec.{ltb, leb}
use borrow.Author.Tests.{lt-ltb, le-ltb}
use Rattle.layout.specs.Layout.{Item}
use Rattle.layout.specs.Plan.{count, refill, takes, refilled}
use Rattle.layout.specs.Known.{after, known}
use Rattle.bits.proofs.TestLaws.{by_test}

-- ---- one take

module _ (g t : ℕ) where
  -- a take of more than is known is preceded by a refill
  pub refilled_short : g < count t → refilled g (t ∷ []) ≡ refill ∷ t ∷ []
  unfolding refilled
  refilled_short h = rw (lt-ltb g (count t) h)

  pub after_short : g < count t → after g t ≡ 56 - count t
  unfolding after
  after_short h = rw (lt-ltb g (count t) h)

  -- and no other
  pub refilled-enough : count t ≤ g → refilled g (t ∷ []) ≡ t ∷ []
  unfolding refilled
  refilled-enough h = rw (le-ltb g (count t) h)

  pub after-enough : count t ≤ g → after g t ≡ g - count t
  unfolding after
  after-enough h = rw (le-ltb g (count t) h)

  pub after-le : g ≤ 56 → after g t ≤ 56
  unfolding after
  after-le h = by_test (ltb g (count t)) (λ e. rw e (omega arith)) (λ e. rw e (omega arith))

-- ---- several

-- at most 56 bits are known
pub known-le : (ts : List ℕ) (g : ℕ) → g ≤ 56 → known g ts ≤ 56
unfolding known
known-le [] g h = h
known-le (t ∷ ts) g h = known-le ts (after g t) (after-le g t h)

-- the takes of joined layouts
pub takes-append : (xs ys : List Item) → takes (xs ++ ys) ≡ takes xs ++ takes ys
unfolding takes
takes-append [] ys = refl
takes-append (f ∷ fs) ys = by_test (leb f.width 56) (λ e. rw (e, takes-append fs ys)) (λ e. rw (e, takes-append fs ys))

-- a plan goes on from what is known at the seam
pub refilled-append : (g : ℕ) (xs ys : List ℕ) → refilled g (xs ++ ys) ≡ refilled g xs ++ refilled (known g xs) ys
unfolding refilled known after
refilled-append g [] ys = refl
refilled-append g (t ∷ ts) ys =
    by_test (ltb g (count t)) (λ e. rw (e, refilled-append (56 - count t) ts ys)) (λ e. rw (e, refilled-append (g - count t) ts ys))

pub known-append : (g : ℕ) (xs ys : List ℕ) → known g (xs ++ ys) ≡ known (known g xs) ys
unfolding known
known-append g [] ys = refl
known-append g (t ∷ ts) ys = known-append (after g t) ts ys
