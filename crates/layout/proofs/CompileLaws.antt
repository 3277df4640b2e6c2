-- What a layout compiles to passes the check, and is short.
use Prim.Native.Nat.{ℕ, suc, ◌-◌, ◌*◌, ◌<◌, ◌≤◌}
use mathlib.Core.Path.{◌≡◌, refl, ◌∙◌}
use mathlib.Core.Bool.{Bool, true}
use mathlib.Core.List.{List, [], ◌∷◌}
use native.Mathlib.Omega.{arith}
use lib.ListN.{length}
use lib.Dec.{ltb, leb}
use borrow.Author.Tests.{ltb-true, ltb-false, leb-true, leb-false, le-leb}
use Rattle.layout.specs.Layout.{Item, good_items}
use Rattle.layout.specs.Plan.{count, refill, wide, last_take, takes, refilled, ends}
use Rattle.layout.specs.Check.{ends_wide, at_field, in_wide}
use Rattle.layout.specs.Take.{at_on, wide_on}
use Rattle.layout.proofs.LayoutLaws.{good_of}
use Rattle.layout.proofs.DecodeLaws.{ends-true}
use Rattle.layout.proofs.CheckLaws.{checked_fit, closed_on, at_on_end, fits-true, ends-wide-true}
use Rattle.bits.proofs.TestLaws.{by_test}

-- a check that lets a refill pass, and the take after it, lets the take pass as it is compiled
refilled_passes :
    (check : ℕ → ℕ → List ℕ → Bool) →
    ((g : ℕ) (s : List ℕ) → check 0 g (refill ∷ s) ≡ check (suc g) 56 s) →
    (b : ℕ) (ts : List ℕ) →
    count b ≤ 56 →
    ((low g : ℕ) → low ≤ count b → count b ≤ g → g ≤ 56 → check low g (b ∷ refilled (g - count b) ts) ≡ true) →
    (g : ℕ) →
    g ≤ 56 →
    check 0 g (refilled g (b ∷ ts)) ≡ true
unfolding refilled
refilled_passes check after b ts h passes g k =
    by_test (ltb g (count b))
    (λ e. rw e (after g _ ∙ passes (suc g) 56 (ltb-true _ _ e) h (omega arith)))
    (λ e. rw e (passes 0 g (omega arith) (ltb-false _ _ e) k))

-- ---- one step of a check

module _ (low g n b : ℕ) (s : List ℕ) (h : low ≤ count b) (k : count b ≤ g) (next : at_field 0 (g - count b) (n - 1) s ≡ true) where
  at_take : (b ≡ refill → ⊥) → (b ≡ wide → ⊥) → ends b ≡ true → 0 < n → at_field low g n (b ∷ s) ≡ true
  unfolding at_field
  at_take z w e p = checked_fit low g b _ (at_on g n b s) z (fits-true low g b h k) ∙ at_on_end g n b s w ∙ closed_on (ends b) n _ e (λ x. omega arith) ∙ next

  wide-take : (b ≡ refill → ⊥) → ends_wide b ≡ true → 0 < n → in_wide low g n (b ∷ s) ≡ true
  unfolding at_field
  wide-take z e p = checked_fit low g b _ (wide_on g n b s) z (fits-true low g b h k) ∙ closed_on (ends_wide b) n _ e (λ x. omega arith) ∙ next

at_wide : (low g n : ℕ) (s : List ℕ) → low ≤ 56 → 56 ≤ g → in_wide 0 (g - 56) n s ≡ true → at_field low g n (wide ∷ s) ≡ true
unfolding at_field
at_wide low g n s h k next = rw (le-leb low 56 h, le-leb 56 g k) next

at_refill : (n g : ℕ) (s : List ℕ) → at_field 0 g n (refill ∷ s) ≡ at_field (suc g) 56 n s
unfolding at_field
at_refill n g s = refl

wide-refill : (n g : ℕ) (s : List ℕ) → in_wide 0 g n (refill ∷ s) ≡ in_wide (suc g) 56 n s
unfolding at_field
wide-refill n g s = refl

at_nil : (g n : ℕ) → at_field 0 g n (refilled g []) ≡ true
unfolding at_field refilled
at_nil g n = refl

-- ---- the fields one after the other

module _ (f : Item) (n : ℕ) (kind : f.kind ≤ 1) (width : f.width ≤ 64) (allowed : 0 < n) (ts : List ℕ) (next : (g : ℕ) → g ≤ 56 → at_field 0 g (n - 1) (refilled g ts) ≡ true) where
  narrow_passes : f.width ≤ 56 → (g : ℕ) → g ≤ 56 → at_field 0 g n (refilled g (last_take f.kind f.width ∷ ts)) ≡ true
  narrow_passes h =
      let b = last_take f.kind f.width in
      refilled_passes (λ low g s. at_field low g n s) (at_refill n) b ts (omega arith)
      (λ low g i j k. at_take low g n b _ i j (next (g - count b) (omega arith)) (λ z. omega arith) (λ z. omega arith) (ends-true b (omega arith) (omega arith)) allowed)

  broad_passes : 56 < f.width → (g : ℕ) → g ≤ 56 → at_field 0 g n (refilled g (wide ∷ last_take f.kind (f.width - 56) ∷ ts)) ≡ true
  broad_passes h =
      let b = last_take f.kind (f.width - 56) in
      let last = ends-wide-true b (ends-true b (omega arith) (omega arith)) (omega arith) (omega arith) in
      let rest = refilled_passes (λ low g s. in_wide low g n s) (wide-refill n) b ts (omega arith) (λ low g i j k. wide-take low g n b _ i j (next (g - count b) (omega arith)) (λ z. omega arith) last allowed) in
      refilled_passes (λ low g s. at_field low g n s) (at_refill n) wide (b ∷ ts) (omega arith)
      (λ low g i j k. at_wide low g n _ i j (rest (g - 56) (omega arith)))

-- from g known bits on, with n fields allowed
pub passes_from : (fs : List Item) (g n : ℕ) → good_items fs ≡ true → length fs ≤ n → g ≤ 56 → at_field 0 g n (refilled g (takes fs)) ≡ true
unfolding takes
passes_from [] g n e l k = at_nil g n
passes_from (f ∷ fs) g n e l k =
    let (kind, width, good) = good_of f fs e in
    let next : (h : ℕ) → h ≤ 56 → at_field 0 h (n - 1) (refilled h (takes fs)) ≡ true = λ h. passes_from fs h (n - 1) good (omega arith) in
    by_test (leb f.width 56)
    (λ p. rw p (narrow_passes f n kind width (omega arith) (takes fs) next (leb-true _ _ p) g k))
    (λ p. rw p (broad_passes f n kind width (omega arith) (takes fs) next (leb-false _ _ p) g k))

-- ---- lengths

length-takes : (fs : List Item) → length (takes fs) ≤ 2 * length fs
unfolding takes
length-takes [] = omega arith
length-takes (f ∷ fs) = let i = length-takes fs in by_test (leb f.width 56) (λ p. rw p (omega arith)) (λ p. rw p (omega arith))

pub length-refilled : (g : ℕ) (ts : List ℕ) → length (refilled g ts) ≤ 2 * length ts
unfolding refilled
length-refilled g [] = omega arith
length-refilled g (t ∷ ts) =
    by_test (ltb g (count t))
    (λ e. rw e (omega (arith, length-refilled (56 - count t) ts)))
    (λ e. rw e (omega (arith, length-refilled (g - count t) ts)))

-- a field is at most four steps
pub length_compiled : (g : ℕ) (fs : List Item) → length (refilled g (takes fs)) ≤ 4 * length fs
length_compiled g fs = omega (arith, length-refilled g (takes fs), length-takes fs)
