-- The steps of a plan never fall short, and its fields are whole.
use Prim.Native.Nat.{ℕ, suc, ◌+◌, ◌-◌, ◌≤◌}
use mathlib.Core.Path.{◌≡◌, refl}
use mathlib.Core.Bool.{true, false}
use mathlib.Core.List.{List, [], ◌∷◌}
use native.Mathlib.Nat.{add-zero}
use native.Mathlib.Omega.{arith}
use lib.Dec.{eqb, leb}
use borrow.Author.Tests.{leb-true, eqb-true, le-leb, eq-eqb, ne_eqb}
use Rattle.layout.specs.Plan.{count, refill, wide, ends}
use Rattle.layout.specs.Check.{ends_wide, at_field, in_wide, is_plan}
use Rattle.layout.specs.Take.{at_on, wide_on}
use Rattle.layout.specs.Steps.{enough, whole}
use Rattle.layout.proofs.DecodeLaws.{ends_of}
use Rattle.layout.proofs.CheckLaws.{Passed, passed, filled, took, closed_of, ends-wide_of}
use Rattle.bits.proofs.TestLaws.{both, both_true, by_test}

-- ---- never short

module _ (g b : ℕ) (s : List ℕ) where
  take-enough : (b ≡ refill → ⊥) → count b ≤ g → enough (g - count b) s ≡ true → enough g (b ∷ s) ≡ true
  unfolding enough
  take-enough h k e = rw (ne_eqb b 0 h) (both_true (le-leb _ _ k) e)

  refill-enough : b ≡ refill → enough 56 s ≡ true → enough g (b ∷ s) ≡ true
  unfolding enough
  refill-enough h e = rw (eq-eqb b 0 h) e

-- more is enough too
pub enough-more : (l : List ℕ) (g h : ℕ) → g ≤ h → enough g l ≡ true → enough h l ≡ true
unfolding enough
enough-more [] g h k e = refl
enough-more (b ∷ s) g h k e =
    by_test (eqb b refill)
    (λ p. rw p (rw p at e))
    (λ p.
    let (known, rest) = both {a = leb (count b) g} (rw p at e) in
    let m : count b ≤ g = leb-true _ _ known in
    let n : count b ≤ h = omega arith in
    rw p (both_true (le-leb _ _ n) (enough-more s (g - count b) (h - count b) (omega arith) rest)))

-- ---- whole fields

module _ (a b : ℕ) (s : List ℕ) where
  pub whole_take : ends b ≡ true → whole a (b ∷ s) ≡ true → (a + count b ≤ 64) × (whole 0 s ≡ true)
  unfolding whole
  whole_take h e = let (short, rest) = both {a = leb (a + count b) 64} (rw h at e) in (leb-true _ _ short, rest)

  pub whole_on : ends b ≡ false → whole a (b ∷ s) ≡ true → (a + count b ≤ 56) × (whole (a + count b) s ≡ true)
  unfolding whole
  whole_on h e = let (short, rest) = both {a = leb (a + count b) 56} (rw h at e) in (leb-true _ _ short, rest)

  take_whole : ends b ≡ true → a + count b ≤ 64 → whole 0 s ≡ true → whole a (b ∷ s) ≡ true
  unfolding whole
  take_whole h k e = rw h (both_true (le-leb _ _ k) e)

pub whole_end : (a : ℕ) → whole a [] ≡ true → a ≡ 0
unfolding whole
whole_end a e = eqb-true a 0 e

refill-whole : (a : ℕ) (s : List ℕ) → a ≤ 56 → whole a s ≡ true → whole a (refill ∷ s) ≡ true
unfolding whole
refill-whole a s k e = rw (add-zero a) (both_true (le-leb _ _ k) e)

wide-whole : (s : List ℕ) → whole 56 s ≡ true → whole 0 (wide ∷ s) ≡ true
unfolding whole
wide-whole s e = e

-- ---- of a plan

-- steps that pass the check are both, at a field and inside a wide field
record Sound (s : List ℕ) : Type 0 where
  at : (low g n : ℕ) → at_field low g n s ≡ true → (enough g s ≡ true) × (whole 0 s ≡ true)
  inside : (low g n : ℕ) → in_wide low g n s ≡ true → (enough g s ≡ true) × (whole 56 s ≡ true)

module _ (b : ℕ) (s : List ℕ) (ih : Sound s) where
  refill_sound : (g a : ℕ) → a ≤ 56 → b ≡ refill → (enough 56 s ≡ true) × (whole a s ≡ true) → (enough g (b ∷ s) ≡ true) × (whole a (b ∷ s) ≡ true)
  refill_sound g a k e (x, y) = (refill-enough g b s e x, rw e (refill-whole a s k y))

  end_sound : (g n a : ℕ) → count b ≤ g → a + count b ≤ 64 → ends b ≡ true → at_field 0 (g - count b) (n - 1) s ≡ true → (enough g (b ∷ s) ≡ true) × (whole a (b ∷ s) ≡ true)
  end_sound g n a h k e next =
      let (x, y) = ih.at 0 (g - count b) (n - 1) next in
      let (one, two) = ends_of b e in
      (take-enough g b s (λ z. omega arith) h x, take_whole a b s e k y)

  at_sound : (low g n : ℕ) → Passed low g b (at_field (suc g) 56 n s) (at_on g n b s) → (enough g (b ∷ s) ≡ true) × (whole 0 (b ∷ s) ≡ true)
  at_sound low g n (filled e z next) = refill_sound g 0 (omega arith) e (ih.at (suc g) 56 n next)
  at_sound low g n (took h k e) =
      by_test (eqb b wide)
      (λ p.
      let w : b ≡ wide = eqb-true b wide p in
      let (x, y) = ih.inside 0 (g - 56) n (rw p at e) in
      rw w (take-enough g wide s (λ z. omega arith) (omega arith) x, wide-whole s y))
      (λ p. let (last, few, next) = closed_of (ends b) n _ (rw p at e) in end_sound g n 0 k (omega arith) last next)

  wide_sound : (low g n : ℕ) → Passed low g b (in_wide (suc g) 56 n s) (wide_on g n b s) → (enough g (b ∷ s) ≡ true) × (whole 56 (b ∷ s) ≡ true)
  wide_sound low g n (filled e z next) = refill_sound g 56 (omega arith) e (ih.inside (suc g) 56 n next)
  wide_sound low g n (took h k e) =
      let (last, few, next) = closed_of (ends_wide b) n _ e in
      let (end, one, eight) = ends-wide_of b last in
      end_sound g n 56 k (omega arith) end next

sound : (s : List ℕ) → Sound s
unfolding at_field enough whole
sound [] = record { at = λ low g n e. (refl, refl); inside = λ low g n e. (refl, e) }
sound (b ∷ s) =
    record {
      at = λ low g n e. at_sound b s (sound s) low g n (passed low g b _ (at_on g n b s) e);
      inside = λ low g n e. wide_sound b s (sound s) low g n (passed low g b _ (wide_on g n b s) e);
    }

pub plan_enough : (p : List ℕ) → is_plan p ≡ true → enough 0 p ≡ true
plan_enough p e = ((sound p).at 0 0 64 e).0

pub plan_whole : (p : List ℕ) → is_plan p ≡ true → whole 0 p ≡ true
plan_whole p e = ((sound p).at 0 0 64 e).1
