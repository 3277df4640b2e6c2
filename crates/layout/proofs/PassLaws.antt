-- What passes the check is what its fields compile to.
use Prim.Native.Nat.{ℕ, suc, ◌+◌, ◌-◌, ◌*◌, ◌<◌, ◌≤◌}
use mathlib.Core.Path.{◌≡◌, refl, ap, ◌∙◌}
use mathlib.Core.Bool.{true}
use mathlib.Core.List.{List, [], ◌∷◌, ◌++◌}
use native.Mathlib.Omega.{arith}
use lib.ListN.{length}
use lib.Dec.{eqb}
use borrow.Author.Tests.{eqb-true, lt-ltb, le-ltb, le-leb, lt-leb}
use Rattle.layout.specs.Layout.{item, good_items}
use Rattle.layout.specs.Plan.{code, count, refill, wide, takes, refilled, compile, ends, decode}
use Rattle.layout.specs.Check.{ends_wide, at_field, in_wide}
use Rattle.layout.specs.Take.{at_on, wide_on}
use Rattle.layout.proofs.LayoutLaws.{good_cons}
use Rattle.layout.proofs.DecodeLaws.{ends_of, decode_end, decode-refill, decode-wide}
use Rattle.layout.proofs.CheckLaws.{Passed, passed, filled, took, closed_of, ends-wide_of}
use Rattle.bits.proofs.TestLaws.{by_test}

-- where the check stands: with no refill before it, or after one, g bits being known before that and k now
data Stand : ℕ → ℕ → ℕ → List ℕ → Type 0 where
  plain : {g : ℕ} → Stand 0 g g []
  after : {g : ℕ} → Stand (suc g) g 56 (refill ∷ [])

-- the steps l, a bits of their first field being taken already, are at most n good fields: their takes are `first` and then ts, and ts compiles,
-- from g known bits on, to `pre` and then l
record Rest (a : ℕ) (first : List ℕ) (g n : ℕ) (pre l : List ℕ) : Type 0 where
  ts : List ℕ
  shape : takes (decode a l) ≡ first ++ ts
  is : refilled g ts ≡ pre ++ l
  good : good_items (decode a l) ≡ true
  few : length (decode a l) ≤ n

-- ---- one step

-- a refill stands before the steps
refill-rest : {a g n : ℕ} {first s : List ℕ} → Rest a first g n (refill ∷ []) s → Rest a first g n [] (refill ∷ s)
refill-rest {a} {s = s} r =
    record {
      ts = r.ts;
      shape = rw (decode-refill a s) r.shape;
      is = r.is;
      good = rw (decode-refill a s) r.good;
      few = rw (decode-refill a s) r.few;
    }

-- a take that fits is compiled with the refill before it, or without
take_stands : {low g k : ℕ} {pre : List ℕ} → Stand low g k pre → (b : ℕ) → low ≤ count b → count b ≤ k → (ts : List ℕ) → refilled g (b ∷ ts) ≡ pre ++ (b ∷ refilled (k - count b) ts)
unfolding refilled
take_stands (plain {g = g}) b h j ts = rw (le-ltb g (count b) j)
take_stands (after {g = g}) b h j ts = rw (lt-ltb g (count b) h)

module _ {low g k : ℕ} {pre : List ℕ} (st : Stand low g k pre) (n : ℕ) (s : List ℕ) where
  -- the first part of a wide field
  wide-rest : low ≤ 56 → 56 ≤ k → k - 56 ≡ 0 → Rest 56 (wide ∷ []) 0 n [] s → Rest 0 [] g n pre (wide ∷ s)
  wide-rest h j z r =
      record {
        ts = wide ∷ r.ts;
        shape = rw (decode-wide s) r.shape;
        is = take_stands st wide h j r.ts ∙ rw (z, r.is);
        good = rw (decode-wide s) r.good;
        few = rw (decode-wide s) r.few;
      }

  -- the last step of a field, a bits of it being taken already
  end_rest :
      (b a : ℕ) (first : List ℕ) →
      low ≤ count b →
      count b ≤ k →
      ends b ≡ true →
      a + count b ≤ 64 →
      0 < n →
      takes (decode a (b ∷ s)) ≡ first ++ (b ∷ takes (decode 0 s)) →
      Rest 0 [] (k - count b) (n - 1) [] s →
      Rest a first g n pre (b ∷ s)
  end_rest b a first h j e w p shape r =
      let (one, two) = ends_of b e in
      record {
        ts = b ∷ takes (decode 0 s);
        shape = shape;
        is = take_stands st b h j (takes (decode 0 s)) ∙ rw (r.shape, r.is);
        good = rw (decode_end a b s e) (good_cons (item (code b - 1) (a + count b)) (decode 0 s) (omega arith) w r.good);
        few = rw (decode_end a b s e) (omega (arith, r.few));
      }

-- the take of a field, and the second of a wide one
module _ (b : ℕ) (s : List ℕ) (e : ends b ≡ true) where
  takes_end : count b ≤ 56 → takes (decode 0 (b ∷ s)) ≡ b ∷ takes (decode 0 s)
  unfolding takes
  takes_end h =
      let (one, two) = ends_of b e in
      let narrow : 0 + count b ≤ 56 = omega arith in
      let same : 64 * suc (code b - 1) + (0 + count b) ≡ b = omega arith in
      rw (decode_end 0 b s e, le-leb (0 + count b) 56 narrow, same)

  takes_end_wide : 1 ≤ count b → takes (decode 56 (b ∷ s)) ≡ wide ∷ b ∷ takes (decode 0 s)
  unfolding takes
  takes_end_wide h =
      let (one, two) = ends_of b e in
      let broad : 56 < 56 + count b = omega arith in
      let same : 64 * suc (code b - 1) + (56 + count b - 56) ≡ b = omega arith in
      rw (decode_end 56 b s e, lt-leb (56 + count b) 56 broad, same)

-- ---- all of them

record Passing (s : List ℕ) : Type 0 where
  at : {low g k : ℕ} {pre : List ℕ} → Stand low g k pre → g ≤ 56 → (n : ℕ) → at_field low k n s ≡ true → Rest 0 [] g n pre s
  inside : {low k : ℕ} {pre : List ℕ} → Stand low 0 k pre → (n : ℕ) → in_wide low k n s ≡ true → Rest 56 (wide ∷ []) 0 n pre s

stands_le : {low g k : ℕ} {pre : List ℕ} → Stand low g k pre → g ≤ 56 → k ≤ 56
stands_le plain h = h
stands_le after h = omega arith

module _ (b : ℕ) (s : List ℕ) (ih : Passing s) where
  at_took : {low g k : ℕ} {pre : List ℕ} → Stand low g k pre → g ≤ 56 → (n : ℕ) → low ≤ count b → count b ≤ k → at_on k n b s ≡ true → Rest 0 [] g n pre (b ∷ s)
  at_took {k = k} st l n h j e =
      let m = stands_le st l in
      by_test (eqb b wide)
      (λ p.
      let w : b ≡ wide = eqb-true b wide p in
      let z : k - 56 ≡ 0 = omega arith in
      rw w (wide-rest st n s (omega arith) (omega arith) z (ih.inside plain n (rw z at (rw p at e)))))
      (λ p.
      let (last, few, next) = closed_of (ends b) n _ (rw p at e) in
      end_rest st n s b 0 [] h j last (omega arith) few (takes_end b s last (omega arith)) (ih.at plain (omega arith) (n - 1) next))

  at_passed : {low g k : ℕ} {pre : List ℕ} → Stand low g k pre → g ≤ 56 → (n : ℕ) → Passed low k b (at_field (suc k) 56 n s) (at_on k n b s) → Rest 0 [] g n pre (b ∷ s)
  at_passed plain l n (filled e z next) = rw e (refill-rest (ih.at after l n next))
  at_passed after l n (filled e z next) = absurd (omega arith)
  at_passed st l n (took h j next) = at_took st l n h j next

  wide_passed : {low k : ℕ} {pre : List ℕ} → Stand low 0 k pre → (n : ℕ) → Passed low k b (in_wide (suc k) 56 n s) (wide_on k n b s) → Rest 56 (wide ∷ []) 0 n pre (b ∷ s)
  wide_passed plain n (filled e z next) = rw e (refill-rest (ih.inside after n next))
  wide_passed after n (filled e z next) = absurd (omega arith)
  wide_passed st n (took h j e) =
      let (last, few, next) = closed_of (ends_wide b) n _ e in
      let (end, one, eight) = ends-wide_of b last in
      let m = stands_le st (omega arith) in
      end_rest st n s b 56 (wide ∷ []) h j end (omega arith) few (takes_end_wide b s end one) (ih.at plain (omega arith) (n - 1) next)

passing_nil : Passing []
unfolding at_field takes refilled decode good_items
passing_nil =
    record {
      at = λ st l n e. none st n e;
      inside = λ st n e. let z : ◌≡◌ {A = ℕ} 0 1 = cc in absurd (omega arith);
    }
  where
    none : {low g k : ℕ} {pre : List ℕ} → Stand low g k pre → (n : ℕ) → eqb low 0 ≡ true → Rest 0 [] g n pre []
    none plain n e = record { ts = []; shape = refl; is = refl; good = refl; few = omega arith }
    none (after {g = g}) n e = absurd (omega (arith, eqb-true (suc g) 0 e))

passing : (s : List ℕ) → Passing s
unfolding at_field
passing [] = passing_nil
passing (b ∷ s) =
    record {
      at = λ {low} {g} {k} {pre} st l n e. at_passed b s (passing s) st l n (passed low k b _ (at_on k n b s) e);
      inside = λ {low} {k} {pre} st n e. wide_passed b s (passing s) st n (passed low k b _ (wide_on k n b s) e);
    }

-- what passes with n fields allowed decodes to at most n good fields, which compile to it
pub passes_compiled : (n : ℕ) (p : List ℕ) → at_field 0 0 n p ≡ true → (length (decode 0 p) ≤ n) × (good_items (decode 0 p) ≡ true) × (compile (decode 0 p) ≡ p)
passes_compiled n p e = let r = (passing p).at plain (omega arith) n e in (r.few, r.good, ap (refilled 0) r.shape ∙ r.is)
