-- Laws of a take with its refill, the same at a field and inside a wide field.
use Prim.Native.Nat.{ℕ, ◌+◌, ◌-◌, ◌<◌, ◌≤◌}
use mathlib.Core.Path.{◌≡◌, refl, ◌∙◌}
use mathlib.Core.Bool.{Bool, true, cond, ◌&&◌}
use mathlib.Core.List.{List, ◌∷◌}
use native.Mathlib.Nat.{zero-add}
use native.Mathlib.Numerals.{add-one}
use native.Mathlib.Omega.{arith}
use lib.ListN.{length, drop, get_or}
use lib.Dec.{eqb, leb}
use lib.Seq.{drop-cons}
use borrow.Author.Tests.{eqb-true, ne_eqb, le-leb, lt-leb}
use Rattle.std.specs.Prelude.{Option, Some, None, MatchOption}
use Rattle.layout.specs.declared.inner.check.Take.{Take}
use Rattle.layout.specs.Layout.{item}
use Rattle.layout.specs.Plan.{code, count, refill, wide, ends, decode}
use Rattle.layout.specs.Check.{fits, at_field, in_wide}
use Rattle.layout.specs.Take.{checked, at_on, wide_on, at_left, wide_left, TakenAt, NoneAt, Ready}
use Rattle.layout.proofs.DecodeLaws.{ends_of, decode_end, decode-refill}
use Rattle.layout.proofs.CheckLaws.{checked-refill, at_on_end, closed_on, at_index, at_end, wide_index, wide_end}
use Rattle.bits.proofs.TestLaws.{by_test}

-- the take b where it fits, behind which step `next` comes
abbrev pub take_of : ℕ → ℕ → ℕ → ℕ → Option Take
take_of next low g b = cond (fits low g b) (Some (record { next = next; step = b; left = g - count b })) None

-- a step that is no refill, or comes right behind one, passes as a take that fits
module _ (low g b : ℕ) (again on : Bool) where
  take_plain : (b ≡ refill → ⊥) → checked low g b again on ≡ (fits low g b && on)
  take_plain z = rw (ne_eqb b 0 z)

  take_late : 0 < low → checked low g b again on ≡ (fits low g b && on)
  take_late h =
      by_test (eqb b refill)
      (λ p.
      let z : b ≡ 0 = eqb-true _ _ p in
      let l : count b < low = omega arith in
      rw (p, ne_eqb low 0 (λ x. omega arith), lt-leb low (count b) l))
      (λ p. rw p)

-- ---- the take at a step

-- a take that fits leaves what a step gives
module _ (low g n b : ℕ) (s : List ℕ) (f : fits low g b ≡ true) where
  at_fit : (fits low g b && at_on g n b s) ≡ at_left (g - count b) n b s
  at_fit = rw f (by_test (eqb b wide) (λ w. let e : b ≡ wide = eqb-true _ _ w in let c : count b ≡ 56 = omega arith in rw c) (λ w. rw w))

  wide_fit : (fits low g b && wide_on g n b s) ≡ wide_left (g - count b) n b s
  wide_fit = rw f

-- both checks at step i go on as a take at step k does, of at least low bits and at most h
record Goes (p : List ℕ) (i g k low h : ℕ) : Type 0 where
  known : h ≤ 56
  at : (n : ℕ) → at_field 0 g n (drop i p) ≡ (fits low h (get_or p k 0) && at_on h n (get_or p k 0) (drop (k + 1) p))
  inside : (n : ℕ) → in_wide 0 g n (drop i p) ≡ (fits low h (get_or p k 0) && wide_on h n (get_or p k 0) (drop (k + 1) p))

module _ {p : List ℕ} {i g k low h : ℕ} (goes : Goes p i g k low h) (ahead : i ≤ k) (there : k < length p) where
  taken_of : {next : ℕ} → next ≡ k + 1 → MatchOption (take_of next low h (get_or p k 0)) (NoneAt p i g) (TakenAt p i g)
  taken_of {next = next} e =
      let b = get_or p k 0 in
      by_test (fits low h b)
      (λ f.
      rw f (record {
        ahead = omega arith;
        there = omega arith;
        known = omega (arith, goes.known);
        at = λ n. rw e (goes.at n ∙ at_fit low h n b (drop (k + 1) p) f);
        inside = λ n. rw e (goes.inside n ∙ wide_fit low h n b (drop (k + 1) p) f);
      }))
      (λ f. rw f (record { at = λ n. goes.at n ∙ rw f; inside = λ n. goes.inside n ∙ rw f }))

module _ (p : List ℕ) (i g : ℕ) (h : i < length p) (few : g ≤ 56) where
  pub taken_plain : (get_or p i 0 ≡ refill → ⊥) → MatchOption (take_of (i + 1) 0 g (get_or p i 0)) (NoneAt p i g) (TakenAt p i g)
  taken_plain z =
      let goes : Goes p i g i 0 g = record {
        known = few;
        at = λ n. at_index 0 g n p i h ∙ take_plain 0 g _ _ _ z;
        inside = λ n. wide_index 0 g n p i h ∙ take_plain 0 g _ _ _ z;
      } in
      taken_of goes (omega arith) h refl

  module _ (z : get_or p i 0 ≡ refill) where
    pub taken_late : i + 1 < length p → MatchOption (take_of (i + 2) (g + 1) 56 (get_or p (i + 1) 0)) (NoneAt p i g) (TakenAt p i g)
    taken_late k =
        let goes : Goes p i g (i + 1) (g + 1) 56 = record {
          known = omega arith;
          at = λ n. at_index 0 g n p i h ∙ checked-refill _ _ _ _ _ z refl ∙ at_index (g + 1) 56 n p (i + 1) k ∙ take_late (g + 1) 56 _ _ _ (omega arith);
          inside = λ n. wide_index 0 g n p i h ∙ checked-refill _ _ _ _ _ z refl ∙ wide_index (g + 1) 56 n p (i + 1) k ∙ take_late (g + 1) 56 _ _ _ (omega arith);
        } in
        taken_of goes (omega arith) k (omega arith)

    pub taken_none : length p ≤ i + 1 → NoneAt p i g
    taken_none k =
        let e : i + 1 ≡ length p = omega arith in
        record {
          at = λ n. at_index 0 g n p i h ∙ checked-refill _ _ _ _ _ z refl ∙ at_end (g + 1) 56 n p (i + 1) e ∙ ne_eqb (g + 1) 0 (λ x. omega arith);
          inside = λ n. wide_index 0 g n p i h ∙ checked-refill _ _ _ _ _ z refl ∙ wide_end (g + 1) 56 n p (i + 1) e;
        }

-- ---- a take that is ready

-- a take that reaches low fits if it is of at most g bits
reaches : (low g b : ℕ) (on : Bool) → low ≤ count b → (fits low g b && on) ≡ (leb (count b) g && on)
reaches low g b on h = rw (le-leb low (count b) h)

module _ (p : List ℕ) (i g : ℕ) (h : i < length p) where
  pub ready_plain : g ≤ 56 → (get_or p i 0 ≡ refill → ⊥) → Ready p i g i g
  ready_plain few z =
      record {
        there = h;
        ahead = omega arith;
        known = few;
        goes = λ n. at_index 0 g n p i h ∙ take_plain 0 g _ _ _ z ∙ reaches 0 g (get_or p i 0) _ (omega arith);
        same = refl;
      }

  pub ready_late : get_or p i 0 ≡ refill → i + 1 < length p → g < count (get_or p (i + 1) 0) → Ready p i g (i + 1) 56
  ready_late z k l =
      record {
        there = k;
        ahead = omega arith;
        known = omega arith;
        goes =
            λ n.
            at_index 0 g n p i h ∙ checked-refill _ _ _ _ _ z refl ∙ at_index (g + 1) 56 n p (i + 1) k ∙ take_late (g + 1) 56 _ _ _ (omega arith)
            ∙ reaches (g + 1) 56 (get_or p (i + 1) 0) _ (omega arith);
        same = rw (drop-cons p i 0 h, z) (decode-refill 0 _ ∙ rw add-one);
      }

module _ {p : List ℕ} {i g k h : ℕ} (ready : Ready p i g k h) (e : ends (get_or p k 0) ≡ true) where
  -- a take that fits and ends a field goes on at the next
  pub ready_next : (n : ℕ) → count (get_or p k 0) ≤ h → (n ≡ 0 → ⊥) → at_field 0 g n (drop i p) ≡ at_field 0 (h - count (get_or p k 0)) (n - 1) (drop (k + 1) p)
  ready_next n fit z =
      let (one, two) = ends_of (get_or p k 0) e in
      ready.goes n ∙ rw (le-leb _ _ fit) (at_on_end h n (get_or p k 0) (drop (k + 1) p) (λ w. omega arith) ∙ closed_on _ _ _ e z)

  -- and the field is of its kind and count
  pub ready_field : decode 0 (drop i p) ≡ item (code (get_or p k 0) - 1) (count (get_or p k 0)) ∷ decode 0 (drop (k + 1) p)
  ready_field =
      ready.same ∙ rw (drop-cons p k 0 ready.there) (decode_end 0 (get_or p k 0) _ e ∙ rw (zero-add, add-one))
