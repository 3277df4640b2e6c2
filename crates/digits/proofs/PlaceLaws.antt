-- Laws of runs and parts at a place of a text.
use Prim.Native.Nat.{ℕ, ◌+◌, ◌-◌, ◌*◌, ◌<◌, ◌≤◌}
use mathlib.Core.Path.{◌≡◌, refl, sym, ap, ◌∙◌, subst}
use mathlib.Core.Bool.{Bool, true, false}
use mathlib.Core.List.{List, [], ◌∷◌}
use lib.ListN.{length, get_or, drop, length-append, length-drop, drop_of_length-le}
use lib.Seq.{drop-cons, drop-length, drop-append_seam, drop-drop, get_or-drop}
use lib.Dec.{eqb, ltb}
use native.Mathlib.Nat.{add-zero}
use native.Mathlib.Numerals.{add-one}
use native.Mathlib.Omega.{arith}
use borrow.Author.Tests.{ltb-true, ltb-false, le-leb, eq-eqb, ne_eqb}
use Rattle.digits.specs.declared.inner.Run.{Run}
use Rattle.digits.specs.Digits.{zero_digit, value_from, value_of}
use Rattle.digits.specs.Reading.{is_digit, run, after, starts, most, sat, Part, bad, closed, is_whole, run_at, Stands}
use Rattle.digits.proofs.RunLaws.{sat_from, run-after, run-first}

-- ---- a run, digit by digit

run-stop : (s : List ℕ) (i : ℕ) → i < length s → is_digit (get_or s i 0) ≡ false → run (drop i s) ≡ []
unfolding run
run-stop s i h e = ap run (drop-cons s i 0 h) ∙ rw e

run_end : (s : List ℕ) (i : ℕ) → i ≡ length s → run (drop i s) ≡ []
unfolding run
run_end s i e = ap (λ (n : ℕ). run (drop n s)) e ∙ ap run (drop-length s)

-- what is left of a run from place i on, behind a value, gives the whole run from `at` on
pub record Left (s : List ℕ) (at value i : ℕ) : Type 0 where
  pub within : i ≤ length s
  pub small : value ≤ most
  pub sum : sat (value_from value (run (drop i s))) ≡ sat (value_of (run (drop at s)))
  pub count : i + length (run (drop i s)) ≡ at + length (run (drop at s))

module _ (s : List ℕ) (at value i : ℕ) (l : Left s at value i) where
  pub left_next : {v : ℕ} → i < length s → is_digit (get_or s i 0) ≡ true → v ≡ sat (10 * value + (get_or s i 0 - zero_digit)) → Left s at v (i + 1)
  unfolding run value_from
  left_next {v} h e f =
      let r : run (drop i s) ≡ get_or s i 0 ∷ run (drop (i + 1) s) = ap run (drop-cons s i 0 h) ∙ rw (e, add-one) in
      let a : sat (value_from value (get_or s i 0 ∷ run (drop (i + 1) s))) ≡ sat (value_of (run (drop at s))) = rw r at l.sum in
      let n : i + length (get_or s i 0 ∷ run (drop (i + 1) s)) ≡ at + length (run (drop at s)) = rw r at l.count in
      record {
        within = omega arith;
        small = omega arith;
        sum = ap (λ (x : ℕ). sat (value_from x (run (drop (i + 1) s)))) f ∙ sat_from (run (drop (i + 1) s)) _ ∙ a;
        count = omega arith;
      }

  left_none : run (drop i s) ≡ [] → record { value = value; next = i } ≡ run_at s at
  unfolding value_from
  left_none e =
      let a : sat value ≡ sat (value_of (run (drop at s))) = rw e at l.sum in
      let n : i + length {A = ℕ} [] ≡ at + length (run (drop at s)) = rw e at l.count in
      let k = l.small in
      let p : value ≡ sat (value_of (run (drop at s))) = omega arith in
      let q : i ≡ at + length (run (drop at s)) = omega arith in
      λ j. record { value = p j; next = q j }

  -- the run ends at a byte that is no digit
  pub left_stop : i < length s → is_digit (get_or s i 0) ≡ false → record { value = value; next = i } ≡ run_at s at
  left_stop h e = left_none (run-stop s i h e)

  -- or at the text's end
  pub left_end : length s ≤ i → record { value = value; next = length s } ≡ run_at s at
  left_end h =
      let w = l.within in
      let e : i ≡ length s = omega arith in
      ap (λ (n : ℕ). record { value = value; next = n }) (sym e) ∙ left_none (run_end s i e)

-- ---- the byte at a place

module _ (s : List ℕ) (i c : ℕ) where
  starts_out : length s ≤ i → starts c (drop i s) ≡ false
  starts_out h = ap (starts c) (drop_of_length-le s h)

  pub starts-within : starts c (drop i s) ≡ true → i < length s
  starts-within e = by (ltb i (length s)) refl
    where
      by : (t : Bool) → ltb i (length s) ≡ t → i < length s
      by true f = ltb-true _ _ f
      by false f =
          let z : false ≡ true = sym (starts_out (ltb-false _ _ f)) ∙ e in
          let y : ◌≡◌ {A = ℕ} 0 1 = cc in
          omega arith

-- ---- a run at a place, and what it is part of

module _ (s : List ℕ) (at : ℕ) (r : Run) (h : at ≤ length s) (e : r ≡ run_at s at) where
  next_is : r.next ≡ at + length (run (drop at s))
  next_is = ap (λ (x : Run). x.next) e

  after_next : after (drop at s) ≡ drop r.next s
  after_next =
      sym (drop-append_seam (run (drop at s)) (after (drop at s)))
      ∙ ap (drop (length (run (drop at s)))) (sym (run-after (drop at s)))
      ∙ drop-drop (length (run (drop at s))) at s
      ∙ ap (λ (n : ℕ). drop n s) (sym next_is)

  pub next_low : at ≤ r.next
  next_low = let n = next_is in omega arith

  pub next_within : r.next ≤ length s
  next_within =
      let n = next_is in
      let f : length (drop at s) ≡ length (run (drop at s)) + length (after (drop at s)) = ap length (run-after (drop at s)) ∙ length-append (run (drop at s)) _ in
      let g = length-drop at s in
      omega arith

  pub count_is : length (run (drop at s)) ≡ r.next - at
  count_is = let n = next_is in omega arith

  -- the first digit
  lead_is : at < r.next → get_or (run (drop at s)) 0 0 ≡ get_or s at 0
  lead_is k =
      let n = next_is in
      run-first (drop at s) (omega arith) ∙ get_or-drop at s 0 0 ∙ ap (λ (i : ℕ). get_or s i 0) (add-zero at)

  -- ---- whether it is a whole part

  pub whole-zero : at < r.next → get_or s at 0 ≡ zero_digit → is_whole (run (drop at s)) ≡ eqb (r.next - at) 1
  whole-zero k z = rw (lead_is k, eq-eqb _ _ z, count_is)

  pub whole_other : at < r.next → (get_or s at 0 ≡ zero_digit → ⊥) → is_whole (run (drop at s)) ≡ true
  whole_other k z = let n = count_is in let m : 1 ≤ length (run (drop at s)) = omega arith in rw (lead_is k, ne_eqb _ _ z) (le-leb _ _ m)

  -- ---- the part that it is, closed by a byte

  stands_bad : (ok : Bool) (end : ℕ) → closed ok end (drop at s) ≡ bad → Stands s (record { value = most; count = 0; next = length s }) (closed ok end (drop at s))
  stands_bad ok end f =
      subst (λ (p : Part). Stands s (record { value = most; count = 0; next = length s }) p) (sym f)
      (record { value = refl; count = refl; rest = drop-length s; within = omega arith })

  pub stands_good : (ok : Bool) (end : ℕ) → ok ≡ true → starts end (drop r.next s) ≡ true
      → Stands s (record { value = r.value; count = r.next - at; next = r.next + 1 }) (closed ok end (drop at s))
  unfolding closed
  stands_good ok end f g =
      let n = next_is in
      let w = starts-within s r.next end g in
      rw (f, after_next, g)
      (record {
        value = ap (λ (x : Run). x.value) e;
        count = omega arith;
        rest = sym (drop-drop 1 r.next s);
        within = omega arith;
      })

  pub stands_open : (ok : Bool) (end : ℕ) → ok ≡ true → starts end (drop r.next s) ≡ false
      → Stands s (record { value = most; count = 0; next = length s }) (closed ok end (drop at s))
  unfolding closed
  stands_open ok end f g = stands_bad ok end (rw (f, after_next, g))

  pub stands_failed : (ok : Bool) (end : ℕ) → ok ≡ false → Stands s (record { value = most; count = 0; next = length s }) (closed ok end (drop at s))
  unfolding closed
  stands_failed ok end f = stands_bad ok end (rw f)
