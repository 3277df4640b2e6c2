-- Laws of the first values of a function, and of a list that is being filled with them.
use mathlib.Core.Path.{◌≡◌, refl, sym, ap, ◌∙◌, subst}
use Prim.Native.Nat.{ℕ, zero, suc, ◌+◌, ◌<◌, ◌≤◌}
use native.Mathlib.Nat.{zero-add, suc-add, le_of_suc-le-suc}
use native.Mathlib.Omega.{arith}
use mathlib.Core.Bool.{Bool, true, false}
use lib.Dec.{ltb}
use borrow.Author.Tests.{ltb-true, ltb-false}
use mathlib.Core.List.{List, ◌∷◌, ◌++◌}
use lib.ListN.{length, get_or, set, length-set}
use lib.Seq.{get_or-set_same, get_or-set_other, ext_get_or}
use Rattle.octets.specs.Octets.{firsts}

pub length-firsts : (f : ℕ → ℕ) (n : ℕ) → length (firsts f n) ≡ n
unfolding firsts
length-firsts f zero = refl
length-firsts f (suc n) = ap suc (length-firsts (λ i. f (suc i)) n)

pub get_d_firsts : (f : ℕ → ℕ) (n i : ℕ) → i < n → get_or (firsts f n) i 0 ≡ f i
unfolding firsts
get_d_firsts f zero i h = absurd (omega arith)
get_d_firsts f (suc n) zero h = refl
get_d_firsts f (suc n) (suc i) h = get_d_firsts (λ i. f (suc i)) n i (le_of_suc-le-suc h)

-- a list of n values that are f's
pub firsts_is : (f : ℕ → ℕ) (n : ℕ) (l : List ℕ) → length l ≡ n → ((i : ℕ) → i < n → get_or l i 0 ≡ f i) → l ≡ firsts f n
firsts_is f n l e h =
    ext_get_or 0 l (firsts f n) (e ∙ sym (length-firsts f n))
    (λ i k. let m : i < n = subst (λ (n : ℕ). i < n) e k in h i m ∙ sym (get_d_firsts f n i m))

-- functions that are equal below n
pub firsts_same : (f g : ℕ → ℕ) (n : ℕ) → ((i : ℕ) → i < n → f i ≡ g i) → firsts f n ≡ firsts g n
firsts_same f g n h = firsts_is g n (firsts f n) (length-firsts f n) (λ i l. get_d_firsts f n i l ∙ h i l)

pub firsts_split : (f : ℕ → ℕ) (m n : ℕ) → firsts f (m + n) ≡ firsts f m ++ firsts (λ i. f (m + i)) n
unfolding firsts
firsts_split f zero n = simp zero-add
firsts_split f (suc m) n = simp suc-add (ap (λ (l : List ℕ). f 0 ∷ l) (firsts_split (λ i. f (suc i)) m n))

-- ---- a loop that fills a list of n values

-- the first i of them are f's
pub record Upto (f : ℕ → ℕ) (n : ℕ) (out : List ℕ) (i : ℕ) : Type 0 where
  pub sized : length out ≡ n
  pub same : (j : ℕ) → j < i → get_or out j 0 ≡ f j

pub upto_none : (f : ℕ → ℕ) (out : List ℕ) → Upto f (length out) out 0
upto_none f out =
    record {
      sized = refl;
      same = λ j h. absurd (omega arith);
    }

module _ {f : ℕ → ℕ} {n : ℕ} {out : List ℕ} {i : ℕ} (u : Upto f n out i) where
  -- one value more
  pub upto_next : (v : ℕ) → i < length out → v ≡ f i → Upto f n (set out i v) (i + 1)
  upto_next v h e =
      record {
        sized = length-set out i v ∙ u.sized;
        same = λ j l. at j l (ltb j i) refl;
      }
    where
      at : (j : ℕ) → j < i + 1 → (t : Bool) → ltb j i ≡ t → get_or (set out i v) j 0 ≡ f j
      at j l true q =
          let m : j < i = ltb-true j i q in
          get_or-set_other out i j v 0 (λ z. omega arith) ∙ u.same j m
      at j l false q =
          let m : i ≤ j = ltb-false j i q in
          let z : i ≡ j = omega arith in
          subst (λ (k : ℕ). get_or (set out i v) k 0 ≡ f k) z (get_or-set_same out i v 0 h ∙ e)

  -- the loop's end
  pub upto_all : length out ≤ i → out ≡ firsts f n
  upto_all h =
      firsts_is f n out u.sized (λ j l. let m : j < i = omega arith in u.same j m)
