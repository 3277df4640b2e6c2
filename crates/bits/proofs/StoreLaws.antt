-- Laws of runs of stores.
use Prim.Native.Nat.{ℕ, suc, ◌+◌, ◌<◌, ◌≤◌}
use mathlib.Core.Path.{◌≡◌, refl, ap, ◌∙◌}
use mathlib.Core.Bool.{Bool, true, false}
use mathlib.Core.List.{List, [], ◌∷◌, ◌++◌}
use native.Mathlib.Nat.{add-zero, zero-add, add-suc, suc-add}
use native.Mathlib.Omega.{arith}
use lib.ListN.{length, set, take, drop, get_or, get_or-append}
use lib.Seq.{sets, set-set, set_comm, sets-eq, take-append_seam, drop-append_seam}
use lib.Dec.{eqb}
use borrow.Author.Tests.{eqb-true, eqb-false}

-- two runs, one behind the other, are one
pub sets-append : (xs ys l : List ℕ) (i : ℕ) → sets l i (xs ++ ys) ≡ sets (sets l i xs) (i + length xs) ys
sets-append [] ys l i = rw add-zero
sets-append (x ∷ xs) ys l i = sets-append xs ys (set l i x) (suc i) ∙ rw (suc-add i (length xs), add-suc i (length xs))

-- ---- a run at a list's front: it stands there, and behind it the list is as it was

module _ (xs l : List ℕ) (h : length xs ≤ length l) where
  pub front : sets l 0 xs ≡ xs ++ drop (length xs) l
  front = sets-eq xs l 0 (omega arith) ∙ ap (λ (n : ℕ). xs ++ drop n l) (zero-add (length xs))

  pub front_take : take (length xs) (sets l 0 xs) ≡ xs
  front_take = ap (take (length xs)) front ∙ take-append_seam xs _

  pub front_drop : drop (length xs) (sets l 0 xs) ≡ drop (length xs) l
  front_drop = ap (drop (length xs)) front ∙ drop-append_seam xs _

  pub front_at : (i : ℕ) → i < length xs → get_or (sets l 0 xs) i 0 ≡ get_or xs i 0
  front_at i k = ap (λ (r : List ℕ). get_or r i 0) front ∙ get_or-append xs _ 0 i k

-- ---- runs that overlap: what is stored over is gone, and runs that do not touch change places

-- one store under a run
under_one : (d s : List ℕ) (k at b : ℕ) → at ≤ k → k < at + length d → sets (set s k b) at d ≡ sets s at d
under_one [] s k at b h l = absurd (omega arith)
under_one (x ∷ d) s k at b h l = by (eqb k at) refl (λ g m. under_one d (set s at x) k (suc at) b g m)
  where
    by : (t : Bool) → eqb k at ≡ t → (suc at ≤ k → k < suc at + length d → sets (set (set s at x) k b) (suc at) d ≡ sets (set s at x) (suc at) d)
        → sets (set s k b) at (x ∷ d) ≡ sets s at (x ∷ d)
    by true p next = ap (λ (j : ℕ). sets (set (set s j b) at x) (suc at) d) (eqb-true k at p) ∙ ap (λ (t : List ℕ). sets t (suc at) d) (set-set s at b x)
    by false p next =
        let n : k ≡ at → ⊥ = eqb-false k at p in
        let g : suc at ≤ k = omega (arith, n) in
        let m : k < suc at + length d = omega arith in
        ap (λ (t : List ℕ). sets t (suc at) d) (set_comm s k at b x n) ∙ next g m

-- a run under a run
pub under : (xs d s : List ℕ) (k at : ℕ) → at ≤ k → k + length xs ≤ at + length d → sets (sets s k xs) at d ≡ sets s at d
under [] d s k at h l = refl
under (x ∷ xs) d s k at h l =
    let g : at ≤ suc k = omega arith in
    let m : suc k + length xs ≤ at + length d = omega arith in
    let o : k < at + length d = omega arith in
    under xs d (set s k x) (suc k) at g m ∙ under_one d s k at x h o

-- one store behind a run
past_one : (xs s : List ℕ) (k at b : ℕ) → at + length xs ≤ k → sets (set s k b) at xs ≡ set (sets s at xs) k b
past_one [] s k at b h = refl
past_one (x ∷ xs) s k at b h =
    let g : suc at + length xs ≤ k = omega arith in
    ap (λ (t : List ℕ). sets t (suc at) xs) (set_comm s k at b x (λ e. omega arith)) ∙ past_one xs (set s at x) k (suc at) b g

-- a run behind a run
pub past : (ys xs s : List ℕ) (k at : ℕ) → at + length xs ≤ k → sets (sets s k ys) at xs ≡ sets (sets s at xs) k ys
past [] xs s k at h = refl
past (y ∷ ys) xs s k at h =
    let g : at + length xs ≤ suc k = omega arith in
    past ys xs (set s k y) (suc k) at g ∙ ap (λ (t : List ℕ). sets t (suc k) ys) (past_one xs s k at y h)
