-- The plan check one step at a time: what a step gives, and a step that takes its refill along.
use Rattle.std.specs.Prelude.{ℕ, ◌+◌, ◌-◌, ◌<◌, ◌≤◌, ◌≡◌, Bool, false, cond, ◌&&◌, List, length, get_or, drop, eqb, ltb, leb}
use Rattle.layout.specs.declared.inner.check.Take.{Take}
use Rattle.layout.specs.Plan.{count, refill, wide, ends, decode}
use Rattle.layout.specs.Check.{fits, ends_wide, at_field, in_wide}

-- a step b: `again` if it is a refill, `on` if it is a take that fits
abbrev pub checked : ℕ → ℕ → ℕ → Bool → Bool → Bool
checked low g b again on = cond (eqb b refill) (eqb low 0 && again) (fits low g b && on)

-- the last step of a field, if it is one and n fields more are allowed
abbrev pub closed : Bool → ℕ → Bool → Bool
closed last n on = last && (ltb 0 n && on)

-- the check at a field after a take b that fits
abbrev pub at_on : ℕ → ℕ → ℕ → List ℕ → Bool
at_on g n b s = cond (eqb b wide) (in_wide 0 (g - 56) n s) (closed (ends b) n (at_field 0 (g - count b) (n - 1) s))

-- and inside a wide field
abbrev pub wide_on : ℕ → ℕ → ℕ → List ℕ → Bool
wide_on g n b s = closed (ends_wide b) n (at_field 0 (g - count b) (n - 1) s)

-- the check at a field after a take b that leaves g bits
abbrev pub at_left : ℕ → ℕ → ℕ → List ℕ → Bool
at_left g n b s = cond (eqb b wide) (in_wide 0 g n s) (closed (ends b) n (at_field 0 g (n - 1) s))

-- and inside a wide field
abbrev pub wide_left : ℕ → ℕ → ℕ → List ℕ → Bool
wide_left g n b s = closed (ends_wide b) n (at_field 0 g (n - 1) s)

-- t is the take at step i of p: both checks go on behind it, and it is of the same field
pub record TakenAt (p : List ℕ) (i g : ℕ) (t : Take) : Type 0 where
  pub ahead : i < t.next
  pub there : t.next ≤ length p
  pub known : t.left ≤ 56
  pub at : (n : ℕ) → at_field 0 g n (drop i p) ≡ at_left t.left n t.step (drop t.next p)
  pub inside : (n : ℕ) → in_wide 0 g n (drop i p) ≡ wide_left t.left n t.step (drop t.next p)

-- there is no take at step i of p that fits: neither check goes on
pub record NoneAt (p : List ℕ) (i g : ℕ) : Type 0 where
  pub at : (n : ℕ) → at_field 0 g n (drop i p) ≡ false
  pub inside : (n : ℕ) → in_wide 0 g n (drop i p) ≡ false

-- the take at step k, with h bits known, decides what the check at step i gives, with g known: k is i, or behind a refill at i
pub record Ready (p : List ℕ) (i g k h : ℕ) : Type 0 where
  pub there : k < length p
  pub ahead : i ≤ k
  pub known : h ≤ 56
  pub goes : (n : ℕ) → at_field 0 g n (drop i p) ≡ (leb (count (get_or p k 0)) h && at_on h n (get_or p k 0) (drop (k + 1) p))
  pub same : decode 0 (drop i p) ≡ decode 0 (drop k p)
