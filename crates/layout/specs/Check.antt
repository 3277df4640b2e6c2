-- Which bytes are a plan: the check at a field, and inside a wide field.
use Rattle.std.specs.Prelude.{ℕ, suc, ◌-◌, Bool, false, cond, ◌&&◌, List, [], ◌∷◌, eqb, ltb, leb}
use Rattle.layout.specs.Plan.{count, refill, wide, ends}

-- a take of at least low bits and at most g
abbrev pub fits : ℕ → ℕ → ℕ → Bool
fits low g b = leb low (count b) && leb (count b) g

-- a take of the last 1 to 8 bits of a wide field
abbrev pub ends_wide : ℕ → Bool
ends_wide b = ends b && (leb 1 (count b) && leb (count b) 8)

-- whether steps go on as a plan does, g bits being known and n more fields allowed; low is 0, or after a refill what the next take has to reach
unfoldable mutual
  pub at_field : ℕ → ℕ → ℕ → List ℕ → Bool
  at_field low g n [] = eqb low 0
  at_field low g n (b ∷ s) =
      cond (eqb b refill) (eqb low 0 && at_field (suc g) 56 n s)
      (fits low g b && cond (eqb b wide) (in_wide 0 (g - 56) n s) (ends b && (ltb 0 n && at_field 0 (g - count b) (n - 1) s)))

  -- and inside a wide field
  pub in_wide : ℕ → ℕ → ℕ → List ℕ → Bool
  in_wide low g n [] = false
  in_wide low g n (b ∷ s) =
      cond (eqb b refill) (eqb low 0 && in_wide (suc g) 56 n s)
      (fits low g b && (ends_wide b && (ltb 0 n && at_field 0 (g - count b) (n - 1) s)))

-- whether bytes are a plan
abbrev pub is_plan : List ℕ → Bool
is_plan p = at_field 0 0 64 p
