-- Numbers spelled in digits.
use Rattle.std.specs.Prelude.{ℕ, zero, suc, ◌+◌, ◌/◌, ◌%◌, cond, List, [], ◌∷◌, ◌++◌, ltb}
use Rattle.digits.specs.Digits.{zero_digit, point, comma}

-- the last k digits of n
unfoldable pub digits_of : ℕ → ℕ → List ℕ
digits_of zero n = []
digits_of (suc k) n = digits_of k (n / 10) ++ (zero_digit + n % 10) ∷ []

-- how many digits n takes: one, and f more at most
unfoldable pub places_in : ℕ → ℕ → ℕ
places_in zero n = 1
places_in (suc f) n = cond (ltb n 10) 1 (suc (places_in f (n / 10)))

-- how many digits a number below 10 ^ 10 takes
abbrev pub places : ℕ → ℕ
places n = places_in 9 n

-- a number below 10 ^ 10 as a whole part
abbrev pub whole_of : ℕ → List ℕ
whole_of n = digits_of (places n) n

-- a whole part w, a point, the last k digits of v as its decimals, and a comma
unfoldable pub fixed_of : ℕ → ℕ → ℕ → List ℕ
fixed_of w v k = whole_of w ++ point ∷ (digits_of k v ++ comma ∷ [])
