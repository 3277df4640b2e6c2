-- What a runner of steps goes by: never short, whole fields, and how much the steps take.
use Rattle.std.specs.Prelude.{ℕ, ◌+◌, ◌-◌, Bool, true, cond, ◌&&◌, List, [], ◌∷◌, eqb, leb}
use Rattle.layout.specs.Plan.{count, refill, ends}

-- no take is of more than is known, g at first and 56 after a refill
unfoldable pub enough : ℕ → List ℕ → Bool
enough g [] = true
enough g (b ∷ s) = cond (eqb b refill) (enough 56 s) (leb (count b) g && enough (g - count b) s)

-- no field has over 64 bits, a being taken of the first already, nor over 56 before its last step, and none is left open
unfoldable pub whole : ℕ → List ℕ → Bool
whole a [] = eqb a 0
whole a (b ∷ s) = cond (ends b) (leb (a + count b) 64 && whole 0 s) (leb (a + count b) 56 && whole (a + count b) s)

-- how many bits steps take
unfoldable pub total : List ℕ → ℕ
total [] = 0
total (b ∷ s) = count b + total s

-- 1 for a step that is the last of a field
abbrev pub one : ℕ → ℕ
one b = cond (ends b) 1 0

-- how many fields they end
unfoldable pub ended : List ℕ → ℕ
ended [] = 0
ended (b ∷ s) = one b + ended s
