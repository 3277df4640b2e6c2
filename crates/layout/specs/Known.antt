-- Compiling by pieces: what is known after some takes.
use Rattle.std.specs.Prelude.{ℕ, ◌-◌, cond, List, [], ◌∷◌, ltb}
use Rattle.layout.specs.Plan.{count}

-- the known lookahead after a take, from g before it
unfoldable pub after : ℕ → ℕ → ℕ
after g t = cond (ltb g (count t)) (56 - count t) (g - count t)

-- and after several
unfoldable pub known : ℕ → List ℕ → ℕ
known g [] = g
known g (t ∷ ts) = known (after g t) ts
