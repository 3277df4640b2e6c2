-- The date rule.
use Rattle.std.specs.Prelude.{ℕ, ◌+◌, ◌-◌, ◌*◌, ◌/◌, ◌^◌, ◌<◌, ◌≤◌}

-- the units in a day
abbrev pub day : ℕ
day = 100000

-- the units of w days and of d decimals, five or more, that spell v: n is the number that all digits spell together, e decimals stand behind
-- the fifth, and the nearest units are taken, halves upward
unfoldable pub units_of : ℕ → ℕ → ℕ → ℕ
units_of w v d =
    let e : ℕ = d - 5 in
    let n : ℕ = w * 10 ^ (5 + e) + v in
    (2 * n + 10 ^ e) / (2 * 10 ^ e)

-- what nearest means: u units of p each are at most half a unit above n, and less than half a unit below it
abbrev pub Nearest : ℕ → ℕ → ℕ → Type 0
Nearest n p u = (2 * p * u ≤ 2 * n + p) × (2 * n + p < 2 * p * (u + 1))
