-- The rules under which a strip from another app is filed, over its records. Records and rules are counted from 1.
use Rattle.std.specs.Prelude.{ℕ, ◌-◌, ◌<◌, ◌≤◌, ◌≡◌, List, length, get_or}
use Rattle.record.specs.declared.Record.{Record}
use Rattle.record.specs.Record.{no_record}

-- record n
abbrev pub nth : List Record → ℕ → Record
nth rs n = get_or rs (n - 1) no_record

-- record n keeps rule r: (1) its date is not before the one above it, (2) its filter is at most 9, (3) error 0 stands only with limit 1
abbrev pub Keeps : List Record → ℕ → ℕ → Type 0
Keeps rs n r =
    (r ≡ 1 → 2 ≤ n → (nth rs (n - 1)).date ≤ (nth rs n).date)
    × (r ≡ 2 → (nth rs n).filter ≤ 9)
    × (r ≡ 3 → (nth rs n).error ≡ 0 → (nth rs n).limit ≡ 1)

-- every record keeps every rule
abbrev pub AllKeep : List Record → Type 0
AllKeep rs = (n r : ℕ) → 1 ≤ n → n ≤ length rs → Keeps rs n r

-- record n and rule r are the first at fault: all records before it keep every rule; it breaks rule r, and keeps those before it
pub record AtFault (rs : List Record) (n r : ℕ) : Type 0 where
  pub there : (1 ≤ n) × (n ≤ length rs)
  pub above : (m q : ℕ) → 1 ≤ m → m < n → Keeps rs m q
  pub before : (q : ℕ) → q < r → Keeps rs n q
  pub broken : Keeps rs n r → ⊥
