-- Numbers as a line spells them: the bytes between them, their digits, whole parts and decimals.
use Rattle.std.specs.Prelude.{ℕ, ◌+◌, ◌-◌, ◌*◌, ◌≤◌, ◌≡◌, List, [], ◌∷◌, length, get_or}
use Prim.Native.Char.{code}
use Prim.Native.String.{String, [] as end, ◌∷◌ as ◌then◌}

-- the byte between two numbers
abbrev pub comma : ℕ
comma = 44

-- the byte between a whole part and its decimals
abbrev pub point : ℕ
point = 46

-- the byte in front of a number below zero
abbrev pub minus : ℕ
minus = 45

-- the byte that ends a line
abbrev pub newline : ℕ
newline = 10

-- the digits 0 and 9
abbrev pub zero_digit : ℕ
zero_digit = 48

abbrev pub nine_digit : ℕ
nine_digit = 57

-- the bytes of a text in ASCII
unfoldable pub ascii : String → List ℕ
ascii end = []
ascii (c then s) = code c ∷ ascii s

-- a list of digits
pub data Digits : List ℕ → Type 0 where
  none : Digits []
  digit : {b : ℕ} {s : List ℕ} → zero_digit ≤ b → b ≤ nine_digit → Digits s → Digits (b ∷ s)

-- the number that digits spell, behind digits that spelled a
unfoldable pub value_from : ℕ → List ℕ → ℕ
value_from a [] = a
value_from a (b ∷ s) = value_from (10 * a + (b - zero_digit)) s

-- the number that digits spell
abbrev pub value_of : List ℕ → ℕ
value_of s = value_from 0 s

-- a whole part: a digit or more, and a 0 in front only if it stands alone
pub record Whole (ds : List ℕ) : Type 0 where
  pub digits : Digits ds
  pub some : 1 ≤ length ds
  pub lead : get_or ds 0 0 ≡ zero_digit → length ds ≡ 1

-- decimals: from low to high digits
pub record Decimals (low high : ℕ) (ds : List ℕ) : Type 0 where
  pub digits : Digits ds
  pub enough : low ≤ length ds
  pub few : length ds ≤ high
