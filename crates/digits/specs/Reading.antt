-- How whole parts and decimals are read from the front of a text, and from a place of it.
use Rattle.std.specs.Prelude.{ℕ, ◌+◌, ◌≤◌, min, ◌≡◌, Bool, false, cond, ◌&&◌, List, [], ◌∷◌, length, get_or, drop, eqb, leb}
use Rattle.digits.specs.declared.inner.Run.{Run}
use Rattle.digits.specs.declared.inner.PartAt.{PartAt}
use Rattle.digits.specs.Digits.{zero_digit, nine_digit, value_of}

-- whether a byte is a digit
abbrev pub is_digit : ℕ → Bool
is_digit b = leb zero_digit b && leb b nine_digit

-- the digits that a text begins with
unfoldable pub run : List ℕ → List ℕ
run [] = []
run (b ∷ s) = cond (is_digit b) (b ∷ run s) []

-- the text behind them
unfoldable pub after : List ℕ → List ℕ
after [] = []
after (b ∷ s) = cond (is_digit b) (after s) (b ∷ s)

-- whether a text begins with a byte
abbrev pub starts : ℕ → List ℕ → Bool
starts c [] = false
starts c (b ∷ s) = eqb b c

-- the largest value that is told apart: no field holds it
abbrev pub most : ℕ
most = 1000000000000

-- a value, or the largest
abbrev pub sat : ℕ → ℕ
sat n = min n most

-- a part as it is read: its value, how many digits it has, and the text behind the byte that ends it
pub record Part : Type 0 where
  pub value : ℕ
  pub count : ℕ
  pub rest : List ℕ

-- the part of these three
abbrev pub part : ℕ → ℕ → List ℕ → Part
part v n s = record { value = v; count = n; rest = s }

-- what is no part: a value that fits nowhere, and nothing behind it
abbrev pub bad : Part
bad = part most 0 []

-- the digits at the front of a text, if they passed a test and a byte ends them
unfoldable pub closed : Bool → ℕ → List ℕ → Part
closed ok end s = cond (ok && starts end (after s)) (part (sat (value_of (run s))) (length (run s)) (drop 1 (after s))) bad

-- whether digits are a whole part
abbrev pub is_whole : List ℕ → Bool
is_whole ds = cond (eqb (get_or ds 0 0) zero_digit) (eqb (length ds) 1) (leb 1 (length ds))

-- whether digits are decimals, from low to high of them
abbrev pub is_decimals : ℕ → ℕ → List ℕ → Bool
is_decimals low high ds = leb low (length ds) && leb (length ds) high

-- the whole part at the front of a text, ended by a byte
unfoldable pub whole_at : ℕ → List ℕ → Part
whole_at end s = closed (is_whole (run s)) end s

-- the decimals at the front of a text, ended by a byte
unfoldable pub decimals_at : ℕ → ℕ → ℕ → List ℕ → Part
decimals_at low high end s = closed (is_decimals low high (run s)) end s

-- the digits from a place on: their value, and where they end
abbrev pub run_at : List ℕ → ℕ → Run
run_at s at = record { value = sat (value_of (run (drop at s))); next = at + length (run (drop at s)) }

-- an answer by place stands for a part: the text behind the part is what the slice has from that place on
pub record Stands (s : List ℕ) (r : PartAt) (p : Part) : Type 0 where
  pub value : r.value ≡ p.value
  pub count : r.count ≡ p.count
  pub rest : drop r.next s ≡ p.rest
  pub within : r.next ≤ length s
