-- The refusal numbers, in the order in which they win: where several apply, the lowest is given.
use Rattle.std.specs.Prelude.{ℕ, Bool, cond, List, [], ◌∷◌, eqb, Result, Ok, Err, codes}
use Rattle.bits.specs.declared.Refusal.{Refusal}
use Rattle.bits.specs.declared.Refusal.TheVariants as why

infix 68 ◌⟶◌
-- done
abbrev pub done : ℕ
done = 0

-- a lent byte slice is longer than the limit
abbrev pub too_long : ℕ
too_long = 1

-- the cursor or writer does not belong to the slice
abbrev pub foreign : ℕ
foreign = 2

-- a width above 64
abbrev pub too_wide : ℕ
too_wide = 3

-- a value at or above 2 to its width
abbrev pub too_large : ℕ
too_large = 4

-- a layout of odd length, of over 64 fields, with a kind that is not 0 or 1, or with a width above 64
abbrev pub bad_layout : ℕ
bad_layout = 5

-- a plan that no layout compiles to
abbrev pub bad_plan : ℕ
bad_plan = 6

-- a text line outside the line rules
abbrev pub bad_line : ℕ
bad_line = 7

-- no room in a lent output or result list
abbrev pub no_room : ℕ
no_room = 8

-- fewer bits left than needed
abbrev pub too_few : ℕ
too_few = 9

-- more bits than the lookahead has
abbrev pub past_lookahead : ℕ
past_lookahead = 10

-- a row outside the record's ranges
abbrev pub bad_row : ℕ
bad_row = 11

-- a cursor's end raised, or put before its place
abbrev pub bad_end : ℕ
bad_end = 13

-- a remainder asked of a cursor whose end is not a multiple of 8
abbrev pub end_in_byte : ℕ
end_in_byte = 14

-- a write of a retired kind: a single
abbrev pub retired_kind : ℕ
retired_kind = 16

-- the number of a refusal
abbrev pub number : Refusal → ℕ
number why.TooLong = too_long
number why.Foreign = foreign
number why.TooWide = too_wide
number why.TooLarge = too_large
number why.BadLayout = bad_layout
number why.BadPlan = bad_plan
number why.BadLine = bad_line
number why.NoRoom = no_room
number why.TooFew = too_few
number why.PastLookahead = past_lookahead
number why.BadRow = bad_row
number why.BadEnd = bad_end
number why.EndInByte = end_in_byte
number why.RetiredKind = retired_kind

-- what a refusal says of itself
abbrev pub refusal_said : Refusal → List ℕ
refusal_said why.TooLong = codes "a slice is longer than the limit"
refusal_said why.Foreign = codes "the cursor or writer does not belong to the slice"
refusal_said why.TooWide = codes "a width is above 64"
refusal_said why.TooLarge = codes "a value does not fit its width"
refusal_said why.BadLayout = codes "these bytes are no layout"
refusal_said why.BadPlan = codes "no layout compiles to this plan"
refusal_said why.BadLine = codes "a line breaks the line rules"
refusal_said why.NoRoom = codes "the output has no room"
refusal_said why.TooFew = codes "too few bits are left"
refusal_said why.PastLookahead = codes "the lookahead has fewer bits"
refusal_said why.BadRow = codes "a row says no record"
refusal_said why.BadEnd = codes "the end is raised, or put before the place"
refusal_said why.EndInByte = codes "the end is within a byte"
refusal_said why.RetiredKind = codes "singles are written no more"

-- the number of an outcome: that of its refusal, or done
abbrev pub number_of : {A : Type 0} → Result A Refusal → ℕ
number_of (Ok x) = done
number_of (Err e) = number e

-- what a call tells: the number of its refusal or done, and its value
pub record Told (A : Type 0) : Type 0 where
  pub refusal : ℕ
  pub value : A

abbrev pub told_by : {A : Type 0} → ℕ → A → Told A
told_by e x = record { refusal = e; value = x }

-- an outcome, told so: where there is a refusal, the value is `none`
abbrev pub told : {A : Type 0} → A → Result A Refusal → Told A
told none (Ok x) = record { refusal = done; value = x }
told none (Err e) = record { refusal = number e; value = none }

-- what a call tells that puts something out: the number of its refusal or done, and how long that is, 0 where there is a refusal
pub record LengthTold : Type 0 where
  pub refusal : ℕ
  pub length : ℕ

abbrev pub length_told : Result ℕ Refusal → LengthTold
length_told (Ok n) = record { refusal = done; length = n }
length_told (Err e) = record { refusal = number e; length = 0 }

-- the longest byte slice that a call takes
abbrev pub longest : ℕ
longest = 16777216

-- the first refusal, or the second where the first is none
unfoldable pub or_else : ℕ → ℕ → ℕ
or_else a b = cond (eqb a done) b a

-- a row of a table of refusals: the number where the test holds, else none
abbrev pub ◌⟶◌ : Bool → ℕ → ℕ
t ⟶ n = cond t n done

-- a table of refusals: the first of its rows that refuses. A row is a test with its number, or another refusal
unfoldable pub first_refusal : List ℕ → ℕ
first_refusal [] = done
first_refusal (e ∷ []) = e
first_refusal (e ∷ f ∷ es) = or_else e (first_refusal (f ∷ es))

-- what a call gives: x where nothing refuses it, else y
abbrev pub if_done : {A : Type 0} → ℕ → A → A → A
if_done e x y = cond (eqb e done) x y
