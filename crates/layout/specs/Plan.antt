-- Plans: the steps that a layout compiles to, and the layout that steps read.
use Rattle.std.specs.Prelude.{ℕ, suc, ◌+◌, ◌-◌, ◌*◌, ◌/◌, ◌%◌, Bool, cond, ◌&&◌, List, [], ◌∷◌, ltb, leb}
use Rattle.layout.specs.Layout.{Item, item}

-- a step: two code bits, then a count of six
abbrev pub step : ℕ → ℕ → ℕ
step code n = 64 * code + n

-- the code of a step
abbrev pub code : ℕ → ℕ
code b = b / 64

-- the count of a step
abbrev pub count : ℕ → ℕ
count b = b % 64

-- code 0: a refill, after which 56 bits are known to be there
abbrev pub refill : ℕ
refill = step 0 0

-- code 3: the first 56 bits of a wide field
abbrev pub wide : ℕ
wide = step 3 56

-- codes 1 and 2: the last step of a field of kind 0 or 1
abbrev pub last_take : ℕ → ℕ → ℕ
last_take kind n = step (suc kind) n

-- the takes of fields in order: width ≤ 56 is one, a wider field is the first 56 bits and then the others
unfoldable pub takes : List Item → List ℕ
takes [] = []
takes (f ∷ fs) =
    cond (leb f.width 56) (last_take f.kind f.width ∷ takes fs)
    (wide ∷ last_take f.kind (f.width - 56) ∷ takes fs)

-- takes with their refills, from a known lookahead g on: a take of more than g is preceded by one, and lowers what is known
unfoldable pub refilled : ℕ → List ℕ → List ℕ
refilled g [] = []
refilled g (t ∷ ts) = cond (ltb g (count t)) (refill ∷ t ∷ refilled (56 - count t) ts) (t ∷ refilled (g - count t) ts)

-- the plan of a layout
abbrev pub compile : List Item → List ℕ
compile fs = refilled 0 (takes fs)

-- whether a step is the last of a field
abbrev pub ends : ℕ → Bool
ends b = leb 1 (code b) && leb (code b) 2

-- the fields that steps read, a bits of the next being taken already
unfoldable pub decode : ℕ → List ℕ → List Item
decode a [] = []
decode a (b ∷ s) = cond (ends b) (item (code b - 1) (a + count b) ∷ decode 0 s) (decode (a + count b) s)
