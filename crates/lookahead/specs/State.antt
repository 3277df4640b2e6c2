-- The state of a cursor, when it belongs to a slice, and what reading leaves.
use Rattle.std.specs.Prelude.{ℕ, ◌+◌, ◌*◌, ◌≤◌, ◌≡◌, List, [], ◌∷◌, Bool, not, ◌&&◌, length, leb, eqb, ltb}
use Rattle.bits.specs.declared.Order.{Order}
use Rattle.bits.specs.Refusals.{longest, too_long, foreign, ◌⟶◌, first_refusal}
use Rattle.bits.specs.Field.{field}
use Rattle.bits.specs.Word.{held}
use Rattle.counts.specs.declared.Counts.{Counts}
use Rattle.counts.specs.Counts.{place, Within, after_read}
use Rattle.lookahead.specs.declared.State.{State}
use Rattle.lookahead.specs.declared.Taken.{Taken}

-- the register that goes with counts: it holds the slice's bits just before the offset, and its other bits are zero
unfoldable pub register_of : Order → List ℕ → Counts → ℕ
register_of o s k = held o k.lookahead (field o s (place k) k.lookahead)

-- the counts of a state
abbrev pub counts_of : State → Counts
counts_of c = record { offset = c.offset; lookahead = c.lookahead }

-- the one state of a slice with these counts
abbrev pub state_of : Order → List ℕ → Counts → State
state_of o s k = record { offset = k.offset; lookahead = k.lookahead; register = register_of o s k }

-- whether a state belongs to a slice
unfoldable pub belongs : Order → List ℕ → State → Bool
belongs o s c =
    leb c.offset (length s)
    && (leb c.lookahead 63 && (leb c.lookahead (8 * c.offset) && eqb c.register (register_of o s (counts_of c))))

-- the same as a statement, of a slice within the limit
pub record Belongs (o : Order) (s : List ℕ) (c : State) : Type 0 where
  pub short : length s ≤ longest
  pub within : Within (length s) (counts_of c)
  pub holds : c.register ≡ register_of o s (counts_of c)

-- 1 for a slice past the limit, 2 for a state that does not belong to it
unfoldable pub state_refusal : Order → List ℕ → State → ℕ
state_refusal o s c = first_refusal (ltb longest (length s) ⟶ too_long ∷ not (belongs o s c) ⟶ foreign ∷ [])

-- a read of w bits: the field at the place, and the state with the counts after it
abbrev pub taken_of : Order → List ℕ → Counts → ℕ → Taken
taken_of o s k w = record { value = field o s (place k) w; state = state_of o s (after_read (length s) w k) }

-- whether a state with these counts, of a slice within the limit, has eight bytes before its offset and eight behind it
unfoldable pub inside : ℕ → Counts → Bool
inside len k = leb len longest && (leb (k.offset + 8) len && (leb 8 k.offset && leb k.lookahead 63))
