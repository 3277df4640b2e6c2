-- A cursor: its state over a slice, where it may go on to, and what is left behind its place.
use Rattle.std.specs.Prelude.{ℕ, ◌+◌, ◌-◌, ◌*◌, ◌/◌, ◌≤◌, min, ◌≡◌, Bool, ◌&&◌, List, [], ◌∷◌, length, take, leb, ltb, eqb}
use Rattle.bits.specs.declared.Order.{Order}
use Rattle.bits.specs.Refusals.{longest, done, foreign, ◌⟶◌, first_refusal}
use Rattle.counts.specs.declared.Counts.{Counts}
use Rattle.counts.specs.Counts as C
use Rattle.lookahead.specs.declared.State.{State}
use Rattle.lookahead.specs.State.{register_of, counts_of, state_of, state_refusal, inside}
use Rattle.reader.specs.declared.Cursor.{Cursor}

-- the state of a cursor
abbrev pub state_in : Cursor → State
state_in c = record { offset = c.offset; lookahead = c.lookahead; register = c.register }

-- a cursor gone on to another state, the rest of it kept
abbrev pub with_state : Cursor → State → Cursor
with_state c t = record { offset = t.offset; lookahead = t.lookahead; register = t.register; end = c.end }

-- a cursor with another end, the rest of it kept
abbrev pub ending_at : Cursor → ℕ → Cursor
ending_at c e = record { offset = c.offset; lookahead = c.lookahead; register = c.register; end = e }

-- the counts of a cursor
abbrev pub counts_in : Cursor → Counts
counts_in c = counts_of (state_in c)

-- the bit place at which reading goes on
abbrev pub place : Cursor → ℕ
place c = C.place (counts_in c)

-- the bit place at which reading stops
unfoldable pub stop : List ℕ → Cursor → ℕ
stop s c = c.end

-- a cursor of a slice gone on to other counts, the rest of it kept
unfoldable pub cursor_at : Order → List ℕ → Cursor → Counts → Cursor
cursor_at o s c k = with_state c (state_of o s k)

-- a cursor of a slice gone on to a place, with the fewest bits held, the rest of it kept
unfoldable pub gone_to : Order → List ℕ → Cursor → ℕ → Cursor
unfolding cursor_at
gone_to o s c p = cursor_at o s c (C.counts_at p)

-- the bits left: the end minus the place
unfoldable pub bits_left : List ℕ → Cursor → ℕ
bits_left s c = c.end - place c

-- the whole bytes left: those bits by eight
unfoldable pub bytes_left : List ℕ → Cursor → ℕ
bytes_left s c = bits_left s c / 8

-- the bytes before the end that are not yet fetched
unfoldable pub unfetched : List ℕ → Cursor → ℕ
unfetched s c = c.end / 8 - c.offset

-- the bits of lookahead, as far as they are left
unfoldable pub ahead_in : List ℕ → Cursor → ℕ
ahead_in s c = min c.lookahead (bits_left s c)

-- 1 for a slice past the limit, 2 for a cursor that does not belong to it: by its state, with an end before its place or behind the slice
unfoldable pub cursor_refusal : Order → List ℕ → Cursor → ℕ
cursor_refusal o s c =
    first_refusal
    (state_refusal o s (state_in c)
    ∷ ltb c.end (place c) ⟶ foreign
    ∷ ltb (8 * length s) c.end ⟶ foreign
    ∷ [])

-- a cursor whose counts a cursor of the slice can have, its end not before its place nor behind the slice, which is within the limit
pub record Fits (s : List ℕ) (c : Cursor) : Type 0 where
  pub short : length s ≤ longest
  pub within : C.Within (length s) (counts_in c)
  pub reached : place c ≤ c.end
  pub stops : c.end ≤ 8 * length s

-- a cursor that belongs to the slice: its register is the slice's too
pub record Own (o : Order) (s : List ℕ) (c : Cursor) : Type 0 where
  pub fits : Fits s c
  pub holds : c.register ≡ register_of o s (counts_in c)

-- cursors c of a slice s and d of a slice t that belong, stand at one place and stop at one, the slices the same up to there
pub record Alike (o : Order) (s : List ℕ) (c : Cursor) (t : List ℕ) (d : Cursor) : Type 0 where
  pub belongs : cursor_refusal o s c ≡ done
  pub too : cursor_refusal o t d ≡ done
  pub here : place c ≡ place d
  pub ends : stop s c ≡ stop t d
  pub front : take ((stop s c + 7) / 8) s ≡ take ((stop s c + 7) / 8) t

-- whether counts of a slice within the limit have eight bytes before the offset, and eight more before an end within the slice
unfoldable pub inside_end : ℕ → ℕ → Counts → Bool
inside_end len end k = leb len longest && (leb end (8 * len) && inside (end / 8) k)

-- whether a read of w bits is of at most 56, from a cursor that belongs and is inside its end so: one that needs no other test
unfoldable pub is_inside : Order → List ℕ → Cursor → ℕ → Bool
is_inside o s c w = leb w 56 && (inside_end (length s) c.end (counts_in c) && eqb c.register (register_of o s (counts_in c)))
