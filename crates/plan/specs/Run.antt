-- What running a plan answers, by the fields of the layout that compiles to it, on every input.
use Rattle.std.specs.Prelude.{ℕ, ◌+◌, ◌*◌, ◌≡◌, ◌≤◌, cond, not, List, [], ◌∷◌, length, eqb, ltb}
use Rattle.std.proofs.lemmas.List.Edits.{sets}
use Rattle.bits.specs.declared.Order.{Order}
use Rattle.bits.specs.Refusals.{longest, done, too_long, bad_plan, no_room, too_few, ◌⟶◌, first_refusal, if_done}
use Rattle.bits.specs.Field.{field}
use Rattle.bits.specs.Signed.{signed, pattern}
use Rattle.reader.specs.declared.Cursor.{Cursor}
use Rattle.reader.specs.Answers.{Moved, moved}
use Rattle.reader.specs.Cursor.{place, stop, bits_left, gone_to, cursor_refusal}
use Rattle.layout.specs.Layout.{Item, bits_of}
use Rattle.layout.specs.Plan.{decode}
use Rattle.layout.specs.Check.{is_plan}

-- a field's value as 64 bits: as it is, or of a signed field the two's complement of its signed meaning
unfoldable pub pattern_of : ℕ → ℕ → ℕ → ℕ
pattern_of kind w v = cond (eqb kind 1) (pattern 64 (signed w v)) v

-- the 64-bit patterns of fields that lie one behind the other from place p on
unfoldable pub values_of : Order → List ℕ → ℕ → List Item → List ℕ
values_of o s p [] = []
values_of o s p (f ∷ fs) = pattern_of f.kind f.width (field o s p f.width) ∷ values_of o s (p + f.width) fs

-- the fields of the layout that compiles to a plan
abbrev pub fields_of : List ℕ → List Item
fields_of plan = decode 0 plan

-- 1 for a plan or a slice past the limit, 2, 6 for bytes that are no plan, 8 for fewer results than fields, 9 for too few bits
unfoldable pub run_refusal : Order → List ℕ → Cursor → List ℕ → ℕ → ℕ
run_refusal o s c plan room =
    first_refusal
    (ltb longest (length plan) ⟶ too_long
    ∷ cursor_refusal o s c
    ∷ not (is_plan plan) ⟶ bad_plan
    ∷ ltb room (length (fields_of plan)) ⟶ no_room
    ∷ ltb (bits_left s c) (bits_of (fields_of plan)) ⟶ too_few
    ∷ [])

-- the cursor where the last field ends, with the fewest bits held
unfoldable pub run_of : Order → List ℕ → Cursor → List ℕ → ℕ → Moved
run_of o s c plan room =
    moved (run_refusal o s c plan room) (if_done (run_refusal o s c plan room) (gone_to o s c (place c + bits_of (fields_of plan))) c)

-- a pattern a field at the front of the results, the rest untouched
unfoldable pub run_out : Order → List ℕ → Cursor → List ℕ → List ℕ → List ℕ
run_out o s c plan out =
    if_done (run_refusal o s c plan (length out)) (sets out 0 (values_of o s (place c) (fields_of plan))) out

-- a plan may run in one go from place p on: it is that of a cursor that belongs, and no field ends past where reading stops
pub record Clear (o : Order) (s : List ℕ) (c : Cursor) (plan : List ℕ) (p : ℕ) : Type 0 where
  pub own : cursor_refusal o s c ≡ done
  pub at : p ≡ place c
  pub steps : length plan ≤ 256
  pub ahead : p + 64 * length plan + 64 ≤ stop s c
