-- Reading fields one after the other, each by the reader's own call.
use Rattle.std.specs.Prelude.{ℕ, List, [], ◌∷◌}
use Rattle.bits.specs.declared.Order.{Order}
use Rattle.bits.specs.Refusals.{done, or_else}
use Rattle.reader.specs.declared.Cursor.{Cursor}
use Rattle.reader.specs.Answers.{ReadTold, read_of}
use Rattle.layout.specs.Layout.{Item}
use Rattle.plan.specs.Run.{pattern_of}

-- what reading fields gives: the first refusal, a pattern a field, and the last cursor
pub record Fields : Type 0 where
  pub refusal : ℕ
  pub values : List ℕ
  pub cursor : Cursor

-- a field that was read, and then the others
abbrev pub and_then : Item → ReadTold ℕ → Fields → Fields
and_then f r others =
    record {
      refusal = or_else r.refusal others.refusal;
      values = pattern_of f.kind f.width r.value ∷ others.values;
      cursor = others.cursor;
    }

-- reads of the fields in order, each from the cursor that the one before it left
unfoldable pub read_fields : Order → List ℕ → Cursor → List Item → Fields
read_fields o s c [] = record { refusal = done; values = []; cursor = c }
read_fields o s c (f ∷ fs) = and_then f (read_of o s c f.width) (read_fields o s (read_of o s c f.width).cursor fs)
