-- Calls one after the other: pack_record for each of some records, and read_record again and again.
use Rattle.std.specs.Prelude.{ℕ, zero, suc, List, [], ◌∷◌, length}
use Rattle.bits.specs.Refusals.{done, if_done}
use Rattle.reader.specs.declared.Cursor.{Cursor}
use Rattle.writer.specs.declared.Writer.{Writer}
use Rattle.record.specs.declared.Record.{Record}
use Rattle.strip.specs.Answers.{pack_of, pack_out, read_of}

-- what calls of pack_record left: the first refusal, the writer and the output
pub record Left : Type 0 where
  pub refusal : ℕ
  pub writer : Writer
  pub out : List ℕ

-- the call for each record, up to the first that is refused
unfoldable pub pack_each : List ℕ → Writer → List Record → Left
pack_each s w [] = record { refusal = done; writer = w; out = s }
pack_each s w (r ∷ rs) =
    if_done (pack_of (length s) w r).refusal
    (pack_each (pack_out s w r) (pack_of (length s) w r).writer rs)
    (record { refusal = (pack_of (length s) w r).refusal; writer = w; out = s })

-- the cursor after n calls of read_record
unfoldable pub read_times : ℕ → List ℕ → Cursor → Cursor
read_times zero s c = c
read_times (suc n) s c = read_times n s (read_of s c).cursor
