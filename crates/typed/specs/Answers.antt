-- What typed reads and writes answer, on every input.
use Rattle.std.specs.Prelude.{ℕ, List, Result, Ok, Err}
use Rattle.bits.specs.declared.Order.{Order}
use Rattle.bits.specs.Refusals.{if_done, number}
use Rattle.bits.specs.declared.Refusal.{Refusal}
use Rattle.floats.specs.Floats.{double_bits}
use Rattle.reader.specs.declared.Cursor.{Cursor}
use Rattle.reader.specs.declared.Read.{Read}
use Rattle.reader.specs.Answers.{ReadTold}
use Rattle.reader.specs.Answers as R
use Rattle.writer.specs.declared.Writer.{Writer}
use Rattle.writer.specs.Answers.{Wrote}
use Rattle.writer.specs.Answers as W
use Rattle.typed.specs.declared.Kind.{Kind}
use Rattle.typed.specs.declared.Typed.{Typed}
use Rattle.typed.specs.declared.Typed.TheVariants as T
use Rattle.typed.specs.Typed.{width_of, meaning}

-- what is told of a typed read: the value with the cursor that goes on, or a refusal number with the one that came
pub data TypedRead : Type 0 where
  Done : Typed → Cursor → TypedRead
  Refused : ℕ → Cursor → TypedRead

-- the outcome of a typed read of the cursor c
abbrev pub typed_told : Cursor → Result (Read Typed) Refusal → TypedRead
typed_told c (Ok r) = Done r.value r.cursor
typed_told c (Err e) = Refused (number e) c

-- a value with the cursor that goes on, or a refusal number with the one that came
unfoldable pub answered : ℕ → Typed → Cursor → TypedRead
answered e v c = if_done e (Done v c) (Refused e c)

-- a typed read: the field of the kind's width at the place, by the kind's meaning
unfoldable pub read_of : Order → List ℕ → Cursor → Kind → ℕ → TypedRead
read_of o s c kind w =
    let r : ReadTold ℕ = R.read_of o s c (width_of kind w) in answered r.refusal (meaning kind w r.value) r.cursor

-- a typed write: that of the value's case; a single is written no more
unfoldable pub write_of : Order → ℕ → Writer → Typed → ℕ → Wrote
write_of o len w (T.Unsigned n) width = W.write_of o len w width n
write_of o len w (T.Signed z) width = W.signed_of o len w width z
write_of o len w (T.Single x) width = W.retired_of len w
write_of o len w (T.Double x) width = W.write_of o len w 64 (double_bits x)

unfoldable pub write_out : Order → List ℕ → Writer → Typed → ℕ → List ℕ
write_out o s w (T.Unsigned n) width = W.write_out o s w width n
write_out o s w (T.Signed z) width = W.signed_out o s w width z
write_out o s w (T.Single x) width = s
write_out o s w (T.Double x) width = W.write_out o s w 64 (double_bits x)
