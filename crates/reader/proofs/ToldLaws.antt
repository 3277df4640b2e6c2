-- What is told of a read or of a move is told of no other outcome.
use mathlib.Core.Path.{◌≡◌, refl, ap}
use Rattle.std.specs.Prelude.{Result, Ok, Err}
use Rattle.bits.specs.declared.Refusal.{Refusal}
use Rattle.bits.proofs.RefusalLaws.{once}
use Rattle.reader.specs.declared.Cursor.{Cursor}
use Rattle.reader.specs.declared.Read.{Read}
use Rattle.reader.specs.Answers.{ReadTold, Moved, read_told, moved_told}

pub read_told_once : {A : Type 0} (none : A) (c : Cursor) (a b : Result (Read A) Refusal) → read_told none c a ≡ read_told none c b → a ≡ b
read_told_once {A} none c =
    once (read_told none c) (λ (t : ReadTold A). t.refusal) (elim [ Ok r ↦ refl | Err e ↦ refl ])
    (λ x y p. λ i. record { value = (p i).value; cursor = (p i).cursor })

pub moved_told_once : (c : Cursor) (a b : Result Cursor Refusal) → moved_told c a ≡ moved_told c b → a ≡ b
moved_told_once c = once (moved_told c) (λ (t : Moved). t.refusal) (elim [ Ok d ↦ refl | Err e ↦ refl ]) (λ x y p. ap (λ (t : Moved). t.cursor) p)
