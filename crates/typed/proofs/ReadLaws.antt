-- Laws of what a typed read tells: what the read of its kind's width tells, with the value by its kind's meaning.
use mathlib.Core.Path.{◌≡◌, refl}
use mathlib.Core.List.{List}
use Prim.Native.Nat.{ℕ}
use Rattle.std.specs.Prelude.{Result}
use Rattle.std.specs.Result.{IsErrAnd}
use Rattle.bits.specs.declared.Order.{Order}
use Rattle.bits.specs.Refusals.{done, number}
use Rattle.bits.specs.declared.Refusal.{Refusal}
use Rattle.bits.proofs.RefusalLaws.{number_ne, if_refused, if_done_lem, handed_on}
use Rattle.reader.specs.declared.Cursor.{Cursor}
use Rattle.reader.specs.declared.Read.{Read}
use Rattle.reader.specs.Answers.{ReadTold}
use Rattle.reader.specs.Answers as R
use Rattle.typed.specs.declared.Kind.{Kind}
use Rattle.typed.specs.declared.Typed.{Typed}
use Rattle.typed.specs.Typed.{width_of, meaning}
use Rattle.typed.specs.Answers.{Done, Refused, typed_told, answered, read_of}

module _ (o : Order) (s : List ℕ) (c : Cursor) (k : Kind) (w : ℕ) where
  abbrev beneath : ReadTold ℕ
  beneath = R.read_of o s c (width_of k w)

  -- the read beneath is refused with e, which is handed on
  pub told_refused :
      (e : Refusal) (x : Result (Read Typed) Refusal) → IsErrAnd x (λ y. y ≡ e) →
      number e ≡ beneath.refusal → c ≡ beneath.cursor →
      typed_told c x ≡ read_of o s c k w
  unfolding answered read_of
  told_refused e x h p q =
      rw (handed_on x e h) (λ i. if_refused p (Done (meaning k w beneath.value) (q i)) (Refused (p i) (q i)) (number_ne e) i)

  -- the read beneath is done
  pub told_done :
      (v : Typed) (d : Cursor) →
      done ≡ beneath.refusal → v ≡ meaning k w beneath.value → d ≡ beneath.cursor →
      Done v d ≡ read_of o s c k w
  unfolding answered read_of
  told_done v d p q t = λ i. if_done_lem p (Done (q i) (t i)) (Refused beneath.refusal (t i)) refl i
