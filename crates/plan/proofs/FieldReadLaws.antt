-- What reading fields one after the other gives: their values, or 9 where too few bits are left.
use Prim.Native.Nat.{ℕ, ◌+◌, ◌<◌, ◌≤◌}
use mathlib.Core.Path.{◌≡◌, refl, sym, ap, ap₂, ◌∙◌}
use mathlib.Core.Bool.{true}
use mathlib.Core.List.{List, [], ◌∷◌}
use native.Mathlib.Nat.{add-zero}
use native.Mathlib.Omega.{arith}
use lib.Dec.{ltb}
use borrow.Author.Tests.{ltb-true, ltb-false}
use Rattle.bits.specs.declared.Order.{Order}
use Rattle.bits.specs.Refusals.{done, too_few}
use Rattle.bits.proofs.RefusalLaws.{or_else-first, or_else_second}
use Rattle.reader.specs.declared.Cursor.{Cursor}
use Rattle.reader.specs.Cursor.{place, bits_left, cursor_refusal}
use Rattle.reader.specs.Answers.{read_of}
use Rattle.reader.proofs.AnswerLaws.{read_refusal_lem}
use Rattle.reader.proofs.ReadLaws.{read_enough, read_short, read_value, read_belongs, read_place, read_left}
use Rattle.layout.specs.Layout.{Item, good_items, bits_of}
use Rattle.layout.proofs.LayoutLaws.{good_of}
use Rattle.bits.proofs.TestLaws.{by_test}
use Rattle.plan.specs.Run.{pattern_of, values_of}
use Rattle.plan.specs.FieldReads.{read_fields}

-- the fields fs were read from cursor c on
pub record ReadAll (o : Order) (s : List ℕ) (c : Cursor) (fs : List Item) : Type 0 where
  pub accepted : (read_fields o s c fs).refusal ≡ done
  pub values : (read_fields o s c fs).values ≡ values_of o s (place c) fs
  pub ahead : place (read_fields o s c fs).cursor ≡ place c + bits_of fs
  pub belongs : cursor_refusal o s (read_fields o s c fs).cursor ≡ done

module _ (o : Order) (s : List ℕ) where
  -- where enough bits are left, all fields are read
  pub read_all : (c : Cursor) (fs : List Item) → cursor_refusal o s c ≡ done → good_items fs ≡ true → bits_of fs ≤ bits_left s c → ReadAll o s c fs
  unfolding read_fields values_of bits_of
  read_all c [] own good enough = record { accepted = refl; values = refl; ahead = sym (add-zero _); belongs = own }
  read_all c (f ∷ fs) own good enough =
      let (kind, width, others) = good_of f fs good in
      let w = f.width in
      let e = read_enough o s c w own width (omega arith) in
      let d = (read_of o s c w).cursor in
      let rest = read_all d fs (read_belongs o s c w e) others (omega (arith, read_left o s c w e)) in
      let there = read_place o s c w e in
      record {
        accepted = or_else_second _ _ (read_refusal_lem o s c w ∙ e) ∙ rest.accepted;
        values =
            ap₂ (λ (v : ℕ) (l : List ℕ). pattern_of f.kind w v ∷ l) (read_value o s c w e)
            (rest.values ∙ ap (λ (p : ℕ). values_of o s p fs) there);
        ahead = omega (arith, rest.ahead, there);
        belongs = rest.belongs;
      }

  -- else one of the reads is refused by 9
  pub read_few : (c : Cursor) (fs : List Item) → cursor_refusal o s c ≡ done → good_items fs ≡ true → bits_left s c < bits_of fs → (read_fields o s c fs).refusal ≡ too_few
  unfolding read_fields bits_of
  read_few c [] own good few = absurd (omega arith)
  read_few c (f ∷ fs) own good few =
      let (kind, width, others) = good_of f fs good in
      let w = f.width in
      by_test (ltb (bits_left s c) w)
      (λ t.
      let e : (read_of o s c w).refusal ≡ too_few = read_refusal_lem o s c w ∙ read_short o s c w own width (ltb-true _ _ t) in
      or_else-first _ _ (λ z. omega arith) ∙ e)
      (λ t.
      let e = read_enough o s c w own width (ltb-false _ _ t) in
      or_else_second _ _ (read_refusal_lem o s c w ∙ e)
      ∙ read_few (read_of o s c w).cursor fs (read_belongs o s c w e) others (omega (arith, read_left o s c w e, ltb-false (bits_left s c) w t)))
