-- A refused call leaves the caller's cursor as it was: what the contracts of `consume`, `refill_lookahead` and `lower_end` say of a refusal number that is not 0.
use Prim.Native.Nat.{ℕ}
use mathlib.Core.Path.{◌≡◌, sym, ap, ◌∙◌}
use mathlib.Core.List.{List}
use Rattle.bits.specs.declared.Order.{Order}
use Rattle.bits.specs.Refusals.{done, if_done}
use Rattle.bits.proofs.RefusalLaws.{if_refused}
use Rattle.reader.specs.declared.Cursor.{Cursor}
use Rattle.reader.specs.Answers.{Moved, consume_of, refill_of, lower_of, moved}

module _ {r : ℕ} {d : Cursor} (refused : r ≡ done → ⊥) where
  -- of any answer whose refusal decides on its cursor
  stays : (e : ℕ) (next c : Cursor) → moved r d ≡ moved e (if_done e next c) → d ≡ c
  stays e next c p = ap (λ (m : Moved). m.cursor) p ∙ sym (if_refused (ap (λ (m : Moved). m.refusal) p) next c refused)

  module _ (o : Order) (s : List ℕ) (c : Cursor) where
    pub consume_refused : (n : ℕ) → moved r d ≡ consume_of o s c n → d ≡ c
    unfolding consume_of
    consume_refused n p = stays _ _ c p

    pub refill_refused : moved r d ≡ refill_of o s c → d ≡ c
    unfolding refill_of
    refill_refused p = stays _ _ c p

    pub lower_refused : (e : ℕ) → moved r d ≡ lower_of o s c e → d ≡ c
    unfolding lower_of
    lower_refused e p = stays _ _ c p
