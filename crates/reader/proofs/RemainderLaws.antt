-- The remainder by its place: it goes from the first byte that starts at the cursor's place or behind it up to the end; and there is none where
-- the end lies within a byte.
use Prim.Native.Nat.{ℕ, ◌+◌, ◌-◌, ◌*◌, ◌/◌, ◌%◌}
use mathlib.Core.Path.{◌≡◌, refl, sym, ap, ◌∙◌}
use mathlib.Core.List.{List, []}
use native.Mathlib.Omega.{arith}
use lib.Seq.{slice}
use borrow.Author.Tests.{eq-eqb, ne_eqb}
use Rattle.bits.specs.declared.Order.{Order}
use Rattle.bits.specs.Refusals.{done, end_in_byte, or_else, first_refusal, Told, told_by}
use Rattle.reader.specs.declared.Partial.{Partial}
use Rattle.bits.specs.Field.{field}
use Rattle.bits.proofs.RefusalLaws.{answer_done, all_pass, if_done_lem}
use Rattle.reader.specs.declared.Cursor.{Cursor}
use Rattle.reader.specs.Cursor.{place, stop, cursor_refusal}
use Rattle.reader.specs.Answers.{remainder_refusal, start_of, remainder_of, partial_of, no_partial}
use Rattle.reader.proofs.CursorLaws.{refusal_own}

-- the first whole byte not before the place of a cursor
abbrev whole_from : Cursor → ℕ
whole_from c = (place c + 7) / 8

abbrev partial : ℕ → ℕ → ℕ → Told Partial
partial e n v = told_by e (record { partial_bits = n; partial_byte = v })

module _ (o : Order) (s : List ℕ) (c : Cursor) (own : cursor_refusal o s c ≡ done) where
  pub remainder_enough : stop s c % 8 ≡ 0 → remainder_refusal o s c ≡ done
  unfolding remainder_refusal stop
  remainder_enough even = all_pass _ (own, rw (eq-eqb _ _ even))

  pub remainder_where : stop s c % 8 ≡ 0 →
      (start_of o s c ≡ whole_from c)
      × (remainder_of o s c ≡ slice (whole_from c) (stop s c / 8) s)
      × (partial_of o s c ≡ partial done (8 * whole_from c - place c) (field o s (place c) (8 * whole_from c - place c)))
  unfolding start_of remainder_of partial_of stop
  remainder_where even =
      let z = remainder_enough even in
      let h = (refusal_own own).fits.within in
      let e : c.offset - c.lookahead / 8 ≡ whole_from c = omega (arith, h.behind) in
      let start : start_of o s c ≡ whole_from c = sym (if_done_lem refl _ _ z) ∙ e in
      let bits : c.lookahead % 8 ≡ 8 * whole_from c - place c = omega (arith, h.behind) in (
        start,
        sym (if_done_lem refl _ _ z) ∙ ap (λ (n : ℕ). slice n (c.end / 8) s) start,
        sym (answer_done {e = remainder_refusal o s c} refl told_by _ no_partial z refl) ∙ ap (λ (n : ℕ). partial done n (field o s (place c) n)) bits,
      )

  pub remainder_none : (stop s c % 8 ≡ 0 → ⊥) → (start_of o s c ≡ 0) × (remainder_of o s c ≡ []) × (partial_of o s c ≡ partial end_in_byte 0 0)
  unfolding start_of remainder_of partial_of remainder_refusal first_refusal or_else stop
  remainder_none odd = (rw (own, ne_eqb _ _ odd), rw (own, ne_eqb _ _ odd), rw (own, ne_eqb _ _ odd))
