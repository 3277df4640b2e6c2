-- Laws of a typed value that was written: its bits were stored at its kind's width, and make the same value again.
use mathlib.Core.Path.{◌≡◌, refl, sym, ap, ◌∙◌, subst}
use mathlib.Core.Bool.{true}
use mathlib.Core.List.{List}
use Prim.Native.Nat.{ℕ, ◌%◌, ◌^◌, ◌≤◌}
use native.Mathlib.Nat.{mod-eq_of_lt}
use lib.ListN.{length}
use Rattle.bits.specs.declared.Order.{Order}
use Rattle.bits.specs.Refusals.{done}
use Rattle.bits.specs.Signed.{signed, pattern}
use Rattle.sign.proofs.SignedLaws.{pattern_low}
use Rattle.floats.specs.Floats.{single_of, single_bits, double_of, double_bits}
use Rattle.floats.proofs.FloatLaws.{single_kept, double_kept, single_bits-lt, double_bits-lt}
use Rattle.writer.specs.declared.Writer.{Writer}
use Rattle.writer.specs.Answers as W
use Rattle.writer.proofs.AnswerLaws.{Room, write_passed, signed_passed, single_never}
use Rattle.writer.proofs.WriteLaws.{Stored, write_stored, signed_stored}
use Rattle.roundtrip.proofs.ItemLaws.{in_range_lem}
use Rattle.typed.specs.declared.Typed.{Typed}
use Rattle.typed.specs.declared.Typed.TheVariants as T
use Rattle.typed.specs.Typed.{bits_of, kind_of, same_typed, width_of, meaning, Fits}
use Rattle.typed.specs.Answers.{write_of, write_out}
use Rattle.typed.proofs.SameLaws.{same_exactly}

-- the low bits of a value, as many as are written
abbrev pub written_bits : Typed → ℕ → ℕ
written_bits v n = bits_of v % 2 ^ width_of (kind_of v) n

-- a write that is done stored them, at a width that there is
module _ (o : Order) (s : List ℕ) (w : Writer) where
  pub typed_passed : (v : Typed) (n : ℕ) → (write_of o (length s) w v n).refusal ≡ done
      → (width_of (kind_of v) n ≤ 64) × Room (length s) w (width_of (kind_of v) n)
  unfolding write_of width_of kind_of W.write_of W.signed_of W.retired_of
  typed_passed (T.Unsigned m) n z = write_passed (length s) w n m z
  typed_passed (T.Signed x) n z = signed_passed (length s) w n x z
  typed_passed (T.Single x) n z = absurd (single_never (length s) w z)
  typed_passed (T.Double x) n z = write_passed (length s) w 64 (double_bits x) z

  pub typed_stored : (v : Typed) (n : ℕ) → (write_of o (length s) w v n).refusal ≡ done
      → Stored o s w (width_of (kind_of v) n) (written_bits v n) (write_out o s w v n) (write_of o (length s) w v n)
  unfolding write_of write_out bits_of width_of kind_of W.write_of W.signed_of W.retired_of
  typed_stored (T.Unsigned m) n z = write_stored o s w n m z
  typed_stored (T.Signed x) n z =
      subst (λ (b : ℕ). Stored o s w n b (W.signed_out o s w n x) (W.signed_of o (length s) w n x))
      (sym (pattern_low n x (signed_passed (length s) w n x z).0))
      (signed_stored o s w n x z)
  typed_stored (T.Single x) n z = absurd (single_never (length s) w z)
  typed_stored (T.Double x) n z = write_stored o s w 64 (double_bits x) z

-- a value that fits is the same again
pub typed_same : (v : Typed) (n : ℕ) → Fits n v → same_typed (meaning (kind_of v) n (written_bits v n)) v ≡ true
unfolding meaning kind_of bits_of width_of
typed_same (T.Unsigned m) n h = (same_exactly _ (T.Unsigned m)).1 (refl, mod-eq_of_lt h)
typed_same (T.Signed x) n (wide, h) =
    (same_exactly _ (T.Signed x)).1 (refl, ap (λ (b : ℕ). pattern 64 (signed n b)) (pattern_low n x wide) ∙ ap (pattern 64) (in_range_lem n x h))
typed_same (T.Single x) n h =
    let l = single_bits-lt x h in
    (same_exactly _ (T.Single x)).1 (refl, ap (λ (b : ℕ). single_bits (single_of b)) (mod-eq_of_lt l) ∙ single_kept (single_bits x) l)
typed_same (T.Double x) n h =
    let l = double_bits-lt x h in
    (same_exactly _ (T.Double x)).1 (refl, ap (λ (b : ℕ). double_bits (double_of b)) (mod-eq_of_lt l) ∙ double_kept (double_bits x) l)
