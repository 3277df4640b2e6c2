-- Laws of answers: what a call that is not refused may rely on, and what a read gives either way.
use Prim.Native.Nat.{ℕ, zero, suc, ◌+◌, ◌-◌, ◌*◌, ◌%◌, ◌^◌, ◌<◌, ◌≤◌}
use mathlib.Core.Path.{◌≡◌, refl, sym, ap, ◌∙◌, subst}
use mathlib.Core.Bool.{Bool, true, false}
use mathlib.Core.List.{List, []}
use native.Mathlib.Omega.{arith}
use lib.ListN.{length, take, drop}
use lib.Seq.{length-take-le, take-add, drop_at, slice}
use lib.Dec.{eqb}
use lib.IntN.{ℤ, pos}
use lib.Pow.{pow_pos}
use borrow.Author.Tests.{eq-eqb, ne_eqb, eqb-true, eqb-false}
use mir.Syntax.{Width, w64}
use mir.Val.{SFits, bits, to_z, of_z}
use Rattle.bits.specs.declared.Order.{Order}
use Rattle.std.specs.Prelude.{Result}
use Rattle.std.specs.Result.{IsErrAnd}
use Rattle.bits.specs.declared.Refusal.{Refusal}
use Rattle.bits.specs.Refusals.{done, number}
use Rattle.bits.proofs.RefusalLaws.{handed_on, passed, at_most, test_held}
use Rattle.bits.proofs.FieldLaws.{field_lt}
use Rattle.bits.specs.Signed.{signed}
use Rattle.counts.proofs.BytesLaws.{bytes_none as none-counts}
use Rattle.octets.specs.Octets.{firsts, octets}
use Rattle.sign.proofs.SignedLaws.{signed_low, narrowed}
use Rattle.floats.proofs.FloatLaws.{cond_either}
use Rattle.reader.specs.declared.Cursor.{Cursor}
use Rattle.reader.specs.declared.Read.{Read}
use Rattle.reader.specs.Cursor.{counts_in, cursor_at, place, bits_left, bytes_left, ahead_in, Own}
use Rattle.reader.proofs.CursorLaws.{refusal_own, own_at}
use Rattle.reader.specs.Answers.{ReadTold, read_told, read_refusal, read_of, bytes_refusal, bytes_of, bytes_out, manual_refusal, remainder_refusal, lower_refusal}

-- ---- what a call that is not refused may rely on

module _ (o : Order) (s : List ℕ) (c : Cursor) where
  pub read_granted : (w : ℕ) → read_refusal o s c w ≡ done → Own o s c × (w ≤ 64) × (w ≤ bits_left s c)
  unfolding read_refusal
  read_granted w z =
      let (own, (narrow, enough)) = passed _ z in
      (refusal_own own, at_most _ _ _ narrow, at_most _ _ _ enough)

  pub manual_granted : (n : ℕ) → manual_refusal o s c n ≡ done → Own o s c × (n ≤ ahead_in s c)
  unfolding manual_refusal
  manual_granted n z = let (own, enough) = passed _ z in (refusal_own own, at_most _ _ _ enough)

  pub bytes_granted : (n : ℕ) → bytes_refusal o s c n ≡ done → Own o s c × (n ≤ bytes_left s c)
  unfolding bytes_refusal
  bytes_granted n z = let (_, (own, enough)) = passed _ z in (refusal_own own, at_most _ _ _ enough)

  pub remainder_granted : remainder_refusal o s c ≡ done → Own o s c × (c.end % 8 ≡ 0)
  unfolding remainder_refusal
  remainder_granted z = let (own, whole) = passed _ z in (refusal_own own, eqb-true _ _ (test_held _ _ whole))

  pub lower_granted : (e : ℕ) → lower_refusal o s c e ≡ done → Own o s c × (e ≤ c.end) × (place c ≤ e)
  unfolding lower_refusal
  lower_granted e z =
      let (own, (low, reached)) = passed _ z in
      (refusal_own own, at_most _ _ _ low, at_most _ _ _ reached)

-- ---- reads, refused or not

-- no bits set is 0 at any width
pub signed-zero : (w : ℕ) → signed w 0 ≡ pos 0
unfolding signed
signed-zero zero = refl
signed-zero (suc j) = signed_low j 0 (pow_pos j)

module _ (o : Order) (s : List ℕ) (c : Cursor) (w : ℕ) where
  pub read_refusal_lem : (read_of o s c w).refusal ≡ read_refusal o s c w
  unfolding read_of
  read_refusal_lem =
      cond_either (λ (r : ReadTold ℕ). r.refusal ≡ read_refusal o s c w) (eqb (read_refusal o s c w) done)
      (λ t. sym (eqb-true _ _ t)) (λ t. refl)

  -- a value is below 2 to its width
  pub read_lt : (read_of o s c w).value < 2 ^ w
  unfolding read_of
  read_lt =
      cond_either (λ (r : ReadTold ℕ). r.value < 2 ^ w) (eqb (read_refusal o s c w) done)
      (λ t. field_lt o s _ w) (λ t. pow_pos w)

  -- a refused value is 0
  pub refused_value : ((read_of o s c w).refusal ≡ done → ⊥) → (read_of o s c w).value ≡ 0
  unfolding read_of
  refused_value =
      cond_either (λ (r : ReadTold ℕ). (r.refusal ≡ done → ⊥) → r.value ≡ 0) (eqb (read_refusal o s c w) done)
      (λ t h. absurd (h refl)) (λ t h. refl)

  -- the same of an answer in hand
  module _ {r : ReadTold ℕ} (e : r ≡ read_of o s c w) where
    pub answered_refusal : r.refusal ≡ read_refusal o s c w
    answered_refusal = ap (λ (x : ReadTold ℕ). x.refusal) e ∙ read_refusal_lem

    pub answered-lt : r.value < 2 ^ w
    answered-lt = subst (λ (x : ReadTold ℕ). x.value < 2 ^ w) (sym e) read_lt

    pub refused_signed : (r.refusal ≡ done → ⊥) → pos 0 ≡ signed w (read_of o s c w).value
    refused_signed h =
        sym (ap (signed w) (refused_value (λ z. h (ap (λ (x : ReadTold ℕ). x.refusal) e ∙ z))) ∙ signed-zero w)

-- a read as the machine's signed number of its width: the cast of what sign extension gives is defined, and loses nothing
pub signed_cast :
    (o : Order) (s : List ℕ) (c : Cursor) (w : Width) {r : ReadTold ℕ} {z : ℤ} →
    r ≡ read_of o s c (bits w) → SFits w64 z → z ≡ signed (bits w) r.value →
    SFits w (to_z w64 (of_z w64 z)) × (to_z w (of_z w (to_z w64 (of_z w64 z))) ≡ signed (bits w) (read_of o s c (bits w)).value)
signed_cast o s c w {r} e f g =
    let (defined, same) = narrowed w r.value (answered-lt o s c (bits w) e) f g in
    (defined, same ∙ ap (λ (x : ReadTold ℕ). signed (bits w) x.value) e)

-- a refusal of a read that a `?` hands on is one of the read by f, where f of no bits set is `none`
pub refused_as :
    {A : Type 0} (f : ℕ → A) (none : A) (c : Cursor) (r : Result (Read A) Refusal) (e : Refusal) {x : ReadTold ℕ} →
    f 0 ≡ none → IsErrAnd r (λ y. y ≡ e) → record { refusal = number e; value = 0; cursor = c } ≡ x
    → read_told none c r ≡ record { refusal = x.refusal; value = f x.value; cursor = x.cursor }
refused_as f none c r e z h p =
    ap (read_told none c) (handed_on r e h) ∙ (λ i. record { refusal = number e; value = sym z i; cursor = c })
    ∙ ap (λ (y : ReadTold ℕ). record { refusal = y.refusal; value = f y.value; cursor = y.cursor }) p

-- ---- no bytes, refused or not

module _ (o : Order) (s : List ℕ) (c : Cursor) where
  pub bytes_none : (bytes_of o s c 0).cursor ≡ c
  unfolding bytes_of
  bytes_none =
      cond_either (λ (d : Cursor). d ≡ c) (eqb (bytes_refusal o s c 0) done)
      (λ t. ap (cursor_at o s c) (none-counts (length s) (counts_in c)) ∙ own_at o s c (bytes_granted o s c 0 (eqb-true _ _ t)).0) (λ t. refl)

  pub none_out : bytes_out o s c [] ≡ []
  unfolding bytes_out octets firsts
  none_out = cond_either (λ (out : List ℕ). out ≡ []) (eqb (bytes_refusal o s c 0) done) (λ t. refl) (λ t. refl)

-- ---- parts and places

-- a part by its length, as the slice between two bytes
pub part_slice : (s : List ℕ) (at to : ℕ) → at ≤ to → to ≤ length s → take (to - at) (drop at s) ≡ slice at to s
part_slice s at to a b =
    let n : at + (to - at) ≡ to = omega arith in
    sym (drop_at (take at s) (take (to - at) (drop at s)) at (length-take-le at s (omega arith)))
    ∙ ap (drop at) (sym (take-add at (to - at) s) ∙ ap (λ (k : ℕ). take k s) n)

-- the place is at the start of a byte if the lookahead is whole bytes
pub aligned : (q r : ℕ) → r ≤ 8 * q → eqb (r % 8) 0 ≡ eqb ((8 * q - r) % 8) 0
aligned q r h = by (eqb (r % 8) 0) refl
  where
    by : (t : Bool) → eqb (r % 8) 0 ≡ t → t ≡ eqb ((8 * q - r) % 8) 0
    by true p = let z = eqb-true (r % 8) 0 p in sym (eq-eqb ((8 * q - r) % 8) 0 (omega arith))
    by false p = sym (ne_eqb ((8 * q - r) % 8) 0 (λ z. eqb-false (r % 8) 0 p (omega arith)))
