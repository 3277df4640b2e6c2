-- 64 bits behind h that are held, over the order: a word of the h bits and the first of the 64 is stored, and the last h of the 64 stay.
use mathlib.Core.Path.{◌≡◌, sym, ap, ap₂, ◌∙◌, subst}
use Prim.Native.Nat.{ℕ, ◌+◌, ◌-◌, ◌*◌, ◌^◌, ◌<◌, ◌≤◌}
use native.Mathlib.Nat.{sub-add_cancel, add-sub_of_le}
use native.Mathlib.Omega.{arith}
use lib.Pow.{pow_pos}
use Rattle.bits.specs.declared.Order.{Order}
use Rattle.bits.specs.Field.{join}
use Rattle.bits.specs.Word.{first, rest, skipped}
use Rattle.bits.proofs.JoinLaws.{join-lt, join_assoc, join_parts, first-join, rest-join, first-lt, rest_lt}
use Rattle.bits.proofs.WordLaws.{skipped-join}
use Rattle.packing.specs.Packing.{bytes_of}
use Rattle.packing.proofs.BytesLaws.{bytes_longer}

module _ (o : Order) (h : ℕ) {x v : ℕ} (few : h ≤ 64) (hx : x < 2 ^ h) (hv : v < 2 ^ 64) where
  cut : 64 - h + h ≡ 64
  cut = sub-add_cancel few

  v_lt : v < 2 ^ (64 - h + h)
  v_lt = subst (λ (k : ℕ). v < 2 ^ k) (sym cut) hv

  pub front_lt : first o (64 - h) h v < 2 ^ (64 - h)
  front_lt = first-lt o (64 - h) h v_lt

  last_lt : rest o (64 - h) h v < 2 ^ h
  last_lt = rest_lt o (64 - h) h v_lt

  pub word_lt : join o h (64 - h) x (first o (64 - h) h v) < 2 ^ 64
  word_lt = subst (λ (k : ℕ). join o h (64 - h) x (first o (64 - h) h v) < 2 ^ k) (add-sub_of_le few) (join-lt o h (64 - h) hx front_lt)

  -- the bits held and the 64, as the word and the bits that stay
  regrouped : join o h 64 x v ≡ join o 64 h (join o h (64 - h) x (first o (64 - h) h v)) (rest o (64 - h) h v)
  regrouped =
      let F : ℕ = first o (64 - h) h v in
      let y : ℕ = rest o (64 - h) h v in
      ap₂ (λ (k w : ℕ). join o h k x w) (sym cut) (sym (join_parts o (64 - h) h v))
      ∙ sym (join_assoc o h (64 - h) h x F y)
      ∙ ap (λ (k : ℕ). join o k h (join o h (64 - h) x F) y) (add-sub_of_le few)

  -- the word's first k bytes
  pub word_bytes : (k r : ℕ) → k ≤ 8 → r ≡ 64 - 8 * k + h → bytes_of o k (64 - 8 * k) (join o h (64 - h) x (first o (64 - h) h v)) ≡ bytes_of o k r (join o h 64 x v)
  word_bytes k r l e =
      let W : ℕ = join o h (64 - h) x (first o (64 - h) h v) in
      let y : ℕ = rest o (64 - h) h v in
      let f : 64 ≡ 8 * k + (64 - 8 * k) = omega arith in
      sym (ap (bytes_of o k r) (regrouped ∙ ap (λ (m : ℕ). join o m h W y) f)
      ∙ bytes_longer o k (64 - 8 * k) h r (sym e) (subst (λ (m : ℕ). W < 2 ^ m) f word_lt) last_lt)

  pub word_over : first o h (64 - h) (skipped o (64 - h) v) ≡ rest o 64 h (join o h 64 x v)
  word_over =
      let F : ℕ = first o (64 - h) h v in
      let y : ℕ = rest o (64 - h) h v in
      let e : h ≡ 64 - (64 - h) = omega arith in
      let l : 64 - h ≤ 64 = omega arith in
      let hy : y < 2 ^ (64 - (64 - h)) = subst (λ (k : ℕ). y < 2 ^ k) e last_lt in
      ap (λ (k : ℕ). first o h (64 - h) (skipped o (64 - h) k)) (sym (join_parts o (64 - h) h v) ∙ ap (λ (k : ℕ). join o (64 - h) k F y) e)
      ∙ ap (first o h (64 - h)) (skipped-join o (64 - h) l front_lt hy ∙ ap (λ (k : ℕ). join o k (64 - h) y 0) (sym e))
      ∙ first-join o h (64 - h) last_lt (pow_pos (64 - h))
      ∙ sym (ap (rest o 64 h) regrouped ∙ rest-join o 64 h word_lt last_lt)
