-- Laws of the values of fields, and of values put at the front of a list.
use Prim.Native.Nat.{ℕ, zero, suc, ◌+◌, ◌^◌, ◌<◌, ◌≤◌}
use mathlib.Core.Path.{◌≡◌, refl, sym, ap, ap₂, ◌∙◌}
use mathlib.Core.List.{List, [], ◌∷◌, ◌++◌}
use native.Mathlib.Nat.{add-zero, add_assoc}
use native.Mathlib.Omega.{arith}
use lib.ListN.{length, take, drop, get_or}
use lib.Pow.{pow_mono}
use lib.Seq.{sets}
use Rattle.bits.specs.declared.Order.{Order}
use Rattle.bits.specs.Field.{field}
use Rattle.bits.specs.Signed.{signed}
use Rattle.sign.proofs.SignedLaws.{signed-fits, signed-pattern}
use Rattle.layout.specs.Layout.{Item, item, bits_of}
use Rattle.bits.proofs.StoreLaws.{front, front_take}
use Rattle.plan.specs.Run.{pattern_of, values_of}

-- ---- values put at the front

-- values that were put at the front of a list, put at another's
pub front_put : (l zeros xs : List ℕ) {v : List ℕ} {n : ℕ} → v ≡ sets zeros 0 xs → n ≡ length xs → length xs ≤ length zeros → sets l 0 (take n v) ≡ sets l 0 xs
front_put l zeros xs p q h = ap (sets l 0) (ap₂ take q p ∙ front_take xs zeros h)

-- the same, copied to the front of another
pub front_copied :
    (l zeros xs : List ℕ) {v : List ℕ} {n : ℕ} → v ≡ sets zeros 0 xs → n ≡ length xs → length xs ≤ length zeros → length xs ≤ length l →
    take n v ++ drop n l ≡ sets l 0 xs
front_copied l zeros xs p q h k =
    (λ i. take (q i) (p i) ++ drop (q i) l) ∙ ap (λ (t : List ℕ). t ++ drop (length xs) l) (front_take xs zeros h) ∙ sym (front xs l k)

-- ---- values

-- a signed field's pattern, read as 64 signed bits, is the field's signed meaning
pub signed_value : (w v : ℕ) → w ≤ 64 → v < 2 ^ w → signed 64 (pattern_of 1 w v) ≡ signed w v
unfolding pattern_of signed
signed_value zero v h k = signed-pattern 63 (signed 0 v) (omega arith)
signed_value (suc j) v h k =
    let few : j ≤ 63 = omega arith in
    let more : 2 ^ j ≤ 2 ^ 63 = pow_mono few in
    signed-pattern 63 (signed (suc j) v) (omega (arith, signed-fits j v k))

-- a value a field
pub length_values : (o : Order) (s : List ℕ) (p : ℕ) (fs : List Item) → length (values_of o s p fs) ≡ length fs
unfolding values_of
length_values o s p [] = refl
length_values o s p (f ∷ fs) = ap suc (length_values o s (p + f.width) fs)

-- value i is that of field i, at its place behind the fields before it
pub value_at :
    (o : Order) (s : List ℕ) (p : ℕ) (fs : List Item) (i : ℕ) → i < length fs →
    let f = get_or fs i (item 0 0) in get_or (values_of o s p fs) i 0 ≡ pattern_of f.kind f.width (field o s (p + bits_of (take i fs)) f.width)
unfolding values_of bits_of
value_at o s p [] i h = absurd (omega arith)
value_at o s p (f ∷ fs) zero h = rw add-zero
value_at o s p (f ∷ fs) (suc i) h = value_at o s (p + f.width) fs i (omega arith) ∙ rw add_assoc
