-- Laws of the bytes of a number, over the order: how many they are, those of a longer number, and those of a field.
use mathlib.Core.Path.{◌≡◌, refl, sym, ap, ap₂, ◌∙◌, subst}
use Prim.Native.Nat.{ℕ, zero, suc, ◌+◌, ◌-◌, ◌*◌, ◌^◌, ◌<◌, ◌≤◌}
use native.Mathlib.Nat.{add-zero, zero-add, suc-add}
use native.Mathlib.Omega.{arith}
use mathlib.Core.List.{List, [], ◌∷◌, ◌++◌, append-nil}
use lib.ListN.{get_or, length, take}
use lib.Seq.{take_at}
use lib.Pow.{pow_pos}
use Rattle.bits.specs.declared.Order.{Order}
use Rattle.bits.specs.Field.{join, field}
use Rattle.bits.specs.Word.{first, rest}
use Rattle.bits.proofs.JoinLaws.{join_none, none_join, join_parts, first-join, rest-join, first-lt, rest_lt, rest_none}
use Rattle.bits.proofs.FieldLaws.{field_lt, field_split, field_byte, field-behind}
use Rattle.packing.specs.Packing.{bytes_of}
use Rattle.packing.proofs.PartLaws.{first_of_longer, rest_of_longer, rest_twice}

pub length_bytes : (o : Order) (n r v : ℕ) → length (bytes_of o n r v) ≡ n
unfolding bytes_of
length_bytes o zero r v = refl
length_bytes o (suc n) r v = ap suc (length_bytes o n r (rest o 8 (8 * n + r) v))

pub byte_more : (n r : ℕ) → 8 * suc n + r ≡ 8 + (8 * n + r)
byte_more n r = omega arith

-- the bytes of a number with b more bits behind it: those of the number, then those of what is over with the b bits
pub bytes_append : (o : Order) (n₁ r₁ b n₂ r : ℕ) {v y : ℕ} → r₁ + b ≡ 8 * n₂ + r → v < 2 ^ (8 * n₁ + r₁) → y < 2 ^ b
    → bytes_of o (n₁ + n₂) r (join o (8 * n₁ + r₁) b v y) ≡ bytes_of o n₁ r₁ v ++ bytes_of o n₂ r (join o r₁ b (rest o (8 * n₁) r₁ v) y)
unfolding bytes_of
bytes_append o zero r₁ b n₂ r {v} {y} e hv hy =
    let z : 8 * zero + r₁ ≡ r₁ = omega arith in
    let hv' : v < 2 ^ r₁ = subst (λ (k : ℕ). v < 2 ^ k) z hv in
    let f : zero + n₂ ≡ n₂ = zero-add n₂ in
    rw (f, z, rest_none o r₁ hv')
bytes_append o (suc n₁) r₁ b n₂ r {v} {y} e hv hy =
    let m : ℕ = 8 * n₁ + r₁ in
    let hv' : v < 2 ^ (8 + m) = subst (λ (k : ℕ). v < 2 ^ k) (byte_more n₁ r₁) hv in
    let q : 8 * (n₁ + n₂) + r ≡ m + b = omega arith in
    let t : suc n₁ + n₂ ≡ suc (n₁ + n₂) = suc-add n₁ n₂ in
    let u : 8 * suc n₁ ≡ 8 + 8 * n₁ = omega arith in
    let w : rest o (8 + 8 * n₁) r₁ v ≡ rest o (8 * n₁) r₁ (rest o 8 m v) = rest_twice o 8 (8 * n₁) r₁ hv' in
    ap (λ (k : ℕ). bytes_of o k r (join o (8 * suc n₁ + r₁) b v y)) t
    ∙ ap (λ (k : ℕ). first o 8 (8 * (n₁ + n₂) + r) (join o k b v y) ∷ bytes_of o (n₁ + n₂) r (rest o 8 (8 * (n₁ + n₂) + r) (join o k b v y))) (byte_more n₁ r₁)
    ∙ ap (λ (k : ℕ). first o 8 k (join o (8 + m) b v y) ∷ bytes_of o (n₁ + n₂) r (rest o 8 k (join o (8 + m) b v y))) q
    ∙ ap₂ (λ (h l : ℕ). h ∷ bytes_of o (n₁ + n₂) r l) (first_of_longer o 8 m b hv' hy) (rest_of_longer o 8 m b hv' hy)
    ∙ ap (λ (l : List ℕ). first o 8 m v ∷ l) (bytes_append o n₁ r₁ b n₂ r e (rest_lt o 8 m hv') hy)
    ∙ ap (λ (k : ℕ). first o 8 m v ∷ (bytes_of o n₁ r₁ (rest o 8 m v) ++ bytes_of o n₂ r (join o r₁ b k y))) (sym (ap (λ (k : ℕ). rest o k r₁ v) u ∙ w))

-- the bytes of a number that end before b more bits
pub bytes_longer : (o : Order) (n r b q : ℕ) {v y : ℕ} → r + b ≡ q → v < 2 ^ (8 * n + r) → y < 2 ^ b → bytes_of o n q (join o (8 * n + r) b v y) ≡ bytes_of o n r v
unfolding bytes_of
bytes_longer o n r b q {v} {y} e hv hy =
    let f : r + b ≡ 8 * 0 + q = omega arith in
    ap (λ (k : ℕ). bytes_of o k q (join o (8 * n + r) b v y)) (sym (add-zero n))
    ∙ bytes_append o n r b 0 q f hv hy ∙ append-nil (bytes_of o n r v)

-- the first k bytes of a word
pub bytes_first : (o : Order) (k : ℕ) {x : ℕ} → k ≤ 8 → x < 2 ^ 64 → bytes_of o k (64 - 8 * k) x ≡ take k (bytes_of o 8 0 x)
bytes_first o k {x} l h =
    let e : 64 - 8 * k + 0 ≡ 8 * (8 - k) + 0 = omega arith in
    let f : k + (8 - k) ≡ 8 = omega arith in
    let g : 64 ≡ 8 * k + (64 - 8 * k) = omega arith in
    let front : List ℕ = bytes_of o k (64 - 8 * k) x in
    let later : List ℕ = bytes_of o (8 - k) 0 (join o (64 - 8 * k) 0 (rest o (8 * k) (64 - 8 * k) x) 0) in
    let all : bytes_of o 8 0 x ≡ front ++ later =
    ap₂ (λ (i y : ℕ). bytes_of o i 0 y) (sym f) (sym (join_none o (8 * k + (64 - 8 * k)) x))
    ∙ bytes_append o k (64 - 8 * k) 0 (8 - k) 0 e (subst (λ (i : ℕ). x < 2 ^ i) g h) (pow_pos 0) in
    sym (ap (take k) all ∙ take_at front later k (length_bytes o k (64 - 8 * k) x))

-- ---- bytes of a field

-- the field of a list's first bytes: the first byte, and the field of the others
pub field-cons : (o : Order) (b : ℕ) (bs : List ℕ) (n : ℕ) → b < 2 ^ 8 → field o (b ∷ bs) 0 (8 * suc n) ≡ join o 8 (8 * n) b (field o bs 0 (8 * n))
field-cons o b bs n h =
    let e : 8 * suc n ≡ 8 + 8 * n = omega arith in
    let f : field o (b ∷ bs) (0 + 8) (8 * n) ≡ field o bs 0 (8 * n) =
    field-behind o (b ∷ []) bs 0 (8 * n) in
    ap (field o (b ∷ bs) 0) e ∙ field_split o (b ∷ bs) 0 8 (8 * n) ∙ ap₂ (join o 8 (8 * n)) (field_byte o (b ∷ bs) 0 h) f

-- the bytes of the field of all bytes are the bytes
pub bytes_field : (o : Order) (bs : List ℕ) → ((i : ℕ) → get_or bs i 0 < 2 ^ 8) → bytes_of o (length bs) 0 (field o bs 0 (8 * length bs)) ≡ bs
unfolding bytes_of
bytes_field o [] h = refl
bytes_field o (b ∷ bs) h =
    let n : ℕ = length bs in
    let more : ℕ = field o bs 0 (8 * n) in
    let lt : more < 2 ^ (8 * n) = field_lt o bs 0 (8 * n) in
    ap₂ (λ (k v : ℕ). first o 8 k v ∷ bytes_of o n 0 (rest o 8 k v)) (add-zero (8 * n)) (field-cons o b bs n (h 0))
    ∙ ap₂ (λ (k v : ℕ). k ∷ bytes_of o n 0 v) (first-join o 8 (8 * n) (h 0) lt) (rest-join o 8 (8 * n) (h 0) lt)
    ∙ ap (λ (l : List ℕ). b ∷ l) (bytes_field o bs (λ i. h (suc i)))

-- the field of all bytes of a number is the number
pub field_bytes : (o : Order) (n : ℕ) {v : ℕ} → v < 2 ^ (8 * n) → field o (bytes_of o n 0 v) 0 (8 * n) ≡ v
unfolding bytes_of field
field_bytes o zero {v} h = omega arith
field_bytes o (suc n) {v} h =
    let e : 8 * suc n ≡ 8 + 8 * n = omega arith in
    let h' : v < 2 ^ (8 + 8 * n) = subst (λ (k : ℕ). v < 2 ^ k) e h in
    ap (λ (k : ℕ). field o (first o 8 k v ∷ bytes_of o n 0 (rest o 8 k v)) 0 (8 * suc n)) (add-zero (8 * n))
    ∙ field-cons o (first o 8 (8 * n) v) (bytes_of o n 0 (rest o 8 (8 * n) v)) n (first-lt o 8 (8 * n) h')
    ∙ ap (join o 8 (8 * n) (first o 8 (8 * n) v)) (field_bytes o n (rest_lt o 8 (8 * n) h'))
    ∙ join_parts o 8 (8 * n) v

-- the bytes of two numbers joined, the first of whole bytes: those of the one, then those of the other
pub bytes_two : (o : Order) (n₁ n₂ : ℕ) {v y : ℕ} → v < 2 ^ (8 * n₁) → y < 2 ^ (8 * n₂) → bytes_of o (n₁ + n₂) 0 (join o (8 * n₁) (8 * n₂) v y) ≡ bytes_of o n₁ 0 v ++ bytes_of o n₂ 0 y
bytes_two o n₁ n₂ {v} {y} hv hy =
    let z : 8 * n₁ + 0 ≡ 8 * n₁ = add-zero (8 * n₁) in
    let e : 0 + 8 * n₂ ≡ 8 * n₂ + 0 = omega arith in
    let hv' : v < 2 ^ (8 * n₁ + 0) = subst (λ (k : ℕ). v < 2 ^ k) (sym z) hv in
    let l : rest o (8 * n₁) 0 v < 2 ^ 0 = rest_lt o (8 * n₁) 0 hv' in
    let n : rest o (8 * n₁) 0 v ≡ 0 = omega arith in
    ap (λ (k : ℕ). bytes_of o (n₁ + n₂) 0 (join o k (8 * n₂) v y)) (sym z)
    ∙ bytes_append o n₁ 0 (8 * n₂) n₂ 0 e hv' hy
    ∙ ap (λ (k : ℕ). bytes_of o n₁ 0 v ++ bytes_of o n₂ 0 (join o 0 (8 * n₂) k y)) n
    ∙ ap (λ (k : ℕ). bytes_of o n₁ 0 v ++ bytes_of o n₂ 0 k) (none_join o (8 * n₂) y)
