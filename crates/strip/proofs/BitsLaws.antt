-- Laws of the bits of a record: how they are put together, and where they are found again.
use mathlib.Core.Path.{◌≡◌, sym, ap, ◌∙◌}
use Prim.Native.Nat.{ℕ, ◌+◌, ◌*◌, ◌/◌, ◌%◌, ◌^◌, ◌<◌}
use native.Mathlib.Nat.{mod-lt}
use native.Mathlib.Omega.{arith}
use lib.Pow.{pow_pos}
use mathlib.Core.List.{List, [], ◌∷◌}
use Rattle.bits.specs.declared.Order.TheVariants.{Big}
use Rattle.bits.specs.Field.{join, field}
use Rattle.bits.specs.Word.{first, rest}
use Rattle.bits.proofs.JoinLaws.{join-lt}
use Rattle.bits.proofs.FieldLaws.{field_lt, field_split, field-first, field-rest, head_is, tail_is}
use Rattle.bits.specs.Signed.{signed, pattern}
use Rattle.sign.proofs.SignedLaws.{signed-fits, pattern_lt, pattern-signed, signed-pattern}
use Rattle.record.specs.declared.Record.{Record}
use Rattle.record.specs.declared.inner.Numbers.{Numbers}
use Rattle.record.specs.Record.{Fits, named, record_bits}
use Rattle.strip.specs.Bits.{bits_of, record_at}
use Rattle.strip.specs.Strip.{numbers_of}

-- ---- fields of a field

-- the last four fields of a record out of one of 31 bits
module _ (s : List ℕ) (p : ℕ) where
  pub limit_in : field Big s (p + 58) 31 / 2 ^ 30 ≡ field Big s (p + 58) 1
  unfolding first
  limit_in = field-first Big s (p + 58) 1 30

  pub magnitude_in : field Big s (p + 58) 31 / 2 ^ 14 % 2 ^ 16 ≡ field Big s (p + 59) 16
  unfolding first rest
  magnitude_in =
      let e : p + 58 + 1 ≡ p + 59 = omega arith in
      ap (λ (n : ℕ). n % 2 ^ 16) (field-first Big s (p + 58) 17 14) ∙ field-rest Big s (p + 58) 1 16 ∙ ap (λ (q : ℕ). field Big s q 16) e

  pub error_in : field Big s (p + 58) 31 / 2 ^ 4 % 2 ^ 10 ≡ field Big s (p + 75) 10
  unfolding first rest
  error_in =
      let e : p + 58 + 17 ≡ p + 75 = omega arith in
      ap (λ (n : ℕ). n % 2 ^ 10) (field-first Big s (p + 58) 27 4) ∙ field-rest Big s (p + 58) 17 10 ∙ ap (λ (q : ℕ). field Big s q 10) e

  pub filter_in : field Big s (p + 58) 31 % 2 ^ 4 ≡ field Big s (p + 85) 4
  unfolding rest
  filter_in =
      let e : p + 58 + 27 ≡ p + 85 = omega arith in
      field-rest Big s (p + 58) 27 4 ∙ ap (λ (q : ℕ). field Big s q 4) e

-- a record out of its three parts
pub record_in_lem :
    (s : List ℕ) (p : ℕ) {star date rest : ℕ} → star ≡ field Big s p 20 → date ≡ field Big s (p + 20) 38 → rest ≡ field Big s (p + 58) 31 →
    ◌≡◌ {A = Record} (record { star = star; date = date; limit = rest / 2 ^ 30; magnitude = signed 16 (rest / 2 ^ 14 % 2 ^ 16); error = rest / 2 ^ 4 % 2 ^ 10; filter = rest % 2 ^ 4 }) (record_at s p)
unfolding record_at
record_in_lem s p star date rest =
    let limit = ap (λ (n : ℕ). n / 2 ^ 30) rest ∙ limit_in s p in
    let magnitude = ap (λ (n : ℕ). signed 16 (n / 2 ^ 14 % 2 ^ 16)) rest ∙ ap (signed 16) (magnitude_in s p) in
    let error = ap (λ (n : ℕ). n / 2 ^ 4 % 2 ^ 10) rest ∙ error_in s p in
    let filter = ap (λ (n : ℕ). n % 2 ^ 4) rest ∙ filter_in s p in
    λ i. record { star = star i; date = date i; limit = limit i; magnitude = magnitude i; error = error i; filter = filter i }

-- numbers out of them name it
abbrev pub parts_of : ℕ → ℕ → ℕ → Numbers
parts_of star date rest = record { star = star; date = date; limit = rest / 2 ^ 30; magnitude = pattern 64 (signed 16 (rest / 2 ^ 14 % 2 ^ 16)); error = rest / 2 ^ 4 % 2 ^ 10; filter = rest % 2 ^ 4 }

pub named_in :
    (s : List ℕ) (p : ℕ) {star date rest : ℕ} {six : Numbers} → star ≡ field Big s p 20 → date ≡ field Big s (p + 20) 38 → rest ≡ field Big s (p + 58) 31 →
    six ≡ parts_of star date rest → named six ≡ record_at s p
named_in s p {rest} e₁ e₂ e₃ six =
    let small = signed-fits 15 (rest / 2 ^ 14 % 2 ^ 16) (mod-lt _ (pow_pos 16)) in
    let m : signed 64 (pattern 64 (signed 16 (rest / 2 ^ 14 % 2 ^ 16))) ≡ signed 16 (rest / 2 ^ 14 % 2 ^ 16) = signed-pattern 63 _ (omega (arith, small)) in
    ap named six ∙ rw m (record_in_lem s p e₁ e₂ e₃)

-- its numbers, as they are stored
pub numbers_in :
    (s : List ℕ) (p : ℕ) {star date rest : ℕ} → star ≡ field Big s p 20 → date ≡ field Big s (p + 20) 38 → rest ≡ field Big s (p + 58) 31 →
    ◌≡◌ {A = List ℕ} (star ∷ date ∷ rest / 2 ^ 30 ∷ pattern 64 (signed 16 (rest / 2 ^ 14 % 2 ^ 16)) ∷ rest / 2 ^ 4 % 2 ^ 10 ∷ rest % 2 ^ 4 ∷ []) (numbers_of (record_at s p))
numbers_in s p star date rest = ap numbers_of (record_in_lem s p star date rest)

-- ---- the bits of a record

-- as the code puts them: 56, and the other 33
pub bits_in_two :
    (star date limit magnitude error filter : ℕ) → magnitude < 2 ^ 16 →
    join Big 56 33 (star * 2 ^ 36 + date / 4) (date % 4 * 2 ^ 31 + limit * 2 ^ 30 + magnitude * 2 ^ 14 + error * 16 + filter)
    ≡ bits_of (record { star = star; date = date; limit = limit; magnitude = signed 16 magnitude; error = error; filter = filter })
unfolding join bits_of
bits_in_two star date limit magnitude error filter h = rw (pattern-signed 16 magnitude h) (omega arith)

-- the parts of a record's bits are below 2 to their widths
module _ (r : Record) (h : Fits r) where
  abbrev up_to58 : ℕ
  up_to58 = join Big 20 38 r.star r.date

  abbrev up_to59 : ℕ
  up_to59 = join Big 58 1 up_to58 r.limit

  abbrev up_to75 : ℕ
  up_to75 = join Big 59 16 up_to59 (pattern 16 r.magnitude)

  abbrev up_to85 : ℕ
  up_to85 = join Big 75 10 up_to75 r.error

  up_to58_lt : up_to58 < 2 ^ 58
  up_to58_lt = join-lt Big 20 38 h.star h.date

  up_to59_lt : up_to59 < 2 ^ 59
  up_to59_lt = join-lt Big 58 1 up_to58_lt h.limit

  up_to75_lt : up_to75 < 2 ^ 75
  up_to75_lt = join-lt Big 59 16 up_to59_lt (pattern_lt 16 r.magnitude)

  up_to85_lt : up_to85 < 2 ^ 85
  up_to85_lt = join-lt Big 75 10 up_to75_lt h.error

  pub bits-lt : bits_of r < 2 ^ record_bits
  unfolding bits_of
  bits-lt = join-lt Big 85 4 up_to85_lt h.filter

  -- where they stand, the record is found
  pub bits_found : (s : List ℕ) (p : ℕ) → field Big s p record_bits ≡ bits_of r → record_at s p ≡ r
  unfolding bits_of record_at
  bits_found s p e =
      let e85 : field Big s p 85 ≡ up_to85 = head_is Big s p 85 4 up_to85_lt h.filter e in
      let e75 : field Big s p 75 ≡ up_to75 = head_is Big s p 75 10 up_to75_lt h.error e85 in
      let e59 : field Big s p 59 ≡ up_to59 = head_is Big s p 59 16 up_to59_lt (pattern_lt 16 r.magnitude) e75 in
      let e58 : field Big s p 58 ≡ up_to58 = head_is Big s p 58 1 up_to58_lt h.limit e59 in
      let star = head_is Big s p 20 38 h.star h.date e58 in
      let date = tail_is Big s p 20 38 h.star h.date e58 in
      let limit = tail_is Big s p 58 1 up_to58_lt h.limit e59 in
      let magnitude = ap (signed 16) (tail_is Big s p 59 16 up_to59_lt (pattern_lt 16 r.magnitude) e75) ∙ signed-pattern 15 r.magnitude h.magnitude in
      let error = tail_is Big s p 75 10 up_to75_lt h.error e85 in
      let filter = tail_is Big s p 85 4 up_to85_lt h.filter e in
      λ i. record { star = star i; date = date i; limit = limit i; magnitude = magnitude i; error = error i; filter = filter i }

-- the bits of the record found at a place are the bits there
pub found_bits : (s : List ℕ) (p : ℕ) → bits_of (record_at s p) ≡ field Big s p record_bits
unfolding bits_of record_at
found_bits s p =
    rw (pattern-signed 16 (field Big s (p + 59) 16) (field_lt Big s (p + 59) 16))
    (sym (rw (field_split Big s p 85 4, field_split Big s p 75 10, field_split Big s p 59 16, field_split Big s p 58 1, field_split Big s p 20 38)))
