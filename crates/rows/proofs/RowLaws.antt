-- Laws of rows: their length, their columns, and their bytes as the code stores them.
use mathlib.Core.Path.{◌≡◌, sym, ap, ap₂, ◌∙◌, subst}
use mathlib.Core.Bool.{true}
use mathlib.Core.List.{List, [], ◌++◌, ◌∷◌, append_assoc}
use Prim.Native.Nat.{ℕ, zero, suc, ◌+◌, ◌*◌, ◌/◌, ◌^◌, ◌<◌, ◌≤◌}
use native.Mathlib.Nat.{add-zero, mod-eq_of_lt}
use native.Mathlib.Omega.{arith}
use lib.ListN.{length, get_or, take}
use lib.Seq.{get_or-take, length-take-le, sets}
use lib.IntN.{pos}
use lib.Pow.{pow_pos}
use Rattle.bits.specs.declared.Order.TheVariants.{Big}
use Rattle.bits.specs.Field.{join, field}
use Rattle.bits.proofs.JoinLaws.{join-lt, join_assoc}
use Rattle.bits.proofs.FieldLaws.{field_same, bit_same}
use Rattle.bits.specs.Signed.{signed, pattern}
use Rattle.packing.specs.Packing.{bytes_of}
use Rattle.packing.proofs.BytesLaws.{length_bytes, bytes_two, bytes_field, field_bytes}
use Rattle.bits.proofs.StoreLaws.{sets-append, under, past}
use Rattle.sign.proofs.SignedLaws.{pattern-signed}
use Rattle.record.specs.declared.Record.{Record}
use Rattle.record.specs.Record.{Fits}
use Rattle.rows.specs.Row.{Columns, columns_at, letter, columns_of, bits_of_columns, row_bytes, in_range, record_said, row_length, row_bits}
use Rattle.rows.proofs.ColumnLaws.{record_typed, columns_lt, found_columns, record_columns, letter-lt}

pub row_length_lem : (r : Record) → length (row_bytes r) ≡ row_length
unfolding row_bytes
row_length_lem r = length_bytes Big row_length 0 (bits_of_columns (columns_of r))

-- bytes stay bytes
take_small : (n : ℕ) (s : List ℕ) → ((i : ℕ) → get_or s i 0 < 2 ^ 8) → (i : ℕ) → get_or (take n s) i 0 < 2 ^ 8
take_small zero s h i = pow_pos 8
take_small (suc n) [] h i = pow_pos 8
take_small (suc n) (b ∷ s) h zero = h 0
take_small (suc n) (b ∷ s) h (suc i) = take_small n s (λ j. h (suc j)) i

-- a number that fits is its own bits
plain : (w n : ℕ) → n < 2 ^ w → pattern w (pos n) ≡ n
unfolding pattern
plain w n h = mod-eq_of_lt h

-- ---- as the code stores them: three words that overlap

-- eight bytes, eight that end six behind the next eight, and the eight between: of the first two runs four and six bytes stay
pub overlapped : (a₁ a₂ b₁ b₂ d s : List ℕ) (at : ℕ) → length a₁ ≡ 4 → length a₂ ≡ 4 → length b₁ ≡ 2 → length d ≡ 8
    → sets (sets (sets s at (a₁ ++ a₂)) (at + 10) (b₁ ++ b₂)) (at + 4) d ≡ sets s at (a₁ ++ (d ++ b₂))
overlapped a₁ a₂ b₁ b₂ d s at ha₁ ha₂ hb hd =
    let u : List ℕ = sets s at a₁ in
    let e₁ : at + length a₁ ≡ at + 4 = omega arith in
    let e₂ : at + 10 + length b₁ ≡ at + 12 = omega arith in
    let e₃ : at + 4 + length d ≡ at + 12 = omega arith in
    let first : sets s at (a₁ ++ a₂) ≡ sets u (at + 4) a₂ = sets-append a₁ a₂ s at ∙ ap (λ (k : ℕ). sets u k a₂) e₁ in
    let v : List ℕ = sets u (at + 4) a₂ in
    let second : sets v (at + 10) (b₁ ++ b₂) ≡ sets (sets v (at + 10) b₁) (at + 12) b₂ = sets-append b₁ b₂ v (at + 10) ∙ ap (λ (k : ℕ). sets (sets v (at + 10) b₁) k b₂) e₂ in
    let w : List ℕ = sets v (at + 10) b₁ in
    ap (λ (t : List ℕ). sets (sets t (at + 10) (b₁ ++ b₂)) (at + 4) d) first
    ∙ ap (λ (t : List ℕ). sets t (at + 4) d) second
    ∙ past b₂ d w (at + 12) (at + 4) (omega arith)
    ∙ ap (λ (t : List ℕ). sets t (at + 12) b₂) (under b₁ d v (at + 10) (at + 4) (omega arith) (omega arith) ∙ under a₂ d u (at + 4) (at + 4) (omega arith) (omega arith))
    ∙ ap (λ (k : ℕ). sets (sets u (at + 4) d) k b₂) (sym e₃)
    ∙ sym (sets-append d b₂ u (at + 4))
    ∙ ap (λ (k : ℕ). sets u k (d ++ b₂)) (sym e₁)
    ∙ sym (sets-append a₁ (d ++ b₂) s at)

module _ (star date limit magnitude error filter : ℕ) where
  abbrev pub as_record : Record
  as_record = record { star = star; date = date; limit = limit; magnitude = signed 16 magnitude; error = error; filter = filter }

  -- the last four columns, 48 bits
  abbrev pub low : ℕ
  low = letter limit * 2 ^ 40 + magnitude * 2 ^ 24 + error * 2 ^ 8 + filter

  module _ (hs : star < 2 ^ 20) (hd : date < 2 ^ 38) (hm : magnitude < 2 ^ 16) (he : error < 2 ^ 10) (hf : filter < 2 ^ 4) where
    low_lt : low < 2 ^ 48
    low_lt = omega (arith, letter-lt limit)

    low_is : low ≡ join Big 40 8 (join Big 24 16 (join Big 8 16 (letter limit) magnitude) error) filter
    unfolding join
    low_is = omega arith

    bits_in_parts : bits_of_columns (columns_of as_record) ≡ join Big 96 48 (join Big 32 64 star date) low
    unfolding bits_of_columns columns_of
    bits_in_parts =
        let l : ℕ = letter limit in
        let x : ℕ = join Big 32 64 star date in
        let lm : ℕ = join Big 8 16 l magnitude in
        let lme : ℕ = join Big 24 16 lm error in
        let star_is : pattern 32 (pos star) ≡ star = plain 32 star (omega arith) in
        let date_is : pattern 64 (pos date) ≡ date = plain 64 date (omega arith) in
        let error_is : pattern 16 (pos error) ≡ error = plain 16 error (omega arith) in
        (λ i. join Big 136 8 (join Big 120 16 (join Big 104 16 (join Big 96 8 (join Big 32 64 (star_is i) (date_is i)) l) (pattern-signed 16 magnitude hm i)) (error_is i)) filter)
        ∙ ap (λ (k : ℕ). join Big 136 8 (join Big 120 16 k error) filter) (join_assoc Big 96 8 16 x l magnitude)
        ∙ ap (λ (k : ℕ). join Big 136 8 k filter) (join_assoc Big 96 24 16 x lm error)
        ∙ join_assoc Big 96 40 8 x lme filter
        ∙ ap (join Big 96 48 x) (sym low_is)

    -- a row's bytes
    row_in_parts : row_bytes as_record ≡ bytes_of Big 4 0 star ++ (bytes_of Big 8 0 date ++ bytes_of Big 6 0 low)
    unfolding row_bytes
    row_in_parts =
        let ls : star < 2 ^ 32 = omega arith in
        let ld : date < 2 ^ 64 = omega arith in
        ap (bytes_of Big 18 0) bits_in_parts
        ∙ bytes_two Big 12 6 (join-lt Big 32 64 ls ld) low_lt
        ∙ ap (λ (a : List ℕ). a ++ bytes_of Big 6 0 low) (bytes_two Big 4 8 ls ld)
        ∙ append_assoc (bytes_of Big 4 0 star) (bytes_of Big 8 0 date) (bytes_of Big 6 0 low)

    -- the words with what stands beside the columns in them
    star_word : bytes_of Big 8 0 (star * 2 ^ 32) ≡ bytes_of Big 4 0 star ++ bytes_of Big 4 0 0
    unfolding join
    star_word =
        let ls : star < 2 ^ 32 = omega arith in
        ap (bytes_of Big 8 0) (sym (add-zero (star * 2 ^ 32))) ∙ bytes_two Big 4 4 ls (pow_pos 32)

    low_word : bytes_of Big 8 0 low ≡ bytes_of Big 2 0 0 ++ bytes_of Big 6 0 low
    unfolding join
    low_word =
        let z : 0 * 2 ^ 48 + low ≡ low = omega arith in
        ap (bytes_of Big 8 0) (sym z) ∙ bytes_two Big 2 6 (pow_pos 16) low_lt

    -- stored one after the other
    pub row_stored :
        (s t₁ t₂ t₃ : List ℕ) (at l : ℕ) → l ≡ letter limit → t₁ ≡ sets s at (bytes_of Big 8 0 (star * 2 ^ 32)) →
        t₂ ≡ sets t₁ (at + 10) (bytes_of Big 8 0 (l * 2 ^ 40 + magnitude * 2 ^ 24 + error * 2 ^ 8 + filter)) → t₃ ≡ sets t₂ (at + 4) (bytes_of Big 8 0 date) →
        t₃ ≡ sets s at (row_bytes as_record)
    row_stored s t₁ t₂ t₃ at l e₀ e₁ e₂ e₃ =
        let d : List ℕ = bytes_of Big 8 0 date in
        let m : bytes_of Big 8 0 (l * 2 ^ 40 + magnitude * 2 ^ 24 + error * 2 ^ 8 + filter) ≡ bytes_of Big 2 0 0 ++ bytes_of Big 6 0 low =
        ap (λ (k : ℕ). bytes_of Big 8 0 (k * 2 ^ 40 + magnitude * 2 ^ 24 + error * 2 ^ 8 + filter)) e₀ ∙ low_word in
        let one : t₁ ≡ sets s at (bytes_of Big 4 0 star ++ bytes_of Big 4 0 0) = e₁ ∙ ap (sets s at) star_word in
        let two : t₂ ≡ sets (sets s at (bytes_of Big 4 0 star ++ bytes_of Big 4 0 0)) (at + 10) (bytes_of Big 2 0 0 ++ bytes_of Big 6 0 low) =
        e₂ ∙ ap₂ (λ (t b : List ℕ). sets t (at + 10) b) one m in
        e₃ ∙ ap (λ (t : List ℕ). sets t (at + 4) d) two
        ∙ overlapped (bytes_of Big 4 0 star) (bytes_of Big 4 0 0) (bytes_of Big 2 0 0) (bytes_of Big 6 0 low) d s at
        (length_bytes Big 4 0 star) (length_bytes Big 4 0 0) (length_bytes Big 2 0 0) (length_bytes Big 8 0 date)
        ∙ ap (sets s at) (sym row_in_parts)

-- ---- rows and records

module _ (r : Record) (fit : Fits r) where
  -- the bits of a record's row are those of its columns
  pub row_bits_lem : field Big (row_bytes r) 0 row_bits ≡ bits_of_columns (columns_of r)
  unfolding row_bytes
  row_bits_lem = field_bytes Big 18 (columns_lt (columns_of r) (record_typed r fit))

-- the row of the record that columns in range say is the bytes that stand there
module _ (s : List ℕ) (bytes : (i : ℕ) → get_or s i 0 < 2 ^ 8) (there : row_length ≤ length s) (good : in_range (columns_at s 0) ≡ true) where
  pub same_row : row_bytes (record_said (columns_at s 0)) ≡ take row_length s
  unfolding row_bytes
  same_row =
      let t : List ℕ = take row_length s in
      let len : length t ≡ row_length = length-take-le row_length s there in
      let e : field Big s 0 row_bits ≡ field Big t 0 row_bits =
      field_same Big s t 0 0 row_bits (λ k l. bit_same Big s t (0 + k) (sym (get_or-take row_length s ((0 + k) / 8) 0 (omega arith)))) in
      ap (λ (c : Columns). bytes_of Big 18 0 (bits_of_columns c)) (record_columns (columns_at s 0) good)
      ∙ ap (bytes_of Big 18 0) (found_columns s 0 ∙ e)
      ∙ subst (λ (n : ℕ). bytes_of Big n 0 (field Big t 0 (8 * n)) ≡ t) len (bytes_field Big t (λ i. take_small row_length s bytes i))
