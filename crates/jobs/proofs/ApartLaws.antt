-- No message is a strip or a table of rows: they have other lengths, but for a number behind words in twelve bytes, which ends with another
-- byte than a strip.
use Prim.Native.Nat.{ℕ, zero, suc, ◌+◌, ◌-◌, ◌*◌, ◌%◌, ◌^◌, ◌<◌, ◌≤◌}
use mathlib.Core.Path.{◌≡◌, sym, ap, ap₂, ◌∙◌}
use mathlib.Core.Bool.{true}
use mathlib.Core.List.{List, [], ◌∷◌, ◌++◌}
use lib.ListN.{length, get_or}
use lib.Seq.{get_or-append-add, get_or_at}
use lib.Dec.{eqb, ltb}
use native.Mathlib.Omega.{arith}
use borrow.Author.Tests.{eqb-true}
use Rattle.bits.specs.declared.Order.TheVariants.{Big}
use Rattle.bits.specs.Field.{field}
use Rattle.bits.specs.Word.{rest}
use Rattle.bits.proofs.TestLaws.{both}
use Rattle.bits.proofs.FieldLaws.{byte_rest}
use Rattle.digits.specs.Digits.{newline}
use Rattle.print.specs.Print.{places, whole_of}
use Rattle.print.proofs.DigitLaws.{digits_length, places_few}
use Rattle.record.specs.declared.Record.{Record}
use Rattle.record.specs.Record.{record_bits}
use Rattle.strip.specs.Strip.{all_fit, strip_length, strip_bytes, count_of, tail_good}
use Rattle.strip.proofs.StripLaws.{length_strip, strip_tail}
use Rattle.rows.specs.Row.{row_length}
use Rattle.rows.specs.Rows.{rows_bytes}
use Rattle.rows.proofs.RowsLaws.{rows_length}
use Rattle.text.specs.Text.{bad_tail}
use Rattle.text.proofs.HeaderLaws.{length-bad_tail}
use Rattle.jobs.specs.Jobs.{too_long_said, bad_line_said, bad_row_said}
use Rattle.jobs.proofs.MessageLaws.{too_long_is, numbered, numbered_length, bad_line_bytes, bad_line_is, bad_row_bytes, bad_row_is}

-- between nine bytes and twenty, a strip has twelve
between : (k : ℕ) {n : ℕ} → n ≡ strip_length k → 9 ≤ n → n ≤ 20 → n ≡ 12
between zero e a b = absurd (omega arith)
between (suc zero) e a b = omega arith
between (suc (suc k)) e a b = absurd (omega arith)

-- and no message of nine bytes is one
nine_apart : (rs : List Record) {x : List ℕ} → length x ≡ 9 → strip_bytes rs ≡ x → ⊥
nine_apart rs nine e =
    let size : length (strip_bytes rs) ≡ 9 = ap length e ∙ nine in
    omega (arith, size, between (length rs) (length_strip rs) (omega (arith, size)) (omega (arith, size)))

pub too_long_apart : (rs : List Record) → strip_bytes rs ≡ too_long_said → ⊥
too_long_apart rs = nine_apart rs (ap length too_long_is)

pub bad_tail_apart : (rs : List Record) → strip_bytes rs ≡ bad_tail → ⊥
bad_tail_apart rs = nine_apart rs length-bad_tail

-- a strip of twelve bytes ends in seven zeros
zeros_last : (b : List ℕ) → tail_good b ≡ true → length b ≡ 12 → get_or b 11 0 < 2 ^ 8 → get_or b 11 0 % 2 ^ 7 ≡ 0
unfolding tail_good rest
zeros_last b good size small =
    let zeros = (both {a = ltb (8 * length b % record_bits) 8} {b = eqb (field Big b (record_bits * count_of b) (8 * length b % record_bits)) 0} good).1 in
    let at : record_bits * count_of b ≡ 8 * 11 + 1 = omega (arith, size) in
    let left : 8 * length b % record_bits ≡ 8 - 1 = omega (arith, size) in
    byte_rest Big b 11 1 small (omega arith) ∙ ap₂ (field Big b) (sym at) (sym left) ∙ eqb-true _ _ zeros

-- nor one with a number: where it has twelve bytes, the last is a newline
module _ (words : List ℕ) (n : ℕ) (some : 8 ≤ length words) (few : length words ≤ 9) where
  newline_last : length words + places n ≡ 11 → get_or (numbered words n) 11 0 ≡ newline
  newline_last e =
      ap (λ (k : ℕ). get_or (numbered words n) k 0) (sym e)
      ∙ get_or-append-add words (whole_of n ++ newline ∷ []) (places n) 0
      ∙ get_or_at (whole_of n) newline [] 0 (places n) (digits_length (places n) n)

  numbered_apart : (rs : List Record) → all_fit rs ≡ true → n < 10 ^ 10 → strip_bytes rs ≡ numbered words n → ⊥
  numbered_apart rs fit small e =
      let size : length (strip_bytes rs) ≡ length words + (places n + 1) = ap length e ∙ numbered_length words n in
      let most = places_few 9 9 n small in
      let twelve = between (length rs) (length_strip rs) (omega (arith, size)) (omega (arith, size, most)) in
      let last : get_or (strip_bytes rs) 11 0 ≡ 10 = ap (λ (l : List ℕ). get_or l 11 0) e ∙ newline_last (omega (arith, size, twelve)) in
      let z = zeros_last (strip_bytes rs) (strip_tail rs fit) twelve (omega (arith, last)) in
      omega (arith, z, last)

module _ (rs : List Record) (n : ℕ) (fit : all_fit rs ≡ true) (small : n < 10 ^ 10) where
  pub bad_line_apart : strip_bytes rs ≡ bad_line_said n → ⊥
  bad_line_apart e = numbered_apart bad_line_bytes n (omega arith) (omega arith) rs fit small (e ∙ bad_line_is n)

  pub bad_row_apart : strip_bytes rs ≡ bad_row_said n → ⊥
  bad_row_apart e = numbered_apart bad_row_bytes n (omega arith) (omega arith) rs fit small (e ∙ bad_row_is n)

-- ---- rows

-- no message of nine bytes is a table of rows
rows_nine_apart : (rs : List Record) {x : List ℕ} → length x ≡ 9 → rows_bytes rs ≡ x → ⊥
rows_nine_apart rs nine e = let size : row_length * length rs ≡ 9 = sym (rows_length rs) ∙ ap length e ∙ nine in omega arith

pub rows_too_long_apart : (rs : List Record) → rows_bytes rs ≡ too_long_said → ⊥
rows_too_long_apart rs = rows_nine_apart rs (ap length too_long_is)

pub rows_bad_tail_apart : (rs : List Record) → rows_bytes rs ≡ bad_tail → ⊥
rows_bad_tail_apart rs = rows_nine_apart rs length-bad_tail
