-- The bytes of a strip: the records as one number, and the padding. They and the records are one to one.
use mathlib.Core.Path.{◌≡◌, sym, ap, ap₂, ◌∙◌, subst}
use mathlib.Core.Bool.{true}
use mathlib.Core.List.{List}
use Prim.Native.Nat.{ℕ, ◌+◌, ◌*◌, ◌%◌, ◌^◌, ◌<◌, ◌≤◌}
use native.Mathlib.Nat.{zero-add}
use native.Mathlib.Omega.{arith}
use lib.ListN.{length, get_or}
use lib.Seq.{sets}
use lib.Pow.{pow_pos}
use borrow.Author.Tests.{lt-ltb, ltb-true, eq-eqb, eqb-true}
use Rattle.bits.specs.declared.Order.TheVariants.{Big}
use Rattle.bits.specs.Refusals.{longest, done}
use Rattle.bits.specs.Field.{field, join}
use Rattle.bits.proofs.TestLaws.{both}
use Rattle.bits.proofs.JoinLaws.{join-lt}
use Rattle.bits.proofs.FieldLaws.{head_is, tail_is, field_split}
use Rattle.packing.specs.Packing.{bytes_of}
use Rattle.packing.proofs.BytesLaws.{length_bytes, bytes_field, field_bytes}
use Rattle.record.specs.declared.Record.{Record}
use Rattle.record.specs.Record.{record_bits}
use Rattle.strip.specs.Strip.{all_numbers, all_fit, joined, strip_length, strip_padding, strip_bytes, count_of, records_of, tail_good}
use Rattle.strip.specs.Answers.{list_of, list_out}
use Rattle.strip.proofs.AnswerLaws.{list_done}
use Rattle.strip.proofs.PackedLaws.{joined-lt, records_found, records_count, joined_found}

pub length_strip : (rs : List Record) → length (strip_bytes rs) ≡ strip_length (length rs)
unfolding strip_bytes
length_strip rs = length_bytes Big (strip_length (length rs)) 0 _

-- ---- from records to bytes and back

-- what is over behind n records
left_over : {x : ℕ} (n q : ℕ) → x ≡ record_bits * n + q → q < 8 → x % record_bits ≡ q
left_over n q e h = omega arith

module _ (rs : List Record) (fit : all_fit rs ≡ true) where
  -- the bits of the records, and of the padding
  abbrev bits : ℕ
  bits = record_bits * length rs

  abbrev pad : ℕ
  pad = strip_padding (length rs)

  whole : 8 * strip_length (length rs) ≡ bits + pad
  whole = omega arith

  all_bits : field Big (strip_bytes rs) 0 (bits + pad) ≡ join Big bits pad (joined rs) 0
  unfolding strip_bytes
  all_bits =
      let v : ℕ = join Big bits pad (joined rs) 0 in
      let lt : v < 2 ^ (bits + pad) = join-lt Big bits pad (joined-lt rs fit) (pow_pos pad) in
      ap (field Big (strip_bytes rs) 0) (sym whole) ∙ field_bytes Big (strip_length (length rs)) (subst (λ (k : ℕ). v < 2 ^ k) (sym whole) lt)

  pub strip_count : count_of (strip_bytes rs) ≡ length rs
  strip_count = omega (arith, length_strip rs)

  pub strip_records : records_of (strip_bytes rs) ≡ rs
  strip_records = rw strip_count (records_found rs (strip_bytes rs) 0 fit (head_is Big (strip_bytes rs) 0 bits pad (joined-lt rs fit) (pow_pos pad) all_bits))

  pub strip_tail : tail_good (strip_bytes rs) ≡ true
  unfolding tail_good
  strip_tail =
      let b : List ℕ = strip_bytes rs in
      let few : pad < 8 = omega arith in
      let left : 8 * length b % record_bits ≡ pad = left_over (length rs) pad (ap (λ (k : ℕ). 8 * k) (length_strip rs) ∙ whole) few in
      let z : field Big b (0 + bits) pad ≡ 0 = tail_is Big b 0 bits pad (joined-lt rs fit) (pow_pos pad) all_bits in
      rw (strip_count, left, lt-ltb pad 8 few) (eq-eqb (field Big b bits pad) 0 (ap (λ (p : ℕ). field Big b p pad) (sym (zero-add bits)) ∙ z))

  -- read into a list with room
  pub strip_read : (ms : List ℕ) → strip_length (length rs) ≤ longest → 6 * length rs ≤ length ms
      → (list_of (strip_bytes rs) (length ms) ≡ record { refusal = done; count = length rs; tail_good = true }) × (list_out (strip_bytes rs) ms ≡ sets ms 0 (all_numbers rs))
  strip_read ms short enough =
      let (answer, memory) = list_done (strip_bytes rs) ms (omega (arith, length_strip rs)) (omega (arith, strip_count)) in
      (answer ∙ (λ i. record { refusal = done; count = strip_count i; tail_good = strip_tail i }), memory ∙ ap (λ (xs : List Record). sets ms 0 (all_numbers xs)) strip_records)

-- ---- from bytes to records and back

-- a strip with a good tail is the strip of its records, byte for byte
pub strip_same : (b : List ℕ) → ((i : ℕ) → get_or b i 0 < 2 ^ 8) → tail_good b ≡ true → strip_bytes (records_of b) ≡ b
unfolding tail_good strip_bytes
strip_same b bytes good =
    let (short, zeros) = both good in
    let k : ℕ = count_of b in
    let n : ℕ = record_bits * k in
    let len : length (records_of b) ≡ k = records_count b 0 k in
    let lt : 8 * length b % record_bits < 8 = ltb-true _ _ short in
    let left : 8 * length b ≡ n + 8 * length b % record_bits = omega arith in
    let size : strip_length k ≡ length b = omega (arith, lt, left) in
    let pad : 8 * length b % record_bits ≡ strip_padding k = omega (arith, left, size) in
    let all : n + strip_padding k ≡ 8 * length b = omega (arith, left, pad) in
    let z : field Big b (0 + n) (strip_padding k) ≡ 0 = ap₂ (field Big b) (zero-add n) (sym pad) ∙ eqb-true _ _ zeros in
    let number : join Big n (strip_padding k) (joined (records_of b)) 0 ≡ field Big b 0 (8 * length b) =
    ap₂ (join Big n (strip_padding k)) (joined_found b 0 k) (sym z) ∙ sym (field_split Big b 0 n (strip_padding k)) ∙ ap (field Big b 0) all in
    ap (λ (j : ℕ). bytes_of Big (strip_length j) 0 (join Big (record_bits * j) (strip_padding j) (joined (records_of b)) 0)) len
    ∙ ap₂ (λ (j v : ℕ). bytes_of Big j 0 v) size number ∙ bytes_field Big b bytes
