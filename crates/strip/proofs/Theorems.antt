-- What is promised of records and strips, in words of the definitions.
use mathlib.Core.Path.{◌≡◌, sym, ap, ap₂, ◌∙◌}
use mathlib.Core.Bool.{true}
use mathlib.Core.List.{List}
use Prim.Native.Nat.{ℕ, ◌+◌, ◌*◌, ◌^◌, ◌<◌, ◌≤◌}
use native.Mathlib.Nat.{zero-add}
use native.Mathlib.Omega.{arith}
use lib.ListN.{length, get_or, take}
use lib.Seq.{sets, length-take-le}
use Rattle.bits.specs.declared.Order.TheVariants.{Big}
use Rattle.bits.specs.Refusals.{longest, done, too_few}
use Rattle.bits.specs.Field.{field}
use Rattle.bits.proofs.StoreLaws.{front_take}
use Rattle.reader.specs.Answers as R
use Rattle.writer.specs.declared.Writer.{Writer}
use Rattle.writer.specs.Writer.{bits_written}
use Rattle.writer.specs.Answers.{flush_of, flush_out}
use Rattle.writer.specs.Answers as W
use Rattle.writer.proofs.FlushLaws.{stored_found}
use Rattle.record.specs.declared.Record.{Record}
use Rattle.record.specs.Record.{Fits, record_bits, no_record}
use Rattle.record.proofs.FitLaws.{fits-true}
use Rattle.strip.specs.Bits.{bits_of, record_at}
use Rattle.strip.specs.Strip.{all_numbers, records_in, all_fit, strip_length, strip_bytes, records_of, count_of, tail_good}
use Rattle.strip.specs.Answers.{pack_of, pack_out, read_of, strip_of, packed_out, list_of, list_out}
use Rattle.strip.specs.Calls.{pack_each, read_times}
use Rattle.strip.proofs.BitsLaws.{bits-lt, bits_found, found_bits}
use Rattle.strip.proofs.ListLaws.{records_back, records_named, numbers_back}
use Rattle.strip.proofs.AnswerLaws.{pack_passed, pack_stored, strip_passed, strip_done}
use Rattle.strip.proofs.PackedLaws.{record_found}
use Rattle.strip.proofs.StripLaws.{length_strip, strip_count, strip_records, strip_tail, strip_read}
use Rattle.strip.proofs.MidwayLaws.{fresh, midway_start}
use Rattle.strip.proofs.CallLaws.{each_packs, behind_none, behind_times, read_found, none_read}

-- ---- one record

-- where the bits of a record that fits stand, that record is read
pub bits_record : (s : List ℕ) (p : ℕ) (r : Record) → Fits r → field Big s p record_bits ≡ bits_of r → record_at s p ≡ r
bits_record s p r fit e = bits_found r fit s p e

-- the record that is read at a place has the bits that stand there
pub record_bits_lem : (s : List ℕ) (p : ℕ) → bits_of (record_at s p) ≡ field Big s p record_bits
record_bits_lem s p = found_bits s p

-- a record that was packed, at any place, is read there after a flush
pub record_there : (s : List ℕ) (w : Writer) (r : Record) → (pack_of (length s) w r).refusal ≡ done
    → record_at (flush_out Big (pack_out s w r) (pack_of (length s) w r).writer) (bits_written w) ≡ r
unfolding pack_of
record_there s w r z =
    let (belongs, room, fit-test) = pack_passed (length s) w r z in
    let fit = fits-true r fit-test in
    bits_found r fit _ (bits_written w) (stored_found Big s w belongs (bits-lt r fit) (pack_stored s w r z))

-- ---- whole strips

-- records that fit are read back from their strip, and its tail is good
pub strip_there_and_back : (rs : List Record) → all_fit rs ≡ true → (records_of (strip_bytes rs) ≡ rs) × (tail_good (strip_bytes rs) ≡ true)
strip_there_and_back rs fit = (strip_records rs fit, strip_tail rs fit)

-- record i of the strip starts at bit 89 i
pub fields_where : (rs : List Record) → all_fit rs ≡ true → (i : ℕ) → i < length rs → record_at (strip_bytes rs) (record_bits * i) ≡ get_or rs i no_record
fields_where rs fit i h =
    let b = strip_bytes rs in
    let l : i < count_of b = omega (arith, strip_count rs fit) in
    ap (record_at b) (sym (zero-add (record_bits * i))) ∙ sym (record_found b 0 (count_of b) i no_record l) ∙ ap (λ (xs : List Record). get_or xs i no_record) (strip_records rs fit)

-- records that fit come back from their numbers
pub numbers_there_and_back : (rs : List Record) → all_fit rs ≡ true → records_in (length rs) (all_numbers rs) ≡ rs
numbers_there_and_back = records_back

-- ---- calls

-- a call that is done sets the strip of the records at the output's front
pub packed_out_lem : (ns : List ℕ) (n : ℕ) (s : List ℕ) → (strip_of ns n (length s)).refusal ≡ done → packed_out ns n s ≡ sets s 0 (strip_bytes (records_in n ns))
unfolding strip_of
packed_out_lem ns n s z = (strip_done ns n s z).1

-- so what it wrote is that strip
pub packed_strip : (ns : List ℕ) (n : ℕ) (s : List ℕ) → (strip_of ns n (length s)).refusal ≡ done → take (strip_of ns n (length s)).length (packed_out ns n s) ≡ strip_bytes (records_in n ns)
unfolding strip_of
packed_strip ns n s z =
    let (there, enough, _, _) = strip_passed ns n (length s) z in
    let (length-is, out-is) = strip_done ns n s z in
    let b = strip_bytes (records_in n ns) in
    let size : length b ≡ strip_length n = length_strip (records_in n ns) ∙ ap strip_length (records_named n ns there) in
    ap₂ (λ (k : ℕ) (u : List ℕ). take k u) (length-is ∙ sym size) out-is ∙ front_take b s (omega (arith, size, enough))

-- numbers that were packed are read back, every one, into any list with room
pub calls_there_and_back : (ns : List ℕ) (n : ℕ) (s ms : List ℕ) → ((i : ℕ) → get_or ns i 0 < 2 ^ 64) → (strip_of ns n (length s)).refusal ≡ done → 6 * n ≤ length ms
    → let b = take (strip_of ns n (length s)).length (packed_out ns n s) in
    (list_of b (length ms) ≡ record { refusal = done; count = n; tail_good = true }) × (take (6 * n) (list_out b ms) ≡ take (6 * n) ns)
unfolding strip_of
calls_there_and_back ns n s ms words z room =
    let (there, enough, short, fit) = strip_passed ns n (length s) z in
    let rs = records_in n ns in
    let len = records_named n ns there in
    let all = take (6 * n) ns in
    let size : length all ≡ 6 * n = length-take-le (6 * n) ns there in
    let b-is = packed_strip ns n s z in
    let (answer, memory) = strip_read rs fit ms (omega (arith, enough, short, len)) (omega (arith, len)) in (
      ap (λ (u : List ℕ). list_of u (length ms)) b-is ∙ answer ∙ (λ i. record { refusal = done; count = len i; tail_good = true }),
      ap (λ (u : List ℕ). take (6 * n) (list_out u ms)) b-is ∙ ap (take (6 * n)) (memory ∙ ap (sets ms 0) (numbers_back n ns words there))
          ∙ ap (λ (k : ℕ). take k (sets ms 0 all)) (sym size) ∙ front_take all ms (omega (arith, size, room)),
    )

-- pack_record for each record and a flush leave what pack_strip leaves
pub each_packed : (ns : List ℕ) (n : ℕ) (s : List ℕ) → (strip_of ns n (length s)).refusal ≡ done →
    let e = pack_each s (W.new_of (length s)).writer (records_in n ns) in
    (e.refusal ≡ done)
    × ((flush_of Big (length s) e.writer).refusal ≡ done)
    × ((flush_of Big (length s) e.writer).writer.written ≡ (strip_of ns n (length s)).length)
    × (flush_out Big e.out e.writer ≡ packed_out ns n s)
unfolding strip_of W.new_of
each_packed ns n s z =
    let (there, enough, short, fit) = strip_passed ns n (length s) z in
    let (length-is, out-is) = strip_done ns n s z in
    let rs = records_in n ns in
    let len = records_named n ns there in
    let (packs, flushes, size, memory) = each_packs rs s (omega (arith, enough, len)) s fresh rs (midway_start rs s short fit) in
    (packs, flushes, size ∙ ap strip_length len ∙ sym length-is, memory ∙ sym out-is)

-- read_record again and again, from a fresh cursor: the strip's records in their order, then 9
pub each_read : (s : List ℕ) → length s ≤ longest →
    ((i : ℕ) → i < count_of s →
    let r = read_of s (read_times i s (R.new_of s).cursor) in
    (r.refusal ≡ done) × (r.value ≡ get_or (records_of s) i no_record))
    × ((read_of s (read_times (count_of s) s (R.new_of s).cursor)).refusal ≡ too_few)
each_read s short = (
  λ i more.
      let g = behind_times s i 0 (R.new_of s).cursor (behind_none s short) (omega arith) in
      let (fine, found) = read_found s (i + 0) (read_times i s (R.new_of s).cursor) g (omega arith) in
      let e : record_bits * (i + 0) ≡ 0 + record_bits * i = omega arith in
      (fine, found ∙ ap (record_at s) e ∙ sym (record_found s 0 (count_of s) i no_record more)),
  none_read s (count_of s + 0) (read_times (count_of s) s (R.new_of s).cursor) (behind_times s (count_of s) 0 (R.new_of s).cursor (behind_none s short) (omega arith)) (omega arith),
)
