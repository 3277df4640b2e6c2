-- What is promised of whole jobs, in words of the definitions.
use Prim.Native.Nat.{ℕ, suc, ◌*◌, ◌%◌, ◌^◌, ◌<◌, ◌≤◌}
use mathlib.Core.Path.{◌≡◌, refl, sym, ap, ◌∙◌, subst}
use mathlib.Core.Bool.{true, false, ◌&&◌}
use mathlib.Core.List.{List, [], map}
use lib.ListN.{length, take, get_or}
use lib.Dec.{ltb}
use native.Mathlib.Omega.{arith}
use borrow.Author.Tests.{ltb-true, ltb-false}
use Rattle.bits.specs.Refusals.{done}
use Rattle.bits.proofs.TestLaws.{both, both_true, by_test}
use Rattle.record.specs.declared.Record.{Record}
use Rattle.record.specs.Record.{record_bits}
use Rattle.strip.specs.Strip.{strip_bytes, count_of, records_of, tail_good}
use Rattle.strip.proofs.StripLaws.{length_strip, strip_same}
use Rattle.strip.proofs.Theorems.{strip_there_and_back}
use Rattle.vetting.specs.Rules.{AllKeep, AtFault}
use Rattle.vetting.specs.Verdicts.{Fine, verdict_of}
use Rattle.vetting.proofs.Theorems.{strip_fine}
use Rattle.rows.specs.Row.{columns_at, in_range, row_length, row_bits}
use Rattle.rows.specs.Rows.{rows_bytes, strip_rows, row_count, records_of_rows}
use Rattle.rows.proofs.AnswerLaws.{good_rows, good_length, whole_strip}
use Rattle.rows.proofs.Theorems.{strip_rows_strip, bad_row_exactly, no_bad_row}
use Rattle.line.specs.Grammar.{unrounded}
use Rattle.text.specs.Text.{header, bad_tail, text_of, headed, Lines, body_of}
use Rattle.text.specs.Grammar.{GoodText, FirstBad}
use Rattle.text.specs.Answers.{pack_of, pack_out}
use Rattle.text.proofs.AnswerLaws.{pack_tests}
use Rattle.text.proofs.ListLaws.{text_few}
use Rattle.text.proofs.LongestLaws.{text_short, text_long, long_strip}
use Rattle.text.proofs.GrammarLaws.{headed-append}
use Rattle.text.proofs.BadLineLaws.{bad_line_exactly}
use Rattle.text.proofs.Theorems.{good_head, good_body, good_fits, packed_strip, text_there_and_back}
use Rattle.jobs.specs.Jobs.{most_taken, too_long_said, bad_line_said, bad_row_said, ok_said, fault_said, list_answer, pack_answer, rows_answer, pack_rows_answer, check_answer}
use Rattle.jobs.proofs.MessageLaws.{too_long_is}
use Rattle.jobs.proofs.AnswerLaws.{list_long, list_short}
use Rattle.jobs.proofs.PackLaws.{pack_long, pack_good, pack_said, pack_few}
use Rattle.jobs.proofs.CheckLaws.{check_long, check_ok, check_fault, check_tail, check_few, lines_keep}
use Rattle.jobs.proofs.RowsLaws.{rows_long, rows_good, rows_bad, rows_few}
use Rattle.jobs.proofs.RowsLaws.{pack_rows_long, pack_rows_bad, pack_rows_good, pack_rows_cut, pack_rows_few}

-- ---- room

-- where what is taken has answers of at most n bytes, all answers have
room : (answer : List ℕ → List ℕ) (n : ℕ) → ((s : List ℕ) → most_taken < length s → answer s ≡ too_long_said)
    → ((s : List ℕ) → length s ≤ most_taken → length (answer s) ≤ n) → 9 ≤ n → (s : List ℕ) → length (answer s) ≤ n
room answer n long few h s =
    by_test (ltb most_taken (length s))
    (λ e. let a = ap length (long s (ltb-true _ _ e) ∙ too_long_is) in omega arith)
    (λ e. few s (ltb-false most_taken (length s) e))

-- list-room: no list job's answer has more bytes
pub list_room : (s : List ℕ) → length (list_answer s) ≤ 241530
list_room = room list_answer 241530 list_long (λ s h. let a = ap length (list_short s h) in let b = text_few s in omega arith) (omega arith)

-- pack-room: no pack job's answer has more bytes
pub pack_room : (t : List ℕ) → length (pack_answer t) ≤ 28024
pack_room = room pack_answer 28024 pack_long pack_few (omega arith)

-- rows-room: no rows job's answer has more bytes
pub rows_room : (s : List ℕ) → length (rows_answer s) ≤ 106020
rows_room = room rows_answer 106020 rows_long rows_few (omega arith)

-- check-room: no check job's answer has more bytes
pub check_room : (s : List ℕ) → length (check_answer s) ≤ 34
check_room = room check_answer 34 check_long check_few (omega arith)

-- pack-rows-room: no row pack job's answer has more bytes
pub pack_rows_room : (t : List ℕ) → length (pack_rows_answer t) ≤ 40495
pack_rows_room = room pack_rows_answer 40495 pack_rows_long pack_rows_few (omega arith)

-- ---- what is written, by what was read

pub list_is : (s : List ℕ) → (65536 < length s → list_answer s ≡ too_long_said) × (length s ≤ 65536 → list_answer s ≡ text_of s)
list_is s = (list_long s, list_short s)

-- pack-is: the strip of a text of the grammar, and the first bad line of any other
pub pack_is : (t : List ℕ) → (65536 < length t → pack_answer t ≡ too_long_said)
    × (length t ≤ 65536 → ((rs : List Record) → GoodText t rs → pack_answer t ≡ strip_bytes rs) × ((n : ℕ) → FirstBad t n → pack_answer t ≡ bad_line_said n))
pack_is t = (
  pack_long t,
  λ h. (
    λ rs g.
        let read = good_body g in
        pack_good t h (both_true (good_head g) (ap (λ (l : Lines). l.good) read)) ∙ ap (λ (l : Lines). strip_bytes l.records) read,
    λ n b.
        let (bad, line) = (bad_line_exactly t 0 n (omega (arith, h)) (omega arith)).1 b in
        (pack_said t h [] {p = pack_of t 0} refl bad).0 ∙ ap bad_line_said line,
  ),
)

-- rows_is: the rows of a strip with a good tail, and nothing but the message for any other
pub rows_is : (s : List ℕ) → (65536 < length s → rows_answer s ≡ too_long_said)
    × (length s ≤ 65536 → (tail_good s ≡ true → rows_answer s ≡ rows_bytes (records_of s)) × (tail_good s ≡ false → rows_answer s ≡ bad_tail))
rows_is s = (rows_long s, λ h. (rows_good s h, rows_bad s h))

-- pack-rows-is: the first row that says no record, else whether the last row is cut, else the strip of the rows
pub pack_rows_is : (t : List ℕ) → (65536 < length t → pack_rows_answer t ≡ too_long_said)
    × (length t ≤ 65536
    → ((i : ℕ) → i < row_count t → in_range (columns_at t (row_bits * i)) ≡ false
    → ((j : ℕ) → j < i → in_range (columns_at t (row_bits * j)) ≡ true) → pack_rows_answer t ≡ bad_row_said (suc i))
    × (((j : ℕ) → j < row_count t → in_range (columns_at t (row_bits * j)) ≡ true)
    → (length t % row_length ≡ 0 → pack_rows_answer t ≡ strip_bytes (records_of_rows t))
    × ((length t % row_length ≡ 0 → ⊥) → pack_rows_answer t ≡ bad_tail)))
pack_rows_is t = (
  pack_rows_long t,
  λ h. (
    λ i there bad before.
        let first = (bad_row_exactly t i).1 there bad before in
        pack_rows_bad t h (λ z. omega arith) ∙ ap bad_row_said first,
    λ all. let none = (no_bad_row t).1 all in (pack_rows_good t h none, pack_rows_cut t h none),
  ),
)

-- check-is: ok exactly where every record keeps every rule and the tail is good, else the first record and rule at fault, else the tail
pub check_is : (s : List ℕ) → (65536 < length s → check_answer s ≡ too_long_said)
    × (length s ≤ 65536
    → (AllKeep (records_of s) → (tail_good s ≡ true → check_answer s ≡ ok_said) × (tail_good s ≡ false → check_answer s ≡ bad_tail))
    × ((n r : ℕ) → AtFault (records_of s) n r → check_answer s ≡ fault_said n r))
check_is s = (check_long s, λ h. (λ all. (check_ok s h all, check_tail s h all), check_fault s h))

-- ---- packed and checked

-- packed-fine: a text whose lines' records keep every rule, packed by pack_text, is accepted
pub packed_fine : (t out : List ℕ) (rs : List Record) → GoodText t rs → AllKeep rs → (pack_of t (length out)).refusal ≡ done
    → verdict_of (take (pack_of t (length out)).length (pack_out t out)) ≡ Fine
unfolding pack_of
packed_fine t out rs g all z =
    let (short, short-out, _, _, room) = pack_tests t (length out) z in
    let count : length (body_of t).records ≡ length rs = ap (λ (l : Lines). length l.records) (good_body g) in
    let size = length_strip rs in
    ap verdict_of (packed_strip out g short short-out (omega arith)) ∙ strip_fine rs (good_fits g) all (omega arith)

-- lines-fine: and one whose lines keep every rule as they are spelled
pub lines_fine : (t out : List ℕ) (rs : List Record) (g : GoodText t rs) → AllKeep (map unrounded g.lines.parts) → (pack_of t (length out)).refusal ≡ done
    → verdict_of (take (pack_of t (length out)).length (pack_out t out)) ≡ Fine
lines_fine t out rs g all =
    let l = g.lines in
    packed_fine t out rs g (subst AllKeep (sym l.names) (lines_keep l.parts l.good all))

-- packed-ok: and strippack's strip of such a text is told to be ok
pub packed_ok : (t : List ℕ) (rs : List Record) → GoodText t rs → AllKeep rs → length t ≤ 65536 → check_answer (pack_answer t) ≡ ok_said
packed_ok t rs g all short =
    let made = ((pack_is t).1 short).0 rs g in
    let room = pack_room t in
    let size = ap length made in
    let (records, tail) = strip_there_and_back rs (good_fits g) in
    ap check_answer made ∙ check_ok (strip_bytes rs) (omega arith) (subst AllKeep (sym records) all) tail

-- ---- there and back

-- such a strip is short
strip_few : (s : List ℕ) → tail_good s ≡ true → count_of s ≤ 5000 → length s ≤ most_taken
unfolding tail_good
strip_few s good few =
    let (tail, _) = both good in
    let left : 8 * length s % record_bits < 8 = ltb-true _ _ tail in
    omega (arith, left, few)

-- few-back: a strip of at most 1,597 records with a good tail, listed and packed, is that strip
pub few_back : (s : List ℕ) → ((i : ℕ) → get_or s i 0 < 2 ^ 8) → tail_good s ≡ true → count_of s ≤ 1597 → pack_answer (list_answer s) ≡ s
few_back s bytes good few =
    let short : length s ≤ most_taken = strip_few s good (omega (arith, few)) in
    let read = text_there_and_back s good in
    let packs : (headed header (text_of s) && (body_of (text_of s)).good) ≡ true = both_true (headed-append header _) (ap (λ (l : Lines). l.good) read) in
    ap pack_answer (list_short s short)
    ∙ pack_good (text_of s) (text_short s few) packs
    ∙ ap (λ (l : Lines). strip_bytes l.records) read
    ∙ strip_same s bytes good

-- many-lost: of one record more there is one that is too long once it is listed
pub many_lost : (s : List ℕ) × (count_of s ≡ 1598) × (tail_good s ≡ true) × (pack_answer (list_answer s) ≡ too_long_said)
many_lost =
    let (s, count, good, long) = text_long in
    (s, count, good, ap pack_answer (list_short s (strip_few s good (omega (arith, count)))) ∙ pack_long (text_of s) long)

-- ---- rows there and back

-- the rows of a strip that is short enough, packed
rows_packed : (s : List ℕ) → tail_good s ≡ true → count_of s ≤ 5000 → pack_rows_answer (rows_answer s) ≡ pack_rows_answer (strip_rows s)
rows_packed s good few = ap pack_rows_answer (rows_good s (strip_few s good few) good ∙ sym (good_rows s good))

-- rows_back: a strip of at most 3,640 records with a good tail, written as rows and packed, is that strip
pub rows_back : (s : List ℕ) → ((i : ℕ) → get_or s i 0 < 2 ^ 8) → tail_good s ≡ true → count_of s ≤ 3640 → pack_rows_answer (rows_answer s) ≡ s
rows_back s bytes good few =
    let t : List ℕ = strip_rows s in
    let (_, none, whole, same) = strip_rows_strip s bytes good in
    let size = good_length s good in
    rows_packed s good (omega (arith, few))
    ∙ pack_rows_good t (omega (arith, size, few)) none (omega (arith, size))
    ∙ sym (whole_strip t whole)
    ∙ same

-- rows-lost: of one record more there is one that is too long once it is written as rows
pub rows_lost : (s : List ℕ) × (count_of s ≡ 3641) × (tail_good s ≡ true) × (pack_rows_answer (rows_answer s) ≡ too_long_said)
rows_lost =
    let (s, count, good, _) = long_strip 3641 in
    let size = good_length s good in
    (s, count, good, rows_packed s good (omega (arith, count)) ∙ pack_rows_long (strip_rows s) (omega (arith, size, count)))
