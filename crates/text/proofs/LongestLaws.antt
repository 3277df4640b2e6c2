-- How many records a text of a given length has room for, whatever they are: lines have 41 bytes at most, and some have 41. Assumes nothing.
use Prim.Native.Nat.{ℕ, zero, suc, ◌+◌, ◌*◌, ◌<◌, ◌≤◌}
use mathlib.Core.Path.{◌≡◌, refl, ap, ◌∙◌}
use mathlib.Core.Bool.{true}
use mathlib.Core.List.{List}
use lib.ListN.{length, replicate, length-append, length-replicate}
use native.Mathlib.Omega.{arith}
use Rattle.record.specs.declared.Record.{Record}
use Rattle.listing.specs.Listing.{line_of}
use Rattle.listing.proofs.PieceLaws.{line_length, long_record, long_fits, long_size}
use Rattle.strip.specs.Strip.{all_fit, strip_bytes, count_of, records_of, tail_good}
use Rattle.strip.proofs.StripLaws.{strip_count}
use Rattle.strip.proofs.Theorems.{strip_there_and_back}
use Rattle.text.specs.Text.{listed, text_of}
use Rattle.text.proofs.HeaderLaws.{header_length}
use Rattle.text.proofs.ListLaws.{good_size, text_few}

-- text-short: the text of a strip of at most 1,597 records has at most 65,536 bytes
pub text_short : (s : List ℕ) → count_of s ≤ 1597 → length (text_of s) ≤ 65536
text_short s h = let l = text_few s in omega arith

-- ---- the longest lines

copies_fit : (n : ℕ) → all_fit (replicate n long_record) ≡ true
unfolding all_fit
copies_fit zero = refl
copies_fit (suc n) = rw long_fits (copies_fit n)

copies_size : (n : ℕ) → length (listed (replicate n long_record)) ≡ 41 * n
unfolding listed
copies_size zero = refl
copies_size (suc n) =
    let l = length-append (line_of long_record) (listed (replicate n long_record)) in
    let m = line_length long_record in
    let s = long_size in
    let others = copies_size n in
    omega arith

-- a strip of n records with a good tail, whose lines have 41 bytes each
pub long_strip : (n : ℕ) → (s : List ℕ) × (count_of s ≡ n) × (tail_good s ≡ true) × (length (text_of s) ≡ header_length + 41 * n)
long_strip n =
    let rs = replicate n long_record in
    let s = strip_bytes rs in
    let (records, tail) = strip_there_and_back rs (copies_fit n) in
    let count : count_of s ≡ n = strip_count rs (copies_fit n) ∙ length-replicate n long_record in
    let size = good_size s tail in
    let lines : length (listed (records_of s)) ≡ 41 * n = ap (λ (l : List Record). length (listed l)) records ∙ copies_size n in
    (s, count, tail, omega arith)

-- text-long: there is a strip of one record more, with a good tail, whose text is longer
pub text_long : (s : List ℕ) × (count_of s ≡ 1598) × (tail_good s ≡ true) × (65536 < length (text_of s))
text_long = let (s, count, tail, size) = long_strip 1598 in (s, count, tail, omega arith)
