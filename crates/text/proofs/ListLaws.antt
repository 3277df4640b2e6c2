-- Laws of listed records: those of a strip, one line after the other, and the whole text put piece by piece.
use Prim.Native.Nat.{ℕ, zero, suc, ◌+◌, ◌-◌, ◌*◌, ◌/◌, ◌<◌, ◌≤◌}
use mathlib.Core.Path.{◌≡◌, refl, sym, ap, ap₂, ◌∙◌}
use mathlib.Core.Bool.{Bool, true, false, cond}
use mathlib.Core.List.{List, [], ◌++◌}
use lib.ListN.{length, length-append}
use lib.Seq.{sets, length-sets}
use native.Mathlib.Nat.{sub-zero}
use native.Mathlib.Omega.{arith}
use Rattle.bits.proofs.TestLaws.{by_test}
use Rattle.bits.proofs.StoreLaws.{sets-append}
use Rattle.record.specs.Record.{record_bits}
use Rattle.strip.specs.Bits.{record_at}
use Rattle.strip.specs.Strip.{count_of, records_from, records_of, tail_good}
use Rattle.strip.proofs.PackedLaws.{record_fits}
use Rattle.listing.specs.Listing.{line_of, size_of}
use Rattle.listing.proofs.PieceLaws.{line_length, size_few}
use Rattle.text.specs.Text.{header, bad_tail, listed, text_of}
use Rattle.text.proofs.HeaderLaws.{header_bytes, header_is, header_length, bad_tail_length, length-header, length-bad_tail}

-- ---- the lines of n records, i of them passed

abbrev pub lines_left : List ℕ → ℕ → ℕ → List ℕ
lines_left s n i = listed (records_from s (record_bits * i) (n - i))

pub all_left : (s : List ℕ) (n : ℕ) → lines_left s n 0 ≡ listed (records_from s 0 n)
all_left s n = ap (λ (k : ℕ). listed (records_from s 0 k)) (sub-zero n)

pub next_left : (s : List ℕ) (n i : ℕ) → i < n → lines_left s n i ≡ line_of (record_at s (record_bits * i)) ++ lines_left s n (i + 1)
unfolding listed records_from
next_left s n i h =
    let e : n - i ≡ suc (n - (i + 1)) = omega arith in
    let next : record_bits * i + record_bits ≡ record_bits * (i + 1) = omega arith in
    ap (λ (k : ℕ). listed (records_from s (record_bits * i) k)) e
    ∙ ap (λ (k : ℕ). line_of (record_at s (record_bits * i)) ++ listed (records_from s k (n - (i + 1)))) next

pub none_left : (s : List ℕ) (n i : ℕ) → n ≤ i → lines_left s n i ≡ []
unfolding listed records_from
none_left s n i h = let e : n - i ≡ 0 = omega arith in ap (λ (k : ℕ). listed (records_from s (record_bits * i) k)) e

pub next_size : (s : List ℕ) (n i : ℕ) → i < n
    → length (lines_left s n i) ≡ size_of (record_at s (record_bits * i)) + length (lines_left s n (i + 1))
next_size s n i h =
    let l = length-append (line_of (record_at s (record_bits * i))) (lines_left s n (i + 1)) in
    let m = line_length (record_at s (record_bits * i)) in
    let e = ap length (next_left s n i h) in
    omega arith

pub end_size : (s : List ℕ) (n i : ℕ) → n ≤ i → length (lines_left s n i) ≡ 0
end_size s n i h = ap length (none_left s n i h)

-- the lines still to come, put from `at` on, give what all lines give, put behind the header of an output first
pub record Putting (s first out : List ℕ) (at n i : ℕ) : Type 0 where
  pub same : length out ≡ length first
  pub size : at + length (lines_left s n i) ≡ header_length + length (listed (records_from s 0 n))
  pub left : sets out at (lines_left s n i) ≡ sets first header_length (listed (records_from s 0 n))

pub putting_start : (s out : List ℕ) (n : ℕ) → Putting s out out header_length n 0
putting_start s out n =
    record {
      same = refl;
      size = ap (λ (l : List ℕ). header_length + length l) (all_left s n);
      left = ap (sets out header_length) (all_left s n);
    }

module _ {s first out : List ℕ} {at n i : ℕ} (p : Putting s first out at n i) where
  module _ (more : i < n) where
    pub putting_room : header_length + length (listed (records_from s 0 n)) ≤ length first
        → at + size_of (record_at s (record_bits * i)) ≤ length out
    putting_room room =
        let k = next_size s n i more in
        let e = p.size in
        let l = p.same in
        omega arith

    pub putting_step : {last : List ℕ} {next : ℕ} → next ≡ at + size_of (record_at s (record_bits * i))
        → last ≡ sets out at (line_of (record_at s (record_bits * i))) → Putting s first last next n (i + 1)
    putting_step {last} {next} e f =
        let r = record_at s (record_bits * i) in
        let b = lines_left s n (i + 1) in
        let k = next_size s n i more in
        let z = p.size in
        record {
          same = ap length f ∙ length-sets out at (line_of r) ∙ p.same;
          size = omega arith;
          left = ap₂ (λ (l : List ℕ) (k : ℕ). sets l k b) f (e ∙ ap (λ (k : ℕ). at + k) (sym (line_length r)))
              ∙ sym (sets-append (line_of r) b out at) ∙ ap (sets out at) (sym (next_left s n i more)) ∙ p.left;
        }

  pub putting_end : n ≤ i → (at ≡ header_length + length (listed (records_from s 0 n))) × (out ≡ sets first header_length (listed (records_from s 0 n)))
  putting_end h =
      let e = none_left s n i h in
      let k = end_size s n i h in
      let z = p.size in
      (omega arith, ap (sets out at) (sym e) ∙ p.left)

-- no line is above 41 bytes
lines_few : (s : List ℕ) (p n : ℕ) → length (listed (records_from s p n)) ≤ 41 * n
unfolding listed records_from
lines_few s p zero = omega arith
lines_few s p (suc n) =
    let r = record_at s p in
    let l = length-append (line_of r) (listed (records_from s (p + record_bits) n)) in
    let m = line_length r in
    let few = size_few r (record_fits s p) in
    let others = lines_few s (p + record_bits) n in
    omega arith

-- ---- the whole text

-- what stands behind the lines
abbrev pub tail_of : Bool → List ℕ
tail_of good = cond good [] bad_tail

module _ (s : List ℕ) where
  pub text_size : length (text_of s) ≡ header_length + length (listed (records_of s)) + length (tail_of (tail_good s))
  text_size =
      let a = length-append header (listed (records_of s) ++ tail_of (tail_good s)) in
      let b = length-append (listed (records_of s)) (tail_of (tail_good s)) in
      let c = length-header in
      omega arith

  pub good_size : tail_good s ≡ true → header_length + length (listed (records_of s)) ≡ length (text_of s)
  good_size e = let t = text_size in let u : length (tail_of (tail_good s)) ≡ 0 = rw e in omega arith

  pub bad-size : tail_good s ≡ false → header_length + length (listed (records_of s)) + bad_tail_length ≡ length (text_of s)
  bad-size e = let t = text_size in let u : length (tail_of (tail_good s)) ≡ bad_tail_length = rw e length-bad_tail in omega arith

  -- at most 41 bytes a record, and those of the header and a bad tail
  pub text_few : length (text_of s) ≤ 41 * (8 * length s / record_bits) + header_length + bad_tail_length
  text_few =
      let few = lines_few s 0 (8 * length s / record_bits) in
      by_test (tail_good s) (λ e. let n = good_size e in omega arith) (λ e. let n = bad-size e in omega arith)

  -- the header and the lines put one behind the other
  abbrev pub head_put : List ℕ → List ℕ
  head_put l = sets (sets l 0 header) header_length (listed (records_of s))

  -- and the tail behind them
  text_put : (l : List ℕ) → sets (head_put l) (header_length + length (listed (records_of s))) (tail_of (tail_good s)) ≡ sets l 0 (text_of s)
  text_put l =
      let z : 0 + length header ≡ header_length = omega (arith, length-header) in
      sym (sets-append (listed (records_of s)) (tail_of (tail_good s)) (sets l 0 header) header_length)
      ∙ ap (λ (n : ℕ). sets (sets l 0 header) n (listed (records_of s) ++ tail_of (tail_good s))) (sym z)
      ∙ sym (sets-append header (listed (records_of s) ++ tail_of (tail_good s)) l 0)

  tail_put : (l : List ℕ) {good : Bool} → tail_good s ≡ good → sets (head_put l) (header_length + length (listed (records_of s))) (tail_of good) ≡ sets l 0 (text_of s)
  tail_put l e = ap (λ (b : Bool). sets (head_put l) (header_length + length (listed (records_of s))) (tail_of b)) (sym e) ∙ text_put l

  pub good_put : (l : List ℕ) → tail_good s ≡ true → head_put l ≡ sets l 0 (text_of s)
  good_put l e = tail_put l e

  pub bad-put : (l : List ℕ) → tail_good s ≡ false → sets (head_put l) (header_length + length (listed (records_of s))) bad_tail ≡ sets l 0 (text_of s)
  bad-put l e = tail_put l e

  -- behind the last line
  pub all_put : (l : List ℕ) {first out : List ℕ} {at i : ℕ} → first ≡ sets l 0 header_bytes → Putting s first out at (count_of s) i → count_of s ≤ i
      → (at ≡ header_length + length (listed (records_of s))) × (out ≡ head_put l)
  all_put l e p h =
      let (size, put) = putting_end p h in
      (size, put ∙ ap (λ (x : List ℕ). sets x header_length (listed (records_of s))) (e ∙ ap (sets l 0) (sym header_is)))
