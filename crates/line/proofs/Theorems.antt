-- The theorems on lines: read_line accepts the lines of the grammar and nothing else, a line names one record, and its date is rounded.
use Rattle.std.proofs.Common.{◌≡◌, ℕ, ◌+◌, ◌-◌, ◌*◌, ◌^◌, ◌≤◌, true, false, cond, ◌&&◌, ltb, leb, ◌↔◌, List, [], ◌∷◌, ◌++◌, length, get_or, take, sym, refl, ap, ◌∙◌, subst, ap₂, mul-le-mul_right, mul_comm, arith, pow-add, le-ltb}
use native.Mathlib.Nat.{mul-mul-mul_comm}
use Rattle.bits.specs.Refusals.{longest, done, bad_line, or_else, first_refusal}
use Rattle.bits.proofs.TestLaws.{both, by_test}
use Rattle.bits.proofs.RefusalLaws.{passed, all_pass, test_held, if_done_lem, answer_done}
use Rattle.record.specs.declared.Record.{Record}
use Rattle.record.specs.Record.{date_bits, no_record}
use Rattle.digits.specs.Digits.{comma, point, zero_digit, Digits, value_of}
use Rattle.digits.proofs.RunLaws.{value_append, split_same}
use Rattle.line.specs.Date.{units_of, Nearest}
use Rattle.line.specs.Grammar.{Parts, spelled, meant, unrounded, Good, Line}
use Rattle.line.specs.Reading.{begins, first_of, behind, is_nil, line_read, line_refusal, read_line}
use Rattle.line.proofs.DateLaws.{ten_some, units_nearest, units_five, nearest_order}
use Rattle.line.proofs.SixthLaws.{units_sixth}
use Rattle.line.proofs.SpelledLaws.{begins-spelled, first-spelled, behind-spelled}
use Rattle.line.proofs.ReadLaws.{begins_good}
use Rattle.line.proofs.AnswerLaws.{nil_is}

-- a line's record is the first of its text
first_named : {s : List ℕ} {r : Record} → Line s r → first_of s ≡ r
first_named l = ap first_of l.text ∙ first-spelled l.parts [] l.good ∙ sym l.names

-- accepted: what read_line accepts is a line of the grammar, and names the record that it answers
pub accepted : (s : List ℕ) → (read_line s).refusal ≡ done → Line s (read_line s).value
unfolding read_line line_refusal
accepted s z =
    let (short, line) = passed _ z in
    let (first, last) = both (test_held _ _ line) in
    let b = begins_good s first in
    let t : s ≡ spelled b.parts [] = b.text ∙ ap (spelled b.parts) (nil_is _ last) in
    record {
      parts = b.parts;
      good = b.good;
      text = t;
      names = sym (if_done_lem refl (first_of s) no_record z) ∙ ap first_of t ∙ first-spelled b.parts [] b.good;
    }

-- acceptable: every line of the grammar within the limit is accepted, with the record that it names
pub acceptable : {s : List ℕ} {r : Record} → length s ≤ longest → Line s r → read_line s ≡ line_read done r
unfolding read_line line_refusal
acceptable {s} {r} h l =
    let first : begins s ≡ true = ap begins l.text ∙ begins-spelled l.parts [] l.good in
    let last : is_nil (behind s) ≡ true = ap (λ (x : List ℕ). is_nil (behind x)) l.text ∙ ap is_nil (behind-spelled l.parts [] l.good) in
    let z : line_refusal s ≡ done = all_pass _ (rw (le-ltb _ _ h), rw (first, last)) in
    sym (answer_done (sym z) line_read (first_of s) no_record refl (sym (first_named l)))

-- refusable: what is within the limit and no line is refused as a bad one
pub refusable : (s : List ℕ) → length s ≤ longest → ((r : Record) → Line s r → ⊥) → read_line s ≡ line_read bad_line no_record
unfolding read_line line_refusal first_refusal or_else
refusable s h none =
    let short : ltb longest (length s) ≡ false = le-ltb _ _ h in
    by_test (begins s && is_nil (behind s)) (λ e. absurd (none _ (accepted s (rw (short, e))))) (λ e. rw (short, e))

-- one-record: a text is a line of one record at most
pub one_record : {s : List ℕ} {r q : Record} → Line s r → Line s q → r ≡ q
one_record l k = sym (first_named l) ∙ first_named k

-- ---- the date of a line

module _ {s : List ℕ} {r : Record} (l : Line s r) where
  abbrev days : List ℕ
  days = l.parts.days

  abbrev decimals : List ℕ
  decimals = l.parts.day_decimals

  -- it is by the date rule
  by_rule : r.date ≡ units_of (value_of days) (value_of decimals) (length decimals)
  unfolding meant
  by_rule = ap (λ (q : Record). q.date) l.names

  -- nearest-date: it, and no other number, is nearest to the number that its digits spell together
  pub nearest_date : (u : ℕ) → Nearest (value_of (days ++ decimals)) (10 ^ (length decimals - 5)) u ↔ (u ≡ r.date)
  nearest_date u =
      let p = 10 ^ (length decimals - 5) in
      let e = units_nearest (value_of days) (value_of decimals) (length decimals) u l.good.day_decimals.enough in
      subst (λ (n : ℕ). Nearest n p u ↔ (u ≡ r.date)) (sym (value_append days decimals))
      (subst (λ (d : ℕ). Nearest (value_of days * 10 ^ length decimals + value_of decimals) p u ↔ (u ≡ d)) (sym by_rule) e)

  -- five-exact: of five decimals it is that number itself
  pub five_exact : length decimals ≡ 5 → r.date ≡ value_of (days ++ decimals)
  five_exact five =
      let e = by_rule ∙ units_five (value_of days) (value_of decimals) (length decimals) (omega arith) in
      let together = value_append days decimals ∙ ap (λ (n : ℕ). value_of days * 10 ^ n + value_of decimals) five in
      omega arith

  -- sixth-decides: of more it is that of the first five, and a unit more where the sixth is 5 or above
  pub sixth_decides : 6 ≤ length decimals → r.date ≡ value_of (days ++ take 5 decimals) + cond (leb (zero_digit + 5) (get_or decimals 5 0)) 1 0
  sixth_decides more = by_rule ∙ units_sixth days decimals l.good.day_decimals.digits more

-- dates-in-order: dates that are in order as they are spelled are in order once they are rounded
pub dates_in_order : (p q : Parts) → Good p → Good q → (unrounded p).date ≤ (unrounded q).date → (meant p).date ≤ (meant q).date
unfolding meant
dates_in_order p q good-p good-q le =
    let x = value_of (p.days ++ p.day_decimals) in
    let y = value_of (q.days ++ q.day_decimals) in
    let a = 10 ^ (length p.day_decimals - 5) in
    let b = 10 ^ (length q.day_decimals - 5) in
    nearest_order x a _ y b _ (ten_some (length p.day_decimals - 5)) (nearest p good-p) (nearest q good-q)
    (cross x y a b _ _ (to_twelve p good-p) (to_twelve q good-q) le)
  where
    -- the decimals behind the fifth, and those that are left to twelve, are seven
    to_twelve : (p : Parts) → Good p → 10 ^ (12 - length p.day_decimals) * 10 ^ (length p.day_decimals - 5) ≡ 10 ^ 7
    to_twelve p good =
        let d = length p.day_decimals in
        let e : 12 - d + (d - 5) ≡ 7 = omega (arith, good.day_decimals.enough, good.day_decimals.few) in
        sym (pow-add 10 (12 - d) (d - 5)) ∙ ap (λ (k : ℕ). 10 ^ k) e

    -- x of c is at most y of d: so it is of a and b, where c a and d b are the same
    cross : (x y a b c d : ℕ) → c * a ≡ 10 ^ 7 → d * b ≡ 10 ^ 7 → x * c ≤ y * d → x * b ≤ y * a
    cross x y a b c d e f le =
        let first : 10 ^ 7 * (x * b) ≡ x * c * (a * b) =
        ap (λ (k : ℕ). k * (x * b)) (sym e) ∙ mul-mul-mul_comm c a x b ∙ ap (λ (k : ℕ). k * (a * b)) (mul_comm c x) in
        let second : 10 ^ 7 * (y * a) ≡ y * d * (a * b) =
        ap (λ (k : ℕ). k * (y * a)) (sym f) ∙ mul-mul-mul_comm d b y a ∙ ap₂ (λ (j k : ℕ). j * k) (mul_comm d y) (mul_comm b a) in
        let scaled = mul-le-mul_right (a * b) le in
        omega arith

    nearest : (p : Parts) → Good p → Nearest (value_of (p.days ++ p.day_decimals)) (10 ^ (length p.day_decimals - 5)) (meant p).date
    nearest p good = (nearest_date (record { parts = p; good = good; text = refl; names = refl }) (meant p).date).1 refl

-- date-bound: a text whose second number is a date that comes to 2^38 units or more is refused as a bad line, whatever else is in it
pub date_bound : (star days decimals rest : List ℕ) → Digits star → Digits days → Digits decimals →
    let s = star ++ comma ∷ (days ++ point ∷ (decimals ++ comma ∷ rest)) in
    length s ≤ longest → 2 ^ date_bits ≤ units_of (value_of days) (value_of decimals) (length decimals) → read_line s ≡ line_read bad_line no_record
unfolding spelled meant
date_bound star days decimals rest star-digits days-digits decimals-digits short large =
    refusable _ short
    (λ r l.
    let g = l.good in
    let (same-star, from-days) = split_same comma _ _ refl star-digits g.star.digits l.text in
    let (same-days, from-decimals) = split_same point _ _ refl days-digits g.days.digits from-days in
    let (same-decimals, behind-date) = split_same comma _ _ refl decimals-digits g.day_decimals.digits from-decimals in
    let e : units_of (value_of days) (value_of decimals) (length decimals) ≡ (meant l.parts).date = λ i. units_of (value_of (same-days i)) (value_of (same-decimals i)) (length (same-decimals i)) in
    let small = g.fits.date in
    omega arith)
