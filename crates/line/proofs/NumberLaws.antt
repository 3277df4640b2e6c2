-- Read, so spelled: the numbers with decimals that were read and fit.
use Rattle.std.proofs.Common.{◌≡◌, ℕ, ◌^◌, ◌<◌, ◌≤◌, Bool, true, false, cond, ltb, List, ◌∷◌, ◌++◌, length, drop, refl, ap, ◌∙◌, subst, arith, ltb-false, ltb-true}
use lib.Signed.{mag}
use Rattle.bits.specs.Signed.{signed}
use Rattle.bits.proofs.TestLaws.{by_test}
use Rattle.record.specs.Record.{date_bits, depth}
use Rattle.digits.specs.Digits.{comma, point, minus, value_of, Whole, Decimals}
use Rattle.digits.specs.Reading.{most, Part, part, starts, whole_at, decimals_at}
use Rattle.digits.proofs.PartLaws.{Spelled, starts_is, read_whole, read_decimals, decimals_few}
use Rattle.line.specs.Date.{units_of}
use Rattle.line.specs.Grammar.{sign, thousandths, signed_by}
use Rattle.line.specs.Reading.{date_at, thousandths_at, magnitude_at}
use Rattle.line.proofs.DateLaws.{units_five, units_days}
use Rattle.line.proofs.MagnitudeLaws.{size_small, signed-complement}
use Rattle.line.proofs.PlaceLaws.{thousandths_small}

-- a number with decimals that was read, as it was spelled
pub record Fixed (low high : ℕ) (value : ℕ → ℕ → ℕ → ℕ) (s : List ℕ) (q : Part) : Type 0 where
  pub w : List ℕ
  pub d : List ℕ
  pub whole : Whole w
  pub decimals : Decimals low high d
  pub text : s ≡ w ++ point ∷ (d ++ comma ∷ q.rest)
  pub is : q.value ≡ value (value_of w) (value_of d) (length d)

-- its whole part and its decimals were spelled one behind the other
fixed : {low high : ℕ} (value : ℕ → ℕ → ℕ → ℕ) (s : List ℕ) →
    let q = whole_at point s in
    let r = decimals_at low high comma q.rest in
    Spelled Whole point s q → Spelled (Decimals low high) comma q.rest r → Fixed low high value s (part (value q.value r.value r.count) 0 r.rest)
fixed value s a b =
    record {
      w = a.ds;
      d = b.ds;
      whole = a.is;
      decimals = b.is;
      text = a.text ∙ ap (λ (l : List ℕ). a.ds ++ point ∷ l) b.text;
      is = λ i. value (a.value i) (b.value i) (b.count i);
    }

-- the decimals of a date that fits were read: where they are none, their value is units and fits nowhere
date_decimals : (s : List ℕ) → (date_at s).value < 2 ^ date_bits → (decimals_at 5 12 comma (whole_at point s).rest).value < most
unfolding date_at
date_decimals s h =
    let q = whole_at point s in
    let r = decimals_at 5 12 comma q.rest in
    by_test (ltb r.value most) (ltb-true _ _)
    (λ e.
    let l = ltb-false r.value most e in
    let n = (decimals_few 5 12 comma q.rest).none (omega arith) l in
    let f = units_five q.value r.value r.count (omega arith) in
    absurd (omega arith))

pub read_date : (s : List ℕ) → (date_at s).value < 2 ^ date_bits → Fixed 5 12 units_of s (date_at s)
unfolding date_at
read_date s h =
    let q = whole_at point s in
    let r = decimals_at 5 12 comma q.rest in
    let u = units_days q.value r.value r.count in
    let a = read_whole point s (omega arith) in
    let b = read_decimals 5 12 comma q.rest (date_decimals s h) in
    fixed units_of s a b

pub read_thousandths : (s : List ℕ) → (thousandths_at s).value < most → Fixed 3 3 (λ w d n. thousandths w d) s (thousandths_at s)
unfolding thousandths_at
read_thousandths s h =
    let a = read_whole point s (omega arith) in
    let b = read_decimals 3 3 comma (whole_at point s).rest (omega arith) in
    fixed (λ w d n. thousandths w d) s a b

-- a text without its minus, and with it again
unsigned : (s : List ℕ) (t : Bool) → starts minus s ≡ t → s ≡ sign t (cond t (drop 1 s) s)
unsigned s true e = starts_is minus s e
unsigned s false e = refl

-- a magnitude that was read and fits, as it was spelled
pub record Signed (s : List ℕ) (q : Part) : Type 0 where
  pub negative : Bool
  pub w : List ℕ
  pub d : List ℕ
  pub whole : Whole w
  pub decimals : Decimals 3 3 d
  pub text : s ≡ sign negative (w ++ point ∷ (d ++ comma ∷ q.rest))
  pub not_minus_zero : negative ≡ true → 1 ≤ thousandths (value_of w) (value_of d)
  pub fits : mag (signed_by negative (thousandths (value_of w) (value_of d))) < depth

pub read_magnitude : (s : List ℕ) → mag (signed 64 (magnitude_at s).value) < depth → Signed s (magnitude_at s)
unfolding magnitude_at
read_magnitude s h =
    let t = starts minus s in
    let u = cond t (drop 1 s) s in
    let l = thousandths_small u in
    let f = signed-complement t (thousandths_at u).value (omega arith) h in
    let n = size_small t (thousandths_at u).value f.1 in
    let r = read_thousandths u (omega arith) in
    let g = subst (λ (v : ℕ). (t ≡ true → 1 ≤ v) × (mag (signed_by t v) < depth)) r.is f in
    record {
      negative = t;
      w = r.w;
      d = r.d;
      whole = r.whole;
      decimals = r.decimals;
      text = unsigned s t refl ∙ ap (sign t) r.text;
      not_minus_zero = g.0;
      fits = g.1;
    }
