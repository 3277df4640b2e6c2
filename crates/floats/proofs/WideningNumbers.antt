-- That a single changed into a double is exact, in whole numbers alone: the same sign, and the same size counted in each format's smallest
-- number. The single's is 2 ^ 925 of the double's, since 1074 - 149 is 925. It follows from `exact`: a finite pattern's size is that of
-- what it means. Assumes nothing.
use mathlib.Core.Path.{◌≡◌, sym, ap, ◌∙◌, subst}
use mathlib.Core.Bool.{Bool, true, false, cond}
use mathlib.Core.Logic.{◌⊎◌, inl, inr}
use Prim.Native.Nat.{ℕ, zero, suc, ◌+◌, ◌-◌, ◌*◌, ◌%◌, ◌^◌, ◌<◌, ◌≤◌}
use native.Mathlib.Nat.{eq_of_mul-eq-mul_right, eq-or-lt_of_le, le_of_suc-le-suc, div-lt_iff_lt-mul, mod-lt, mul_comm, mul_assoc, mul_right_comm, mul-one, mul-pos, zero-lt-suc}
use native.Mathlib.Omega.{arith}
use borrow.Author.Tests.{ne_eqb, eq-eqb}
use lib.Dec.{eqb}
use lib.Pow.{pow_pos}
use lib.Ieee.{Float, Format, nan, inf, fin, binary32, binary64, of_bits, of_fields, low, ones, up, down, odd, prec, hid, top, emax}
use lib.Ieee.Fits.{down_pos}
use lib.Ieee.Exact.{HasValue, odd_sign}
use Rattle.floats.specs.declared.Single.{Single}
use Rattle.floats.specs.Floats.{single_bits, double_bits}
use Rattle.floats.specs.Widening.{widened, minus_in, exponent_in, fraction_in, size_by, size_in}
use Rattle.floats.proofs.WideningLaws.{exact}

-- ---- a finite pattern means its sign and its size

below_no : (a b : ℕ) → a < b → a ≡ b → ⊥
below_no a b h e = omega arith

fields_size : (f : Format) (s : Bool) (x t : ℕ) → x < ones f → HasValue (of_fields f s x t) s (size_by f x t) (2 ^ low f)
unfolding of_fields
fields_size f s zero t h =
    subst (λ (n : ℕ). HasValue (odd (prec f) s t 0 (low f)) s n (2 ^ low f)) (mul-one t) (odd_sign (prec f) s t 0 (low f))
fields_size f s (suc x) t h = rw (ne_eqb (suc x) (ones f) (below_no (suc x) (ones f) h)) (odd_sign (prec f) s (hid f + t) x (low f))

pub pattern-size : (f : Format) (b : ℕ) → exponent_in f b < ones f → HasValue (of_bits f b) (minus_in f b) (size_in f b) (2 ^ low f)
unfolding of_bits
pattern-size f b h = fields_size f (minus_in f b) (exponent_in f b) (fraction_in f b) h

-- ---- a pattern that means a number of some size is finite

some_ones : (e : ℕ) → 0 < 2 * e + 1
some_ones e = omega arith

-- an infinity and a NaN have no size
no_size : (b : Bool) (t s : Bool) (a c : ℕ) → HasValue (cond b (inf t) nan) s a c → ⊥
no_size true t s a c v = v
no_size false t s a c v = v

fields_finite : (f : Format) (t : Bool) (x d : ℕ) (s : Bool) (a c : ℕ) → HasValue (of_fields f t x d) s a c → x ≤ ones f → x < ones f
unfolding of_fields
fields_finite f t zero d s a c v h = some_ones (emax f)
fields_finite f t (suc x) d s a c v h = go (eq-or-lt_of_le h)
  where
    go : (suc x ≡ ones f) ⊎ (suc x < ones f) → suc x < ones f
    go (inl e) = absurd (no_size (eqb d 0) t s a c (rw (eq-eqb (suc x) (ones f) e) at v))
    go (inr l) = l

exponent_in_lem : (f : Format) (b : ℕ) → exponent_in f b ≤ ones f
exponent_in_lem f b =
    le_of_suc-le-suc
    ((div-lt_iff_lt-mul (pow_pos (prec f - 1))).1
    (subst (λ (a : ℕ). b % top f < a) (mul_comm (hid f) (suc (ones f))) (mod-lt b (mul-pos (pow_pos (prec f - 1)) (zero-lt-suc (ones f))))))

pattern_finite : (f : Format) (b : ℕ) (s : Bool) (a c : ℕ) → HasValue (of_bits f b) s a c → exponent_in f b < ones f
unfolding of_bits
pattern_finite f b s a c v = fields_finite f (minus_in f b) (exponent_in f b) (fraction_in f b) s a c v (exponent_in_lem f b)

-- ---- one number's size in both smallest numbers

both_sizes : (x : Float) (s t : Bool) (a b : ℕ) → HasValue x s a (2 ^ 149) → HasValue x t b (2 ^ 1074) → (t ≡ s) × (b ≡ a * 2 ^ 925)
both_sizes (fin r m e) s t a b v w = (
  sym w.0 ∙ v.0,
  eq_of_mul-eq-mul_right (down e) (down_pos e) b (a * 2 ^ 925)
      (sym w.1
      ∙ sym (mul_assoc (m * up e) (2 ^ 149) (2 ^ 925))
      ∙ ap (λ (n : ℕ). n * 2 ^ 925) v.1
      ∙ mul_right_comm a (down e) (2 ^ 925)),
)
both_sizes nan s t a b v w = elim v [ ]
both_sizes (inf _) s t a b v w = elim v [ ]

-- Every finite single, b its bits and d those of the double: d is finite, its sign is b's, and so is its size.
pub exact_numbers : (x : Single) →
    let b = single_bits x in
    let d = double_bits (widened x) in
    exponent_in binary32 b < 255 →
    (exponent_in binary64 d < 2047) × (minus_in binary64 d ≡ minus_in binary32 b) × (size_in binary64 d ≡ size_in binary32 b * 2 ^ 925)
exact_numbers x h =
    let b = single_bits x in
    let d = double_bits (widened x) in
    let s : Bool = minus_in binary32 b in
    let n : ℕ = size_in binary32 b in
    let v : HasValue (of_bits binary32 b) s n (2 ^ 149) = pattern-size binary32 b h in
    let y : exponent_in binary64 d < 2047 = pattern_finite binary64 d s n (2 ^ 149) (subst (λ (z : Float). HasValue z s n (2 ^ 149)) (sym (exact x)) v) in
    let w : HasValue (of_bits binary64 d) (minus_in binary64 d) (size_in binary64 d) (2 ^ 1074) = pattern-size binary64 d y in
    let e = both_sizes (of_bits binary32 b) s (minus_in binary64 d) n (size_in binary64 d) v (subst (λ (z : Float). HasValue z (minus_in binary64 d) (size_in binary64 d) (2 ^ 1074)) (exact x) w) in
    (y, e.0, e.1)
