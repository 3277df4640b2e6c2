-- Laws of texts put into an output.
use Prim.Native.Nat.{ℕ, suc, ◌+◌, ◌-◌, ◌/◌, ◌%◌, ◌<◌, ◌≤◌}
use mathlib.Core.Path.{◌≡◌, refl, sym, ap, ap₂, ◌∙◌}
use mathlib.Core.List.{List, [], ◌∷◌, ◌++◌, append_assoc}
use lib.ListN.{length, set, length-append}
use lib.Seq.{sets, set_comm, length-sets}
use native.Mathlib.Omega.{arith}
use native.Mathlib.Nat.{add-zero}
use Rattle.bits.proofs.StoreLaws.{sets-append}
use Rattle.digits.specs.Digits.{zero_digit, point, comma}
use Rattle.print.specs.Print.{digits_of, places, whole_of, fixed_of}
use Rattle.print.proofs.DigitLaws.{digits_length}

-- ---- runs of stores

-- a store behind a run may come first
sets-set : (xs l : List ℕ) (i j a : ℕ) → i + length xs ≤ j → sets (set l j a) i xs ≡ set (sets l i xs) j a
sets-set [] l i j a h = refl
sets-set (x ∷ xs) l i j a h =
    ap (λ (y : List ℕ). sets y (suc i) xs) (set_comm l j i a x (λ e. omega arith))
    ∙ sets-set xs (set l i x) (suc i) j a (omega arith)

-- ---- digits, put from the last to the first

-- the last digit is put, and those before it are still to be
pub digits_store : (out : List ℕ) (at i n : ℕ) → at < i
    → sets (set out (i - 1) (zero_digit + n % 10)) at (digits_of (i - 1 - at) (n / 10)) ≡ sets out at (digits_of (i - at) n)
unfolding digits_of
digits_store out at i n h =
    let k : ℕ = i - 1 - at in
    let b = zero_digit + n % 10 in
    let d = digits_length k (n / 10) in
    let e : at + length (digits_of k (n / 10)) ≡ i - 1 = omega arith in
    let f : suc k ≡ i - at = omega arith in
    sets-set (digits_of k (n / 10)) out at (i - 1) b (omega arith)
    ∙ ap (λ (j : ℕ). set (sets out at (digits_of k (n / 10))) j b) (sym e)
    ∙ sym (sets-append (digits_of k (n / 10)) (b ∷ []) out at)
    ∙ ap (λ (j : ℕ). sets out at (digits_of j n)) f

-- ---- a text put piece by piece

-- from place `from` on, `done` is put, `last` is the output then, and `at` the next place
pub record Put (out : List ℕ) (from : ℕ) (done last : List ℕ) (at : ℕ) : Type 0 where
  pub made : last ≡ sets out from done
  pub place : at ≡ from + length done
  pub size : length last ≡ length out

pub put_none : (out : List ℕ) (from : ℕ) → Put out from [] out from
put_none out from = record { made = refl; place = sym (add-zero from); size = refl }

pub put-more : {out done last next : List ℕ} {from at n : ℕ} (x : List ℕ) → Put out from done last at → next ≡ sets last at x → n ≡ at + length x → Put out from (done ++ x) next n
put-more {out} {done} {last} {next} {from} {at} {n} x p e f =
    let q = p.place in
    let l = length-append done x in
    record {
      made = e ∙ ap₂ (λ (y : List ℕ) (k : ℕ). sets y k x) p.made p.place ∙ sym (sets-append done x out from);
      place = omega arith;
      size = ap length e ∙ length-sets last at x ∙ p.size;
    }

-- ---- the size of a piece

pub part-size : (k n end : ℕ) → length (digits_of k n ++ end ∷ []) ≡ k + 1
part-size k n end = simp (length-append, digits_length) (omega arith)

pub fixed_size : (w v k : ℕ) → length (fixed_of w v k) ≡ places w + k + 2
unfolding fixed_of
fixed_size w v k = simp (length-append, digits_length) (omega arith)

-- a piece of digits and a byte
pub part_store : (out mid : List ℕ) (at k n end : ℕ) → mid ≡ sets out at (digits_of k n) → set mid (at + k) end ≡ sets out at (digits_of k n ++ end ∷ [])
part_store out mid at k n end e =
    ap₂ (λ (l : List ℕ) (j : ℕ). set l (at + j) end) e (sym (digits_length k n)) ∙ sym (sets-append (digits_of k n) (end ∷ []) out at)

-- a whole part with its point, and decimals with their comma
pub fixed_store : (out mid last : List ℕ) (at m w v k : ℕ) → m ≡ at + places w + 1 → mid ≡ sets out at (whole_of w ++ point ∷ [])
    → last ≡ sets mid m (digits_of k v ++ comma ∷ []) → last ≡ sets out at (fixed_of w v k)
unfolding fixed_of
fixed_store out mid last at m w v k e f g =
    let z = part-size (places w) w point in
    let y = part-size k v comma in
    let p = put-more (digits_of k v ++ comma ∷ []) (put-more (whole_of w ++ point ∷ []) (put_none out at) f (omega arith)) g refl in
    p.made ∙ ap (sets out at) (append_assoc (whole_of w) (point ∷ []) (digits_of k v ++ comma ∷ []))
