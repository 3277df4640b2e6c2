-- Records as one number: how large it is, and what is read where it stands.
use mathlib.Core.Path.{◌≡◌, refl, sym, ap, ap₂, ◌∙◌, subst}
use mathlib.Core.Bool.{true}
use mathlib.Core.List.{List, [], ◌∷◌}
use Prim.Native.Nat.{ℕ, zero, suc, ◌+◌, ◌*◌, ◌^◌, ◌<◌}
use native.Mathlib.Omega.{arith}
use lib.ListN.{length, get_or}
use lib.Pow.{pow_pos}
use Rattle.bits.specs.declared.Order.TheVariants.{Big}
use Rattle.bits.specs.Field.{field, join}
use Rattle.bits.proofs.JoinLaws.{join-lt}
use Rattle.bits.proofs.FieldLaws.{head_is, tail_is, field_lt, field_split}
use Rattle.sign.proofs.SignedLaws.{signed-fits}
use Rattle.record.specs.declared.Record.{Record}
use Rattle.record.specs.Record.{Fits, record_bits}
use Rattle.strip.specs.Bits.{bits_of, record_at}
use Rattle.strip.specs.Strip.{all_fit, joined, records_from}
use Rattle.record.proofs.FitLaws.{true-fits}
use Rattle.strip.proofs.BitsLaws.{bits-lt, bits_found, found_bits}
use Rattle.strip.proofs.FitLaws.{all_fit_parts}

one_more : (n : ℕ) → record_bits * suc n ≡ record_bits + record_bits * n
one_more n = omega arith

pub joined-lt : (rs : List Record) → all_fit rs ≡ true → joined rs < 2 ^ (record_bits * length rs)
unfolding joined
joined-lt [] h = pow_pos 0
joined-lt (r ∷ rs) h =
    let (one, others) = all_fit_parts r rs h in
    subst (λ (k : ℕ). joined (r ∷ rs) < 2 ^ k) (sym (one_more (length rs))) (join-lt Big record_bits (record_bits * length rs) (bits-lt r one) (joined-lt rs others))

-- ---- the way back

-- where records stand as one number, they are read
pub records_found : (rs : List Record) (b : List ℕ) (p : ℕ) → all_fit rs ≡ true → field Big b p (record_bits * length rs) ≡ joined rs → records_from b p (length rs) ≡ rs
unfolding records_from joined
records_found [] b p h e = refl
records_found (r ∷ rs) b p h e =
    let (one, others) = all_fit_parts r rs h in
    let m : ℕ = record_bits * length rs in
    let f : field Big b p (record_bits + m) ≡ join Big record_bits m (bits_of r) (joined rs) = ap (field Big b p) (sym (one_more (length rs))) ∙ e in
    let lt : joined rs < 2 ^ m = joined-lt rs others in
    ap₂ (λ (x : Record) (xs : List Record). x ∷ xs)
    (bits_found r one b p (head_is Big b p record_bits m (bits-lt r one) lt f))
    (records_found rs b (p + record_bits) others (tail_is Big b p record_bits m (bits-lt r one) lt f))

-- record i of n that are read from place p on
pub record_found : (b : List ℕ) (p n i : ℕ) (d : Record) → i < n → get_or (records_from b p n) i d ≡ record_at b (p + record_bits * i)
unfolding records_from
record_found b p zero i d h = absurd (omega arith)
record_found b p (suc n) zero d h = let e : p ≡ p + record_bits * 0 = omega arith in ap (record_at b) e
record_found b p (suc n) (suc i) d h =
    let e : p + record_bits + record_bits * i ≡ p + record_bits * suc i = omega arith in
    record_found b (p + record_bits) n i d (omega arith) ∙ ap (record_at b) e

-- ---- what is read

-- a record of a strip fits
pub record_fits : (s : List ℕ) (p : ℕ) → Fits (record_at s p)
unfolding record_at
record_fits s p =
    record {
      star = field_lt Big s p 20;
      date = field_lt Big s (p + 20) 38;
      limit = field_lt Big s (p + 58) 1;
      magnitude = signed-fits 15 _ (field_lt Big s (p + 59) 16);
      error = field_lt Big s (p + 75) 10;
      filter = field_lt Big s (p + 85) 4;
    }

pub records_fit : (s : List ℕ) (p n : ℕ) → all_fit (records_from s p n) ≡ true
unfolding all_fit records_from
records_fit s p zero = refl
records_fit s p (suc n) = rw (true-fits (record_at s p) (record_fits s p)) (records_fit s (p + record_bits) n)

pub records_count : (s : List ℕ) (p n : ℕ) → length (records_from s p n) ≡ n
unfolding records_from
records_count s p zero = refl
records_count s p (suc n) = ap suc (records_count s (p + record_bits) n)

-- records that are read have the number that stands there
pub joined_found : (b : List ℕ) (p n : ℕ) → joined (records_from b p n) ≡ field Big b p (record_bits * n)
unfolding joined records_from field
joined_found b p zero = refl
joined_found b p (suc n) =
    ap₂ (λ (k x : ℕ). join Big record_bits (record_bits * k) x (joined (records_from b (p + record_bits) n))) (records_count b (p + record_bits) n) (found_bits b p)
    ∙ ap (join Big record_bits (record_bits * n) (field Big b p record_bits)) (joined_found b (p + record_bits) n)
    ∙ sym (field_split Big b p record_bits (record_bits * n))
    ∙ ap (field Big b p) (sym (one_more n))
