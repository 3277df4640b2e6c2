-- Laws of magnitudes in two's complement of 64 bits.
use Rattle.std.proofs.Common.{◌≡◌, ℕ, zero, suc, ◌-◌, ◌^◌, ◌<◌, ◌≤◌, Bool, true, false, leb, negsuc, refl, ap, ◌∙◌, arith, le-leb, leb-true}
use lib.Signed.{mag}
use Rattle.bits.specs.Signed.{signed}
use Rattle.bits.proofs.TestLaws.{by_test}
use Rattle.sign.proofs.SignedLaws.{signed_low, signed_high}
use Rattle.record.specs.Record.{depth}
use Rattle.digits.specs.Reading.{most}
use Rattle.line.specs.Grammar.{signed_by}
use Rattle.line.specs.Reading.{complement}

-- a magnitude that fits goes no further than the least one
pub size_small : (b : Bool) (n : ℕ) → mag (signed_by b n) < depth → n ≤ depth
size_small false n h = omega arith
size_small true zero h = omega arith
size_small true (suc n) h = omega arith

-- the value of what is no magnitude does not fit
most_far : mag (signed 64 most) < depth → ⊥
most_far h = let k : most < depth = rw (signed_low 63 most (omega arith)) at h in omega arith

-- what fits behind a minus is not zero, and not too far below it
minus_near : (n : ℕ) → mag (signed 64 (complement true n)) < depth → (1 ≤ n) × (n ≤ depth)
unfolding complement
minus_near n h =
    by_test (leb 1 n)
    (λ p. by_test (leb n depth) (λ q. (leb-true _ _ p, leb-true _ _ q)) (λ q. absurd (most_far (rw (p, q) at h))))
    (λ p. absurd (most_far (rw p at h)))

-- a number that has no minus on zero and fits is what its two's complement means
pub complement-signed : (b : Bool) (n : ℕ) → (b ≡ true → 1 ≤ n) → mag (signed_by b n) < depth → signed 64 (complement b n) ≡ signed_by b n
unfolding complement
complement-signed false n h k = signed_low 63 n (omega arith)
complement-signed true zero h k = let x = h refl in absurd (omega arith)
complement-signed true (suc n) h k =
    let z : 2 ^ 64 - suc (2 ^ 64 - suc n) ≡ n = omega arith in
    rw (le-leb 1 (suc n) (omega arith), le-leb (suc n) depth (omega arith))
    (signed_high 63 (2 ^ 64 - suc n) (omega arith) (omega arith) ∙ ap negsuc z)

-- and what fits by its two's complement is such a number
pub signed-complement : (b : Bool) (n : ℕ) → n < 2 ^ 63 → mag (signed 64 (complement b n)) < depth → (b ≡ true → 1 ≤ n) × (mag (signed_by b n) < depth)
unfolding complement
signed-complement false n l h = ((λ z. absurd (let y : ◌≡◌ {A = ℕ} 0 1 = cc in omega arith)), rw (signed_low 63 n l) at h)
signed-complement true zero l h = let e = (minus_near zero h).0 in absurd (omega arith)
signed-complement true (suc n) l h = let e = minus_near (suc n) h in let k = e.1 in ((λ z. e.0), omega arith)
