-- Laws of records that fit their fields: the first of many, and the magnitude as the low 16 of 64 bits.
use mathlib.Core.Path.{◌≡◌, sym, ap, ◌∙◌}
use mathlib.Core.Bool.{true}
use mathlib.Core.List.{List, ◌∷◌}
use Prim.Native.Nat.{ℕ, ◌%◌, ◌^◌, ◌<◌}
use native.Mathlib.Omega.{arith}
use lib.IntN.{ℤ}
use lib.Signed.{mag}
use Rattle.bits.specs.Signed.{signed}
use Rattle.bits.proofs.TestLaws.{both}
use Rattle.sign.proofs.SignedLaws.{pattern-signed, signed-pattern, pattern_low}
use Rattle.record.specs.declared.Record.{Record}
use Rattle.record.specs.Record.{depth, Fits}
use Rattle.record.proofs.FitLaws.{fits-true}
use Rattle.strip.specs.Strip.{all_fit}

-- the first of records that all fit, and the others
pub all_fit_parts : (r : Record) (rs : List Record) → all_fit (r ∷ rs) ≡ true → Fits r × (all_fit rs ≡ true)
unfolding all_fit
all_fit_parts r rs e = let (one, others) = both e in (fits-true r one, others)

-- a record with another magnitude
abbrev pub with_magnitude : Record → ℤ → Record
with_magnitude r z = record { star = r.star; date = r.date; limit = r.limit; magnitude = z; error = r.error; filter = r.filter }

-- the low 16 bits of a number of 64 that fits 16
pub low_16 : (m : ℕ) → m < 2 ^ 64 → mag (signed 64 m) < depth → signed 16 (m % 2 ^ 16) ≡ signed 64 m
low_16 m h l =
    let z = signed 64 m in
    ap (λ (n : ℕ). signed 16 (n % 2 ^ 16)) (sym (pattern-signed 64 m h)) ∙ ap (signed 16) (pattern_low 16 z (omega arith)) ∙ signed-pattern 15 z l
