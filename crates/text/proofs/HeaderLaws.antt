-- Laws of the header and of `bad tail`: their bytes, and whether a text starts with bytes.
use Prim.Native.Nat.{ℕ, ◌≤◌}
use mathlib.Core.Path.{◌≡◌, refl, sym, ap, ap₂, ◌∙◌}
use mathlib.Core.Bool.{Bool, true, ◌&&◌}
use mathlib.Core.List.{List, [], ◌∷◌}
use lib.ListN.{length, take}
use lib.Dec.{eqb}
use lib.Pointwise.{pointwise}
use native.Mathlib.Omega.{arith}
use borrow.Author.Tests.{eqb-true, eqb-false, eq-eqb, ne_eqb}
use Rattle.bits.proofs.TestLaws.{both, by_test}
use Rattle.digits.specs.Digits.{ascii}
use Rattle.text.specs.Text.{header, bad_tail, headed}

-- ---- the bytes

abbrev pub header_bytes : List ℕ
header_bytes = 115 ∷ 116 ∷ 97 ∷ 114 ∷ 44 ∷ 100 ∷ 97 ∷ 116 ∷ 101 ∷ 44 ∷ 108 ∷ 105 ∷ 109 ∷ 105 ∷ 116 ∷ 44 ∷ 109 ∷ 97 ∷ 103 ∷ 44 ∷ 101 ∷ 114 ∷ 114 ∷ 44 ∷ 102 ∷ 105 ∷ 108 ∷ 116 ∷ 101 ∷ 114 ∷ 10 ∷ []

abbrev pub bad_tail_bytes : List ℕ
bad_tail_bytes = 98 ∷ 97 ∷ 100 ∷ 32 ∷ 116 ∷ 97 ∷ 105 ∷ 108 ∷ 10 ∷ []

pub header_is : header ≡ header_bytes
unfolding header ascii
header_is = refl

pub bad_tail_is : bad_tail ≡ bad_tail_bytes
unfolding bad_tail ascii
bad_tail_is = refl

-- how many they are
abbrev pub header_length : ℕ
header_length = 31

abbrev pub bad_tail_length : ℕ
bad_tail_length = 9

pub length-header : length header ≡ header_length
length-header = ap length header_is

pub length-bad_tail : length bad_tail ≡ bad_tail_length
length-bad_tail = ap length bad_tail_is

-- ---- whether a text starts with bytes

-- which of two bytes comes first is the same
eqb-sym : (a b : ℕ) → eqb a b ≡ eqb b a
eqb-sym a b =
    by_test (eqb a b) (λ t. t ∙ sym (eq-eqb b a (sym (eqb-true a b t)))) (λ t. t ∙ sym (ne_eqb b a (λ e. eqb-false a b t (sym e))))

-- the library's test says the same
pub starts_headed : (h s : List ℕ) → pointwise eqb h (take (length h) s) ≡ headed h s
unfolding headed
starts_headed [] s = refl
starts_headed (a ∷ h) [] = refl
starts_headed (a ∷ h) (b ∷ s) = ap₂ (λ (t u : Bool). t && u) (eqb-sym a b) (starts_headed h s)

pub headed_long : (h s : List ℕ) → headed h s ≡ true → length h ≤ length s
unfolding headed
headed_long [] s e = omega arith
headed_long (a ∷ h) [] e = absurd (let z : ◌≡◌ {A = ℕ} 0 1 = cc in omega arith)
headed_long (a ∷ h) (b ∷ s) e = let l = headed_long h s (both {a = eqb b a} e).1 in omega arith
