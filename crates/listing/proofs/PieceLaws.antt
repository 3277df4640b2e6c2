-- A record's line put piece by piece, and how long it is.
use Prim.Native.Nat.{ℕ, ◌+◌, ◌/◌, ◌%◌, ◌≤◌}
use mathlib.Core.Path.{◌≡◌, refl, ap, ◌∙◌}
use mathlib.Core.Bool.{Bool, true, false, cond}
use mathlib.Core.List.{List, [], ◌∷◌, ◌++◌, append_assoc}
use lib.ListN.{length, length-append}
use lib.Seq.{sets}
use lib.IntN.{ℤ, pos, neg_ℤ, nat_abs}
use native.Mathlib.Omega.{arith}
use Rattle.record.specs.declared.Record.{Record}
use Rattle.record.specs.Record.{fits, Fits}
use Rattle.digits.specs.Digits.{comma, newline}
use Rattle.line.specs.Date.{day}
use Rattle.line.specs.Grammar.{sign, spelled}
use Rattle.line.proofs.GrammarLaws.{sign-append, sign-length}
use Rattle.print.specs.Print.{places_in, places, whole_of, fixed_of}
use Rattle.print.proofs.DigitLaws.{digits_length, places_few}
use Rattle.print.proofs.StoreLaws.{put_none, put-more, part-size, fixed_size}
use Rattle.listing.specs.Listing.{is_negative, parts_of, line_of, magnitude_size, size_of}
use Rattle.listing.proofs.TripLaws.{size_small}

-- ---- the length of a line

pub line_length : (r : Record) → length (line_of r) ≡ size_of r
unfolding line_of parts_of spelled
line_length r = simp (length-append, sign-length, digits_length) (omega arith)

pub one_or_none : (b : Bool) → cond b 1 0 ≤ 1
one_or_none true = omega arith
one_or_none false = omega arith

pub size_few : (r : Record) → Fits r → size_of r ≤ 41
size_few r f =
    let h₁ = f.star in
    let h₂ = f.date in
    let h₃ = f.limit in
    let h₄ = size_small r.magnitude f.magnitude in
    let h₅ = f.error in
    let h₆ = f.filter in
    let a = places_few 6 9 r.star (omega arith) in
    let b = places_few 6 9 (r.date / day) (omega arith) in
    let c = places_few 0 9 r.limit (omega arith) in
    let d = places_few 1 9 (nat_abs r.magnitude / 1000) (omega arith) in
    let e = places_few 0 9 (r.error / 1000) (omega arith) in
    let g = places_few 1 9 r.filter (omega arith) in
    let m = one_or_none (is_negative r.magnitude) in
    omega arith

-- and some take 41: the record of the line 1048575,2748779.06943,1,-32.768,1.023,15
abbrev pub long_record : Record
long_record = record { star = 1048575; date = 274877906943; limit = 1; magnitude = neg_ℤ (pos 32768); error = 1023; filter = 15 }

pub long_fits : fits long_record ≡ true
unfolding fits
long_fits = refl

pub long_size : size_of long_record ≡ 41
unfolding places_in
long_size = refl

-- ---- the magnitude

-- a magnitude and its comma
abbrev pub magnitude_of : ℤ → List ℕ
magnitude_of z = sign (is_negative z) (fixed_of (nat_abs z / 1000) (nat_abs z % 1000) 3)

magnitude_size_lem : (z : ℤ) → length (magnitude_of z) ≡ magnitude_size z + 5
magnitude_size_lem z =
    let s = sign-length (is_negative z) (fixed_of (nat_abs z / 1000) (nat_abs z % 1000) 3) in
    let l = fixed_size (nat_abs z / 1000) (nat_abs z % 1000) 3 in
    omega arith

-- ---- the whole line

module _ (r : Record) (out : List ℕ) (at : ℕ) where
  abbrev star : List ℕ
  star = whole_of r.star ++ comma ∷ []

  abbrev date : List ℕ
  date = fixed_of (r.date / day) (r.date % day) 5

  abbrev limit : List ℕ
  limit = whole_of r.limit ++ comma ∷ []

  abbrev error : List ℕ
  error = fixed_of (r.error / 1000) (r.error % 1000) 3

  abbrev filter : List ℕ
  filter = whole_of r.filter ++ newline ∷ []

  pieces : (((((([] ++ star) ++ date) ++ limit) ++ magnitude_of r.magnitude) ++ error) ++ filter) ≡ line_of r
  unfolding line_of parts_of spelled fixed_of
  pieces = simp (append_assoc, sign-append)

  -- six pieces, each put where the one before it ended
  pub line_put : {n₁ n₂ n₃ n₄ n₅ n₆ : ℕ} {o₁ o₂ o₃ o₄ o₅ o₆ : List ℕ}
      → (n₁ ≡ at + places r.star + 1) × (o₁ ≡ sets out at star)
      → (n₂ ≡ n₁ + places (r.date / day) + 5 + 2) × (o₂ ≡ sets o₁ n₁ date)
      → (n₃ ≡ n₂ + places r.limit + 1) × (o₃ ≡ sets o₂ n₂ limit)
      → (n₄ ≡ n₃ + magnitude_size r.magnitude + 5) × (o₄ ≡ sets o₃ n₃ (magnitude_of r.magnitude))
      → (n₅ ≡ n₄ + places (r.error / 1000) + 3 + 2) × (o₅ ≡ sets o₄ n₄ error)
      → (n₆ ≡ n₅ + places r.filter + 1) × (o₆ ≡ sets o₅ n₅ filter)
      → (n₆ ≡ at + size_of r) × (o₆ ≡ sets out at (line_of r))
  line_put {n₁} {n₂} {n₃} {n₄} {n₅} {n₆} a b c d e f =
      let s₁ = part-size (places r.star) r.star comma in
      let s₂ = fixed_size (r.date / day) (r.date % day) 5 in
      let s₃ = part-size (places r.limit) r.limit comma in
      let s₄ = magnitude_size_lem r.magnitude in
      let s₅ = fixed_size (r.error / 1000) (r.error % 1000) 3 in
      let s₆ = part-size (places r.filter) r.filter newline in
      let p₁ = put-more {n = n₁} star (put_none out at) a.1 (let x = a.0 in omega arith) in
      let p₂ = put-more {n = n₂} date p₁ b.1 (let x = b.0 in omega arith) in
      let p₃ = put-more {n = n₃} limit p₂ c.1 (let x = c.0 in omega arith) in
      let p₄ = put-more {n = n₄} (magnitude_of r.magnitude) p₃ d.1 (let x = d.0 in omega arith) in
      let p₅ = put-more {n = n₅} error p₄ e.1 (let x = e.0 in omega arith) in
      let p₆ = put-more {n = n₆} filter p₅ f.1 (let x = f.0 in omega arith) in
      let l : length (((((([] ++ star) ++ date) ++ limit) ++ magnitude_of r.magnitude) ++ error) ++ filter) ≡ size_of r = ap length pieces ∙ line_length r in
      let q = p₆.place in
      (omega arith, p₆.made ∙ ap (sets out at) pieces)
