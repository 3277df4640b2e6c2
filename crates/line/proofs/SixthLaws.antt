-- The sixth decimal decides alone: from 5 on it adds a unit to what the digits before it spell.
use Rattle.std.proofs.Common.{◌≡◌, ℕ, zero, suc, ◌+◌, ◌-◌, ◌*◌, ◌/◌, ◌^◌, ◌<◌, ◌≤◌, Bool, true, false, cond, leb, List, ◌∷◌, ◌++◌, length, get_or, take, drop, sym, refl, ap, ◌∙◌, subst, add-one, arith, length-append, take-append-drop, length-take-le, drop-cons, leb-false, leb-true}
use native.Mathlib.Nat.{div-eq_of_lt-le}
use Rattle.digits.specs.Digits.{zero_digit, nine_digit, Digits, none, digit, value_from, value_of}
use Rattle.digits.proofs.RunLaws.{value_lt, value_least, value_behind, value_append}
use Rattle.line.specs.Date.{day, units_of}
use Rattle.line.proofs.DateLaws.{units_six}

-- digits from a place on
digits_drop : {ds : List ℕ} (i : ℕ) → Digits ds → Digits (drop i ds)
digits_drop zero d = d
digits_drop (suc i) none = none
digits_drop (suc i) (digit low high d) = digits_drop i d

-- a digit adds a unit or none
carry : (n b : ℕ) → zero_digit ≤ b → b ≤ nine_digit → (t : Bool) → leb (zero_digit + 5) b ≡ t → (10 * n + (b - zero_digit) + 5) / 10 ≡ n + cond t 1 0
carry n b low high true e = let h = leb-true (zero_digit + 5) b e in omega arith
carry n b low high false e = let h = leb-false (zero_digit + 5) b e in omega arith

-- six decimals or more, those from the sixth on apart
behind_five : (w b : ℕ) (xs t : List ℕ) → length xs ≡ 5 → Digits (b ∷ t)
    → units_of w (value_of (xs ++ b ∷ t)) (length (xs ++ b ∷ t)) ≡ day * w + value_of xs + cond (leb (zero_digit + 5) b) 1 0
unfolding value_from
behind_five w b xs t five (digit low high d) =
    let v = value_of (xs ++ b ∷ t) in
    let n = length (xs ++ b ∷ t) in
    let q = 10 * value_of xs + (b - zero_digit) in
    let size = length-append xs (b ∷ t) in
    let more : n - 6 ≡ length t = omega arith in
    let is : v ≡ value_from q t = value_behind xs (b ∷ t) 0 in
    let least = subst (λ (x : ℕ). q * 10 ^ length t ≤ x) (sym is) (value_least t q) in
    let less = subst (λ (x : ℕ). v < x * 10 ^ length t) (sym (add-one q)) (subst (λ (x : ℕ). x < suc q * 10 ^ length t) (sym is) (value_lt q d)) in
    let six : v / 10 ^ (n - 6) ≡ q = ap (λ (x : ℕ). v / 10 ^ x) more ∙ div-eq_of_lt-le (10 ^ length t) least less in
    let up : (q + 5) / 10 ≡ value_of xs + cond (leb (zero_digit + 5) b) 1 0 = carry (value_of xs) b low high (leb (zero_digit + 5) b) refl in
    let e = units_six w v n (omega arith) ∙ ap (λ (x : ℕ). day * w + (x + 5) / 10) six in
    omega arith

-- of a date's digits as they are spelled
pub units_sixth : (ws ds : List ℕ) → Digits ds → 6 ≤ length ds
    → units_of (value_of ws) (value_of ds) (length ds) ≡ value_of (ws ++ take 5 ds) + cond (leb (zero_digit + 5) (get_or ds 5 0)) 1 0
units_sixth ws ds d some =
    let five : length (take 5 ds) ≡ 5 = length-take-le 5 ds (omega arith) in
    let rest = drop-cons ds 5 0 (omega arith) in
    let cut : ds ≡ take 5 ds ++ get_or ds 5 0 ∷ drop 6 ds = sym (take-append-drop 5 ds) ∙ ap (λ (s : List ℕ). take 5 ds ++ s) rest in
    let e = behind_five (value_of ws) (get_or ds 5 0) (take 5 ds) (drop 6 ds) five (subst (λ (s : List ℕ). Digits s) rest (digits_drop 5 d)) in
    let front : value_of (ws ++ take 5 ds) ≡ value_of ws * 10 ^ 5 + value_of (take 5 ds) = value_append ws (take 5 ds) ∙ ap (λ (n : ℕ). value_of ws * 10 ^ n + value_of (take 5 ds)) five in
    let whole : units_of (value_of ws) (value_of ds) (length ds) ≡ units_of (value_of ws) (value_of (take 5 ds ++ get_or ds 5 0 ∷ drop 6 ds)) (length (take 5 ds ++ get_or ds 5 0 ∷ drop 6 ds)) = ap (λ (s : List ℕ). units_of (value_of ws) (value_of s) (length s)) cut in
    omega arith
