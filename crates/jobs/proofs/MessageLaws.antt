-- Laws of messages: words with a number, put together at the front of an output.
use Prim.Native.Nat.{ℕ, ◌+◌, ◌^◌, ◌<◌, ◌≤◌}
use mathlib.Core.Path.{◌≡◌, refl, sym, ap, ap₂, ◌∙◌}
use mathlib.Core.List.{List, [], ◌∷◌, ◌++◌, append_assoc}
use lib.ListN.{length, take, drop, length-append}
use lib.Seq.{sets, sets-eq, take_at, take-append_seam, length-take-le}
use native.Mathlib.Omega.{arith}
use Rattle.bits.proofs.StoreLaws.{sets-append, front, front_take}
use Rattle.digits.specs.Digits.{ascii, newline}
use Rattle.print.specs.Print.{places, whole_of}
use Rattle.print.proofs.DigitLaws.{places_few}
use Rattle.print.proofs.StoreLaws.{part-size}
use Rattle.jobs.specs.Jobs.{too_long_said, bad_line_said, bad_row_said, ok_said, fault_said}

-- ---- the bytes

abbrev pub too_long_bytes : List ℕ
too_long_bytes = 116 ∷ 111 ∷ 111 ∷ 32 ∷ 108 ∷ 111 ∷ 110 ∷ 103 ∷ 10 ∷ []

pub too_long_is : too_long_said ≡ too_long_bytes
unfolding too_long_said ascii
too_long_is = refl

-- words and a number
abbrev pub numbered : List ℕ → ℕ → List ℕ
numbered words n = words ++ (whole_of n ++ newline ∷ [])

abbrev pub bad_line_bytes : List ℕ
bad_line_bytes = 98 ∷ 97 ∷ 100 ∷ 32 ∷ 108 ∷ 105 ∷ 110 ∷ 101 ∷ 32 ∷ []

pub bad_line_is : (n : ℕ) → bad_line_said n ≡ numbered bad_line_bytes n
unfolding bad_line_said ascii
bad_line_is n = refl

abbrev pub bad_row_bytes : List ℕ
bad_row_bytes = 98 ∷ 97 ∷ 100 ∷ 32 ∷ 114 ∷ 111 ∷ 119 ∷ 32 ∷ []

pub bad_row_is : (n : ℕ) → bad_row_said n ≡ numbered bad_row_bytes n
unfolding bad_row_said ascii
bad_row_is n = refl

pub ok_is : ok_said ≡ 111 ∷ 107 ∷ 10 ∷ []
unfolding ok_said ascii
ok_is = refl

abbrev pub record_bytes : List ℕ
record_bytes = 114 ∷ 101 ∷ 99 ∷ 111 ∷ 114 ∷ 100 ∷ 32 ∷ []

abbrev pub rule_bytes : List ℕ
rule_bytes = 114 ∷ 117 ∷ 108 ∷ 101 ∷ 32 ∷ []

-- a record and a rule, as they are put together
pub fault_is : (n r : ℕ) → fault_said n r ≡ numbered ((record_bytes ++ (whole_of n ++ 32 ∷ [])) ++ rule_bytes) r
unfolding fault_said ascii
fault_is n r = simp append_assoc refl

-- ---- put

-- bytes copied to the front
pub copied : (x out : List ℕ) → length x ≤ length out → x ++ drop (length x) out ≡ sets out 0 x
copied x out h = sym (front x out h)

-- bytes b, and bytes x behind them: all of it is b and x
pub behind_front : (b x l : List ℕ) (n : ℕ) → take (length b) l ≡ b → length b + length x ≤ length l → n ≡ length b + length x
    → take n (sets l (length b) x) ≡ b ++ x
behind_front b x l n e h k =
    let rest = drop (length b + length x) l in
    let z : length (b ++ x) ≡ n = length-append b x ∙ sym k in
    ap (take n) (sets-eq x l (length b) h ∙ ap (λ (y : List ℕ). (y ++ x) ++ rest) e) ∙ take_at (b ++ x) rest n z

-- words copied to the front, behind them a number's digits and a byte, and the place behind these
pub numbered_put : (words rest : List ℕ) (n b : ℕ) {l last : List ℕ} {at end : ℕ} → at ≡ length words
    → l ≡ words ++ rest → at + places n < length l
    → last ≡ sets l at (whole_of n ++ b ∷ []) → end ≡ at + places n + 1 → take end last ≡ words ++ (whole_of n ++ b ∷ [])
numbered_put words rest n b {l} {last} {at} {end} e c h f k =
    let x = whole_of n ++ b ∷ [] in
    let p = part-size (places n) n b in
    let front : take (length words) l ≡ words =
    ap (take (length words)) c ∙ take-append_seam words rest in
    ap (take end) (f ∙ ap (λ (j : ℕ). sets l j x) e) ∙ behind_front words x l end front (omega arith) (omega arith)

-- words copied behind the first m bytes of l, and the place behind them
module _ (words rest z l : List ℕ) (m : ℕ) {n k : ℕ} {y : List ℕ} (h : m ≤ length l) (there : y ≡ words ++ rest) (e : k ≡ m + n) (f : n ≡ length words) where
  pub behind_room : k ≤ length (take m l ++ (y ++ z))
  behind_room =
      let a = length-append (take m l) (y ++ z) in
      let b = length-append y z in
      let c = ap length there ∙ length-append words rest in
      let d = length-take-le m l h in
      omega arith

  pub copied_behind : take k (take m l ++ (y ++ z)) ≡ take m l ++ words
  copied_behind =
      ap (λ (x : List ℕ). take k (take m l ++ (x ++ z))) there
      ∙ ap (take k) (simp append_assoc refl)
      ∙ take_at (take m l ++ words) (rest ++ z) k (length-append (take m l) words ∙ ap (λ (i : ℕ). i + length words) (length-take-le m l h) ∙ omega arith)

-- bytes x put behind bytes a that stand at the front
pub put_behind : (a x l : List ℕ) {m last : List ℕ} {at : ℕ} → m ≡ sets l 0 a → at ≡ 0 + length a → last ≡ sets m at x → last ≡ sets l 0 (a ++ x)
put_behind a x l e f g = g ∙ ap₂ (λ (m : List ℕ) (k : ℕ). sets m k x) e f ∙ sym (sets-append a x l 0)

-- what stands at the front, up to its end
pub put_taken : (x l : List ℕ) {last : List ℕ} {end : ℕ} → last ≡ sets l 0 x → end ≡ length x → length x ≤ length l → take end last ≡ x
put_taken x l e f h = ap₂ (λ (k : ℕ) (m : List ℕ). take k m) f e ∙ front_take x l h

-- a number has at most ten digits
pub places_ten : (n : ℕ) → n < 2 ^ 32 → places n ≤ 10
places_ten n h = places_few 9 9 n (omega arith)

-- how long it is
pub numbered_length : (words : List ℕ) (n : ℕ) → length (numbered words n) ≡ length words + (places n + 1)
numbered_length words n =
    length-append words (whole_of n ++ newline ∷ []) ∙ ap (λ (k : ℕ). length words + k) (part-size (places n) n newline)

-- at most eleven bytes more than the words
pub numbered_few : (words : List ℕ) (n : ℕ) → n < 10 ^ 10 → length (numbered words n) ≤ length words + 11
numbered_few words n h =
    let a = numbered_length words n in
    let b = places_few 9 9 n h in
    omega arith
