-- Words of 64 bits that hold a number of fewer bits, over the order: its bytes, and one byte stored.
use mathlib.Core.Path.{◌≡◌, sym, ap, ap₂, ◌∙◌, subst}
use Prim.Native.Nat.{ℕ, zero, suc, ◌+◌, ◌-◌, ◌*◌, ◌^◌, ◌<◌, ◌≤◌}
use native.Mathlib.Numerals.{add-one}
use native.Mathlib.Omega.{arith}
use mathlib.Core.List.{List}
use lib.ListN.{set}
use lib.Seq.{sets}
use lib.Pow.{pow_pos}
use Rattle.bits.specs.declared.Order.{Order}
use Rattle.bits.specs.Word.{first, rest, held, skipped}
use Rattle.bits.proofs.JoinLaws.{join_parts, first-lt, rest_lt}
use Rattle.bits.proofs.WordLaws.{skipped-join}
use Rattle.packing.specs.Packing.{bytes_of}
use Rattle.packing.proofs.BytesLaws.{bytes_longer}

-- the word's first bytes are those of the number
held_bytes : (o : Order) (n r : ℕ) {v : ℕ} → 8 * n + r ≤ 64 → v < 2 ^ (8 * n + r) → bytes_of o n (64 - 8 * n) (held o (8 * n + r) v) ≡ bytes_of o n r v
unfolding held
held_bytes o n r h hv = bytes_longer o n r (64 - (8 * n + r)) (64 - 8 * n) (omega arith) hv (pow_pos (64 - (8 * n + r)))

-- one byte of a word stored, and the others to come
pub store_step : (o : Order) (s : List ℕ) (at n x : ℕ) → 0 < n → n ≤ 8 → x < 2 ^ 64
    → sets (set s at (first o 8 56 x)) (at + 1) (bytes_of o (n - 1) (64 - 8 * (n - 1)) (skipped o 8 x)) ≡ sets s at (bytes_of o n (64 - 8 * n) x)
unfolding bytes_of held
store_step o s at zero x p h hx = absurd (omega arith)
store_step o s at (suc k) x p h hx =
    let g : ℕ = rest o 8 56 x in
    let hg : g < 2 ^ 56 = rest_lt o 8 56 hx in
    let d : suc k - 1 ≡ k = omega arith in
    let e : 8 * k + (64 - 8 * suc k) ≡ 56 = omega arith in
    let f : 8 * k + (56 - 8 * k) ≡ 56 = omega arith in
    let q : 64 - 8 * suc k ≡ 56 - 8 * k = omega arith in
    let m : 8 * k + (56 - 8 * k) ≤ 64 = omega arith in
    let hg' : g < 2 ^ (8 * k + (56 - 8 * k)) = subst (λ (i : ℕ). g < 2 ^ i) (sym f) hg in
    let sk : skipped o 8 x ≡ held o 56 g = ap (skipped o 8) (sym (join_parts o 8 56 x)) ∙ skipped-join o 8 (omega arith) (first-lt o 8 56 hx) hg in
    let b : bytes_of o k (64 - 8 * k) (held o 56 g) ≡ bytes_of o k (56 - 8 * k) g = ap (λ (i : ℕ). bytes_of o k (64 - 8 * k) (held o i g)) (sym f) ∙ held_bytes o k (56 - 8 * k) m hg' in
    ap₂ (λ (i j : ℕ). sets (set s at (first o 8 56 x)) i (bytes_of o j (64 - 8 * j) (skipped o 8 x))) (add-one at) d
    ∙ ap (sets (set s at (first o 8 56 x)) (suc at)) (ap (bytes_of o k (64 - 8 * k)) sk ∙ b)
    ∙ sym (ap₂ (λ (i j : ℕ). sets (set s at (first o 8 i x)) (suc at) (bytes_of o k j (rest o 8 i x))) e q)
