-- Bytes in chunks of eight: a chunk holds the field of 64 bits at its place.
use mathlib.Core.Path.{◌≡◌, refl, sym, ap, ap₂, ◌∙◌}
use Prim.Native.Nat.{ℕ, zero, suc, ◌+◌, ◌*◌, ◌<◌, ◌≤◌}
use native.Mathlib.Omega.{arith}
use mathlib.Core.List.{List}
use lib.ListN.{get_or, length, take, drop}
use Rattle.std.specs.Simd.{first_chunks}
use Rattle.std.proofs.lemmas.List.{drop-drop, take-append-drop, length-take-le, length-drop}
use Rattle.bits.specs.declared.Order.{Order}
use Rattle.bits.specs.Field.{field}
use Rattle.bits.proofs.FieldLaws.{field_before, field-behind}

-- chunk i of the first k
chunk_at : (k i : ℕ) (xs d : List ℕ) → i < k → get_or (first_chunks 8 k xs) i d ≡ take 8 (drop (8 * i) xs)
chunk_at zero i xs d l = absurd (omega arith)
chunk_at (suc k) zero xs d l = refl
chunk_at (suc k) (suc i) xs d l =
    let e : 8 + 8 * i ≡ 8 * suc i = omega arith in
    chunk_at k i (drop 8 xs) d (omega arith) ∙ ap (take 8) (drop-drop (8 * i) 8 xs ∙ ap (λ (j : ℕ). drop j xs) e)

pub chunk_field : (o : Order) (src : List ℕ) (k i : ℕ) (d : List ℕ) → i < k → 8 * k ≤ length src → field o (get_or (first_chunks 8 k src) i d) 0 64 ≡ field o src (8 * (8 * i)) 64
chunk_field o src k i d l fit =
    let at : ℕ = 8 * i in
    let behind : List ℕ = drop at src in
    let before : length (take at src) ≡ at = length-take-le at src (omega arith) in
    let long : length (take 8 behind) ≡ 8 = length-take-le 8 behind (omega (arith, length-drop at src)) in
    let place : 8 * length (take at src) + 0 ≡ 8 * at = omega (arith, before) in
    ap (λ (b : List ℕ). field o b 0 64) (chunk_at k i src d l)
    ∙ sym (field_before o (take 8 behind) (drop 8 behind) 0 64 (omega (arith, long)))
    ∙ ap (λ (b : List ℕ). field o b 0 64) (take-append-drop 8 behind)
    ∙ sym (field-behind o (take at src) behind 0 64)
    ∙ ap₂ (λ (b : List ℕ) (p : ℕ). field o b p 64) (take-append-drop at src) place
