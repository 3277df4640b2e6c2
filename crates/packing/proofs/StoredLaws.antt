-- Laws of runs of stores: what stays, and the field of stored bytes.
use mathlib.Core.Path.{◌≡◌, refl, sym, ap, ap₂, ◌∙◌, subst}
use Prim.Native.Nat.{ℕ, zero, suc, ◌+◌, ◌-◌, ◌*◌, ◌^◌, ◌<◌, ◌≤◌}
use native.Mathlib.Omega.{arith}
use mathlib.Core.List.{List, [], ◌∷◌, ◌++◌, append_assoc}
use lib.ListN.{get_or, length, take, drop, set, length-set}
use borrow.Rule.Slice.PartMut.{put_mid, Post-is}
use lib.Seq.{sets, sets-eq, get_or-set_same, get_or-set_other}
use Rattle.bits.specs.declared.Order.{Order}
use Rattle.bits.specs.Field.{join, field}
use Rattle.bits.specs.Word.{first, rest}
use Rattle.bits.proofs.JoinLaws.{first-lt, rest_lt}
use Rattle.bits.proofs.FieldLaws.{field_split, field_byte}
use Rattle.packing.specs.Packing.{bytes_of}
use Rattle.packing.proofs.PartLaws.{first_twice}
use Rattle.packing.proofs.BytesLaws.{byte_more}

-- a part of a list written anew, as a run of stores
pub part_sets : (s : List ℕ) (at n : ℕ) {part bs : List ℕ} → at + n ≤ length s → part ≡ bs → length bs ≡ n → put_mid at (at + n - at) s part ≡ sets s at bs
part_sets s at n {part} {bs} h p l =
    let after = Post-is at (at + n) s (omega arith) ∙ ap (λ (k : ℕ). drop (at + k) s) (sym l) in
    let new : put_mid at (at + n - at) s part ≡ take at s ++ (bs ++ drop (at + length bs) s) = (λ i. take at s ++ (p i ++ after i)) in
    new ∙ sym (append_assoc (take at s) bs (drop (at + length bs) s)) ∙ sym (sets-eq bs s at (omega (arith, l)))

-- what stands before a run of stores stays
pub get_d_sets_before : (bs s : List ℕ) (at i : ℕ) → i < at → get_or (sets s at bs) i 0 ≡ get_or s i 0
get_d_sets_before [] s at i h = refl
get_d_sets_before (b ∷ bs) s at i h =
    let h' : i < suc at = omega arith in
    get_d_sets_before bs (set s at b) (suc at) i h' ∙ get_or-set_other s at i b 0 (λ e. omega arith)

-- the field of stored bytes is what was stored
pub field_stored : (o : Order) (n r at : ℕ) (s : List ℕ) {v : ℕ} → at + n ≤ length s → v < 2 ^ (8 * n + r) → field o (sets s at (bytes_of o n r v)) (8 * at) (8 * n) ≡ first o (8 * n) r v
unfolding bytes_of field
field_stored o zero r at s {v} h hv = let l : first o 0 r v < 2 ^ 0 = first-lt o 0 r hv in omega arith
field_stored o (suc n) r at s {v} h hv =
    let m : ℕ = 8 * n + r in
    let hv' : v < 2 ^ (8 + m) = subst (λ (k : ℕ). v < 2 ^ k) (byte_more n r) hv in
    let u : 8 * suc n ≡ 8 + 8 * n = omega arith in
    let b : ℕ = first o 8 m v in
    let t : List ℕ = set s at b in
    let z : List ℕ = sets t (suc at) (bytes_of o n r (rest o 8 m v)) in
    let d : 8 * at + 8 ≡ 8 * suc at = omega arith in
    let inside : at < length s = omega arith in
    let lt : at < suc at = omega arith in
    let e : get_or z at 0 ≡ b = get_d_sets_before (bytes_of o n r (rest o 8 m v)) t (suc at) at lt ∙ get_or-set_same s at b 0 inside in
    let bl : get_or z at 0 < 2 ^ 8 = subst (λ (k : ℕ). k < 2 ^ 8) (sym e) (first-lt o 8 m hv') in
    let more : suc at + n ≤ length t = omega (arith, length-set s at b) in
    ap (field o z (8 * at)) u ∙ field_split o z (8 * at) 8 (8 * n)
    ∙ ap₂ (join o 8 (8 * n)) (field_byte o z at bl ∙ e) (ap (λ (k : ℕ). field o z k (8 * n)) d ∙ field_stored o n r (suc at) t more (rest_lt o 8 m hv'))
    ∙ sym (ap (λ (k : ℕ). first o k r v) u ∙ first_twice o 8 (8 * n) r hv')
