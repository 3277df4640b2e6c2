-- Laws of putting bytes, over the order: they are one put of their field, and where no bits are held, they are stored as they are.
use mathlib.Core.Path.{◌≡◌, refl, sym, ap, ap₂, ◌∙◌, subst}
use Prim.Native.Nat.{ℕ, zero, suc, ◌+◌, ◌*◌, ◌^◌, ◌<◌, ◌≤◌}
use native.Mathlib.Nat.{zero-add, sub-zero}
use native.Mathlib.Numerals.{add-one}
use native.Mathlib.Omega.{arith}
use mathlib.Core.List.{List, [], ◌∷◌}
use lib.ListN.{get_or, length, drop, drop_of_length-le}
use lib.Seq.{sets, drop-cons}
use Rattle.bits.specs.declared.Order.{Order}
use Rattle.bits.specs.Field.{join, field}
use Rattle.bits.specs.Word.{rest}
use Rattle.bits.proofs.JoinLaws.{join-lt, none_join, rest_lt}
use Rattle.bits.proofs.FieldLaws.{field_lt}
use Rattle.packing.specs.declared.State.{State}
use Rattle.packing.specs.Packing.{bits_written, gathered, bytes_of, put, put_out, put_bytes, put_bytes_out}
use Rattle.packing.proofs.BytesLaws.{bytes_field}
use Rattle.packing.proofs.PutLaws.{put-length, put_written, put_few, put_small, put_is, put_out_is}
use Rattle.packing.proofs.StretchLaws.{Stretch, stretch_none, stretch_byte, stretch_join}

module _ (o : Order) where
  pub bytes_length : (bs s : List ℕ) (c : State) → length (put_bytes_out o s c bs) ≡ length s
  unfolding put_bytes_out
  bytes_length [] s c = refl
  bytes_length (b ∷ bs) s c = bytes_length bs (put_out o s c 8 b) (put o c 8 b) ∙ put-length o c 8 b s

  pub bytes_written : (bs : List ℕ) (c : State) → bits_written (put_bytes o c bs) ≡ bits_written c + 8 * length bs
  unfolding put_bytes
  bytes_written [] c = omega arith
  bytes_written (b ∷ bs) c = omega (arith, bytes_written bs (put o c 8 b), put_written o c 8 b)

module _ (o : Order) (bs : List ℕ) (bytes : (i : ℕ) → get_or bs i 0 < 2 ^ 8) where
  -- the last n bytes are a stretch
  last_bytes : (n i : ℕ) → i + n ≡ length bs → (s : List ℕ) (c : State) → c.number < 2 ^ c.held → c.held ≤ 7
      → Stretch o bs i (length bs) s c (put_bytes_out o s c (drop i bs)) (put_bytes o c (drop i bs))
  unfolding put_bytes put_bytes_out
  last_bytes zero i e s c small few =
      let all : i ≡ length bs = omega arith in
      let l : length bs ≤ i = omega arith in
      rw (drop_of_length-le bs l) (subst (λ (k : ℕ). Stretch o bs i k s c s c) all (stretch_none o bs i s c small few))
  last_bytes (suc n) i e s c small few =
      let b : ℕ = get_or bs i 0 in
      let l : i < length bs = omega arith in
      let e' : i + 1 + n ≡ length bs = omega arith in
      let one : Stretch o bs i (i + 1) s c (put_out o s c 8 b) (put o c 8 b) = stretch_byte o bs i s c (bytes i) b refl refl refl in
      rw (drop-cons bs i 0 l, ← add-one i)
      (stretch_join o bs i s c (i + 1) (put_out o s c 8 b) (put o c 8 b) one small (length bs)
      (last_bytes n (i + 1) e' (put_out o s c 8 b) (put o c 8 b) (put_small o c small 8 (bytes i)) (put_few o c 8 b)))

  module _ (c : State) (small : c.number < 2 ^ c.held) (few : c.held ≤ 7) where
    -- all bytes at once, as their field
    pub bytes_put : put_bytes o c bs ≡ put o c (8 * length bs) (field o bs 0 (8 * length bs))
    bytes_put = simp sub-zero at (last_bytes (length bs) 0 (zero-add (length bs)) [] c small few).state

    pub bytes_put_out : (s : List ℕ) → put_bytes_out o s c bs ≡ put_out o s c (8 * length bs) (field o bs 0 (8 * length bs))
    bytes_put_out s = simp sub-zero at (last_bytes (length bs) 0 (zero-add (length bs)) s c small few).memory

    -- a stretch of all bytes is what putting the bytes leaves
    pub stretch_all : (s t : List ℕ) (d : State) → Stretch o bs 0 (length bs) s c t d → (d ≡ put_bytes o c bs) × (t ≡ put_bytes_out o s c bs)
    stretch_all s t d g = let all = last_bytes (length bs) 0 (zero-add (length bs)) s c small few in (g.state ∙ sym all.state, g.memory ∙ sym all.memory)

  -- where no bits are held, the bytes themselves are stored
  module _ (c : State) (aligned : c.held ≡ 0) (none : c.number ≡ 0) where
    none_held : c.number < 2 ^ c.held
    none_held = rw (aligned, none) (omega arith)

    none_few : c.held ≤ 7
    none_few = omega arith

    count : c.held + 8 * length bs ≡ 8 * length bs + 0
    count = omega arith

    pub bytes_aligned_out : (s : List ℕ) → put_bytes_out o s c bs ≡ sets s c.written bs
    bytes_aligned_out s =
        let v : ℕ = field o bs 0 (8 * length bs) in
        let all : gathered o c (8 * length bs) v ≡ v = ap₂ (λ (i j : ℕ). join o i (8 * length bs) j v) aligned none ∙ none_join o (8 * length bs) v in
        bytes_put_out c none_held none_few s
        ∙ put_out_is o c (8 * length bs) v (length bs) 0 count (omega arith) s
        ∙ ap (sets s c.written) (ap (bytes_of o (length bs) 0) all ∙ bytes_field o bs bytes)

    pub bytes_aligned : put_bytes o c bs ≡ record { written = c.written + length bs; held = 0; number = 0 }
    bytes_aligned =
        let v : ℕ = field o bs 0 (8 * length bs) in
        let lt : gathered o c (8 * length bs) v < 2 ^ (8 * length bs + 0) =
        subst (λ (k : ℕ). gathered o c (8 * length bs) v < 2 ^ k) count (join-lt o c.held (8 * length bs) none_held (field_lt o bs 0 (8 * length bs))) in
        let none_over : rest o (8 * length bs) 0 (gathered o c (8 * length bs) v) < 2 ^ 0 = rest_lt o (8 * length bs) 0 lt in
        let e : rest o (8 * length bs) 0 (gathered o c (8 * length bs) v) ≡ 0 = omega arith in
        bytes_put c none_held none_few
        ∙ put_is o c (8 * length bs) v (length bs) 0 count (omega arith)
        ∙ (λ i. record { written = c.written + length bs; held = 0; number = e i })
