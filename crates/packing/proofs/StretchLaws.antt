-- A stretch of a source's bytes that is put behind what was written, as one put of its field; stretches one after the other are one.
use mathlib.Core.Path.{◌≡◌, sym, ap, ap₂, ◌∙◌}
use Prim.Native.Nat.{ℕ, ◌+◌, ◌-◌, ◌*◌, ◌^◌, ◌<◌, ◌≤◌}
use native.Mathlib.Nat.{le_refl}
use native.Mathlib.Omega.{arith}
use mathlib.Core.List.{List}
use lib.ListN.{get_or, length}
use Rattle.bits.specs.declared.Order.{Order}
use Rattle.bits.specs.Field.{join, field}
use Rattle.bits.proofs.FieldLaws.{field_lt, field_split, field_byte}
use Rattle.packing.specs.declared.State.{State}
use Rattle.packing.specs.Packing.{bits_written, Belongs, put, put_out}
use Rattle.packing.proofs.PutLaws.{put-length, put_none, put_none_out, put-put, put-put_out, put_next}

-- from the writer c and the output s on, bytes i to j - 1 lead to d and t
pub record Stretch (o : Order) (src : List ℕ) (i j : ℕ) (s : List ℕ) (c : State) (t : List ℕ) (d : State) : Type 0 where
  pub up : i ≤ j
  pub state : d ≡ put o c (8 * (j - i)) (field o src (8 * i) (8 * (j - i)))
  pub memory : t ≡ put_out o s c (8 * (j - i)) (field o src (8 * i) (8 * (j - i)))

module _ (o : Order) (src : List ℕ) (i : ℕ) (s : List ℕ) (c : State) where
  pub stretch_none : c.number < 2 ^ c.held → c.held ≤ 7 → Stretch o src i i s c s c
  unfolding field
  stretch_none small few =
      let e : 0 ≡ 8 * (i - i) = omega arith in
      record {
        up = le_refl i;
        state = sym (put_none o c small few) ∙ ap (λ (k : ℕ). put o c k (field o src (8 * i) k)) e;
        memory = sym (put_none_out o c small few s) ∙ ap (λ (k : ℕ). put_out o s c k (field o src (8 * i) k)) e;
      }

  -- n bytes
  pub stretch_put : (n : ℕ) {t : List ℕ} {d : State} → d ≡ put o c (8 * n) (field o src (8 * i) (8 * n)) → t ≡ put_out o s c (8 * n) (field o src (8 * i) (8 * n))
      → Stretch o src i (i + n) s c t d
  stretch_put n hd ht =
      let e : 8 * n ≡ 8 * (i + n - i) = omega arith in
      record {
        up = omega arith;
        state = hd ∙ ap (λ (k : ℕ). put o c k (field o src (8 * i) k)) e;
        memory = ht ∙ ap (λ (k : ℕ). put_out o s c k (field o src (8 * i) k)) e;
      }

  -- one byte, and eight as one word of 64 bits
  pub stretch_byte : get_or src i 0 < 2 ^ 8 → (b : ℕ) → b ≡ get_or src i 0 → {t : List ℕ} {d : State} → d ≡ put o c 8 b → t ≡ put_out o s c 8 b → Stretch o src i (i + 1) s c t d
  stretch_byte small b hb hd ht =
      let e : b ≡ field o src (8 * i) 8 = hb ∙ sym (field_byte o src i small) in
      stretch_put 1 (hd ∙ ap (put o c 8) e) (ht ∙ ap (put_out o s c 8) e)

  pub stretch_word : (v : ℕ) → v ≡ field o src (8 * i) 64 → {t : List ℕ} {d : State} → d ≡ put o c 64 v → t ≡ put_out o s c 64 v → Stretch o src i (i + 8) s c t d
  stretch_word v hv hd ht = stretch_put 8 (hd ∙ ap (put o c 64) hv) (ht ∙ ap (put_out o s c 64) hv)

  module _ (j : ℕ) (t : List ℕ) (d : State) (g : Stretch o src i j s c t d) where
    pub stretch_length : length t ≡ length s
    stretch_length = ap length g.memory ∙ put-length o c (8 * (j - i)) (field o src (8 * i) (8 * (j - i))) s

    -- as many bits stay as were held
    pub stretch_held : c.held ≤ 7 → d.held ≡ c.held
    unfolding put
    stretch_held few = ap (λ (m : State). m.held) g.state ∙ omega arith

    -- the writer belongs, and the bytes to k have room
    pub stretch_next : (k : ℕ) → Belongs (length s) c → bits_written c + 8 * (k - i) ≤ 8 * length s → j ≤ k → Belongs (length t) d × (bits_written d + 8 * (k - j) ≤ 8 * length t)
    stretch_next k h room l =
        let up : i ≤ j = g.up in
        let room' : bits_written c + (8 * (j - i) + 8 * (k - j)) ≤ 8 * length s = omega arith in
        put_next o s c h (8 * (j - i)) (8 * (k - j)) (field_lt o src (8 * i) (8 * (j - i))) room' t d g.memory g.state

    -- and one more
    pub stretch_join : c.number < 2 ^ c.held → (k : ℕ) {u : List ℕ} {e : State} → Stretch o src j k t d u e → Stretch o src i k s c u e
    stretch_join small k {u} {e} f =
        let a : ℕ = 8 * (j - i) in
        let b : ℕ = 8 * (k - j) in
        let x : ℕ = field o src (8 * i) a in
        let y : ℕ = field o src (8 * j) b in
        let up₁ : i ≤ j = g.up in
        let up₂ : j ≤ k = f.up in
        let sum : a + b ≡ 8 * (k - i) = omega arith in
        let place : 8 * j ≡ 8 * i + a = omega arith in
        let both : join o a b x y ≡ field o src (8 * i) (a + b) = ap (λ (p : ℕ). join o a b x (field o src p b)) place ∙ sym (field_split o src (8 * i) a b) in
        record {
          up = omega arith;
          state = f.state ∙ ap (λ (m : State). put o m b y) g.state ∙ put-put o c small a b (field_lt o src (8 * i) a) (field_lt o src (8 * j) b)
              ∙ ap (put o c (a + b)) both ∙ ap (λ (n : ℕ). put o c n (field o src (8 * i) n)) sum;
          memory = f.memory ∙ ap₂ (λ (l : List ℕ) (m : State). put_out o l m b y) g.memory g.state ∙ put-put_out o c small a b (field_lt o src (8 * i) a) (field_lt o src (8 * j) b) s
              ∙ ap (put_out o s c (a + b)) both ∙ ap (λ (n : ℕ). put_out o s c n (field o src (8 * i) n)) sum;
        }
