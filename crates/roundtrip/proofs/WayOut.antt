-- Writing items: all of them, as one number, stand behind what was written before.
use Prim.Native.Nat.{ℕ, ◌+◌, ◌*◌, ◌^◌, ◌<◌, ◌≤◌}
use mathlib.Core.Path.{◌≡◌, refl, sym, ap, ap₂, ◌∙◌, subst}
use mathlib.Core.List.{List, [], ◌∷◌, map}
use lib.ListN.{length}
use lib.Pow.{pow_pos}
use native.Mathlib.Nat.{add-zero, add_assoc}
use native.Mathlib.Omega.{arith}
use Rattle.bits.specs.declared.Order.{Order}
use Rattle.bits.specs.Refusals.{done}
use Rattle.bits.specs.Field.{join}
use Rattle.bits.proofs.JoinLaws.{join-lt, join_assoc, join_none}
use Rattle.packing.specs.Packing.{Belongs, story}
use Rattle.writer.specs.declared.Writer.{Writer}
use Rattle.writer.specs.Writer.{state_in, bits_written}
use Rattle.writer.proofs.WriteLaws.{Stored}
use Rattle.roundtrip.specs.Mixed.{Written, Item, Fit, none, more, bits, size, item_of, item_out, write_all}
use Rattle.roundtrip.proofs.ItemLaws.{worth, worth_lt, item_stored}

-- all items behind n bits as one number, in their order
unfoldable pub pack : Order → ℕ → List Item → ℕ
pack o n [] = 0
pack o n (e ∷ es) = join o (bits n e) (size (n + bits n e) es) (worth o e) (pack o (n + bits n e) es)

pub pack_lt : (o : Order) (n : ℕ) (es : List Item) → Fit es → pack o n es < 2 ^ size n es
unfolding pack size
pack_lt o n [] none = pow_pos 0
pack_lt o n (e ∷ es) (more f r) = join-lt o (bits n e) (size (n + bits n e) es) (worth_lt o n f) (pack_lt o (n + bits n e) es r)

-- from the output s and the writer w, which has written n bits, the items were written
pub record Went (o : Order) (s : List ℕ) (w : Writer) (n : ℕ) (es : List Item) (q : Written) : Type 0 where
  pub accepted : q.refusals ≡ map (λ (e : Item). done) es
  pub same_length : length q.out ≡ length s
  pub written : bits_written q.writer ≡ n + size n es
  pub belongs : Belongs (length s) (state_in q.writer)
  pub stands : story o q.out (state_in q.writer) ≡ join o n (size n es) (story o s (state_in w)) (pack o n es)

pub all_written : (o : Order) (s : List ℕ) (w : Writer) (n : ℕ) (es : List Item) → Belongs (length s) (state_in w) → bits_written w ≡ n → Fit es
    → n + size n es ≤ 8 * length s → Went o s w n es (write_all o s w es)
unfolding write_all size pack
all_written o s w n [] h at none room =
    record {
      accepted = refl;
      same_length = refl;
      written = at ∙ sym (add-zero n);
      belongs = h;
      stands = sym (join_none o n (story o s (state_in w)));
    }
all_written o s w n (e ∷ es) h at (more f r) room =
    let k : ℕ = bits n e in
    let m : ℕ = n + bits n e in
    let t : List ℕ = item_out o s w e in
    let x : Writer = (item_of o (length s) w e).writer in
    let enough : bits_written w + bits n e ≤ 8 * length s = omega arith in
    let one : Stored o s w k (worth o e) t (item_of o (length s) w e) = item_stored o s w at f (record { belongs = h; enough = enough }) in
    let l : length t ≡ length s = one.same_length in
    let at' : bits_written x ≡ m = one.written ∙ ap (λ (i : ℕ). i + k) at in
    let room' : n + bits n e + size (n + bits n e) es ≤ 8 * length t = omega arith in
    let others : Went o t x m es (write_all o t x es) = all_written o t x m es (subst (λ (i : ℕ). Belongs i (state_in x)) (sym l) one.belongs) at' r room' in
    record {
      accepted = ap₂ (λ (i : ℕ) (is : List ℕ). i ∷ is) one.accepted others.accepted;
      same_length = others.same_length ∙ l;
      written = others.written ∙ add_assoc n k (size m es);
      belongs = subst (λ (i : ℕ). Belongs i (state_in (write_all o t x es).writer)) l others.belongs;
      stands =
          others.stands
          ∙ ap (λ (j : ℕ). join o m (size m es) j (pack o m es)) (one.stands ∙ ap (λ (i : ℕ). join o i k (story o s (state_in w)) (worth o e)) at)
          ∙ join_assoc o n k (size m es) (story o s (state_in w)) (worth o e) (pack o m es);
    }
