-- Reading items back, where a field of the slice is all of them as one number, and zeros behind it.
use Prim.Native.Nat.{ℕ, ◌+◌, ◌*◌, ◌^◌, ◌<◌, ◌≤◌}
use mathlib.Core.Path.{◌≡◌, refl, sym, ap, ap₂, ◌∙◌}
use mathlib.Core.List.{List, [], ◌∷◌, map}
use lib.ListN.{length}
use lib.Pow.{pow_pos}
use native.Mathlib.Nat.{zero-add, add_assoc}
use native.Mathlib.Omega.{arith}
use Rattle.bits.specs.declared.Order.{Order}
use Rattle.bits.specs.Refusals.{longest, done}
use Rattle.bits.specs.Field.{field, join}
use Rattle.bits.proofs.JoinLaws.{join-lt, join_assoc, join_zeros}
use Rattle.bits.proofs.FieldLaws.{head_is, tail_is}
use Rattle.reader.specs.declared.Cursor.{Cursor}
use Rattle.reader.specs.Cursor.{place, bits_left, cursor_refusal}
use Rattle.roundtrip.specs.Mixed.{Item, Fit, none, more, bits, size, request_of, Value, value_of, answer_of, Back, read_all}
use Rattle.roundtrip.proofs.ItemLaws.{worth, worth_lt, Given, item_given}
use Rattle.roundtrip.proofs.WayOut.{pack, pack_lt}

-- the items were read, and pad bits are left, all zero
pub record Came (o : Order) (s : List ℕ) (pad : ℕ) (es : List Item) (r : Back) : Type 0 where
  pub accepted : r.refusals ≡ map (λ (e : Item). done) es
  pub values : r.values ≡ map value_of es
  pub left : bits_left s r.cursor ≡ pad
  pub zeros : field o s (place r.cursor) pad ≡ 0

-- items behind n bits and before pad zeros, up to the slice's end
pub all_read : (o : Order) (s : List ℕ) (c : Cursor) (n pad : ℕ) (es : List Item) → length s ≤ longest → cursor_refusal o s c ≡ done → Fit es
    → bits_left s c ≡ size n es + pad → n + bits_left s c ≡ 8 * length s → field o s (place c) (size n es + pad) ≡ join o (size n es) pad (pack o n es) 0
    → Came o s pad es (read_all o s c (map request_of es))
unfolding read_all size pack
all_read o s c n pad [] short h none l at f =
    let z : 0 + pad ≡ pad = zero-add pad in
    record { accepted = refl; values = refl; left = l ∙ z; zeros = ap (field o s (place c)) (sym z) ∙ f ∙ join_zeros o 0 pad }
all_read o s c n pad (e ∷ es) short h (more fits r) l at f =
    let k : ℕ = bits n e in
    let m : ℕ = n + bits n e in
    let b : ℕ = size m es + pad in
    let y : ℕ = join o (size m es) pad (pack o m es) 0 in
    let hx : worth o e < 2 ^ k = worth_lt o n fits in
    let hy : y < 2 ^ b = join-lt o (size m es) pad (pack_lt o m es r) (pow_pos pad) in
    let f' : field o s (place c) (k + b) ≡ join o k b (worth o e) y =
    ap (field o s (place c)) (sym (add_assoc k (size m es) pad)) ∙ f ∙ join_assoc o k (size m es) pad (worth o e) (pack o m es) 0 in
    let enough : bits n e ≤ bits_left s c = omega arith in
    let one : Given o s c k e (answer_of o s c (request_of e)) = item_given o s c h n short at fits enough (head_is o s (place c) k b hx hy f') in
    let d : Cursor = (answer_of o s c (request_of e)).cursor in
    let left : bits_left s d ≡ size (n + bits n e) es + pad = omega (arith, one.ahead.left) in
    let at' : n + bits n e + bits_left s d ≡ 8 * length s = omega (arith, one.ahead.left) in
    let rest-is : field o s (place d) b ≡ y = ap (λ (i : ℕ). field o s i b) one.ahead.ahead ∙ tail_is o s (place c) k b hx hy f' in
    let others : Came o s pad es (read_all o s d (map request_of es)) = all_read o s d m pad es short one.ahead.belongs r left at' rest-is in
    record {
      accepted = ap₂ (λ (i : ℕ) (is : List ℕ). i ∷ is) one.accepted others.accepted;
      values = ap₂ (λ (i : Value) (is : List Value). i ∷ is) one.same others.values;
      left = others.left;
      zeros = others.zeros;
    }
