-- Decoding undoes compiling.
use Prim.Native.Nat.{ℕ, ◌+◌, ◌-◌, ◌<◌, ◌≤◌}
use mathlib.Core.Path.{◌≡◌, refl, ap, ◌∙◌}
use mathlib.Core.Bool.{true, false}
use mathlib.Core.List.{List, [], ◌∷◌}
use native.Mathlib.Nat.{zero-add, add-zero}
use native.Mathlib.Omega.{arith}
use lib.Dec.{ltb, leb}
use borrow.Author.Tests.{leb-true, leb-false, le-leb}
use Rattle.layout.specs.Layout.{Item, item, good_items}
use Rattle.layout.specs.Plan.{code, count, refill, wide, last_take, takes, refilled, ends, decode}
use Rattle.layout.proofs.LayoutLaws.{good_of}
use Rattle.bits.proofs.TestLaws.{both, both_true, by_test}

-- ---- one step

-- the last steps of fields are those of code 1 and 2
pub ends-true : (b : ℕ) → 1 ≤ code b → code b ≤ 2 → ends b ≡ true
ends-true b h k = both_true (le-leb _ _ h) (le-leb _ _ k)

pub ends_of : (b : ℕ) → ends b ≡ true → (1 ≤ code b) × (code b ≤ 2)
ends_of b e = let (h, k) = both e in (leb-true _ _ h, leb-true _ _ k)

module _ (a b : ℕ) (s : List ℕ) where
  pub decode_end : ends b ≡ true → decode a (b ∷ s) ≡ item (code b - 1) (a + count b) ∷ decode 0 s
  unfolding decode
  decode_end e = rw e

  pub decode_on : ends b ≡ false → decode a (b ∷ s) ≡ decode (a + count b) s
  unfolding decode
  decode_on e = rw e

pub decode-refill : (a : ℕ) (s : List ℕ) → decode a (refill ∷ s) ≡ decode a s
decode-refill a s = decode_on a refill s refl ∙ ap (λ (x : ℕ). decode x s) (add-zero a)

pub decode-wide : (s : List ℕ) → decode 0 (wide ∷ s) ≡ decode 56 s
decode-wide s = decode_on 0 wide s refl

item_is : (f : Item) (k w : ℕ) → k ≡ f.kind → w ≡ f.width → item k w ≡ f
item_is f k w p q = λ i. record { kind = p i; width = q i }

-- the last n bits of a field, a being taken already
pub decode-take : (f : Item) (a n : ℕ) (s : List ℕ) → f.kind ≤ 1 → n ≤ 56 → a + n ≡ f.width → decode a (last_take f.kind n ∷ s) ≡ f ∷ decode 0 s
decode-take f a n s h k e =
    decode_end a (last_take f.kind n) s (ends-true (last_take f.kind n) (omega arith) (omega arith))
    ∙ ap (λ (x : Item). x ∷ decode 0 s) (item_is f _ _ (omega arith) (omega arith))

-- ---- all of them

-- steps after a first one that are decoded alike are so with it
decode_alike : (a t : ℕ) (x y : List ℕ) → ((k : ℕ) → decode k x ≡ decode k y) → decode a (t ∷ x) ≡ decode a (t ∷ y)
unfolding decode
decode_alike a t x y e = rw (e 0, e (a + count t))

-- refills change nothing
pub decode-refilled : (g a : ℕ) (ts : List ℕ) → decode a (refilled g ts) ≡ decode a ts
unfolding refilled
decode-refilled g a [] = refl
decode-refilled g a (t ∷ ts) =
    by_test (ltb g (count t))
    (λ e. rw e (decode-refill a _ ∙ decode_alike a t _ ts (λ k. decode-refilled (56 - count t) k ts)))
    (λ e. rw e (decode_alike a t _ ts (λ k. decode-refilled (g - count t) k ts)))

pub decode-takes : (fs : List Item) → good_items fs ≡ true → decode 0 (takes fs) ≡ fs
unfolding takes decode
decode-takes [] e = refl
decode-takes (f ∷ fs) e =
    let (kind, width, good) = good_of f fs e in
    let others = ap (λ (l : List Item). f ∷ l) (decode-takes fs good) in
    by_test (leb f.width 56)
    (λ p. rw p (decode-take f 0 f.width (takes fs) kind (leb-true _ _ p) (zero-add _) ∙ others))
    (λ p.
    let h : 56 < f.width = leb-false _ _ p in
    rw p (decode-wide (last_take f.kind (f.width - 56) ∷ takes fs) ∙ decode-take f 56 (f.width - 56) (takes fs) kind (omega arith) (omega arith) ∙ others))
