-- Laws of layouts: how long their bytes are, which are good, and the field at an index.
use Prim.Native.Nat.{ℕ, ◌*◌, ◌%◌, ◌<◌, ◌≤◌}
use mathlib.Core.Path.{◌≡◌, refl, ap, ◌∙◌}
use mathlib.Core.Bool.{true, false, ◌&&◌}
use mathlib.Core.List.{List, [], ◌∷◌, ◌++◌}
use native.Mathlib.Omega.{arith}
use lib.ListN.{length, get_or}
use borrow.Author.Tests.{leb-true, eqb-true, le-leb, lt-leb, eq-eqb, ne_eqb}
use Rattle.layout.specs.Layout.{Item, item, items_of, good_item, good_items, are_layout, is_layout, bits_of}
use Rattle.layout.specs.Bytes.{bytes_of}
use Rattle.bits.proofs.TestLaws.{both, both_true}

-- ---- lengths

pub length_bytes : (fs : List Item) → length (bytes_of fs) ≡ 2 * length fs
unfolding bytes_of
length_bytes [] = refl
length_bytes (f ∷ fs) = let e = length_bytes fs in omega arith

pub length_items : (s : List ℕ) → length s % 2 ≡ 0 → 2 * length (items_of s) ≡ length s
unfolding items_of
length_items [] h = refl
length_items (k ∷ []) h = absurd (omega arith)
length_items (k ∷ w ∷ s) h = let e = length_items s (omega arith) in omega arith

-- ---- good fields

pub good_of : (f : Item) (fs : List Item) → good_items (f ∷ fs) ≡ true → (f.kind ≤ 1) × (f.width ≤ 64) × (good_items fs ≡ true)
unfolding good_items
good_of f fs e =
    let (first, others) = both e in
    let (kind, width) = both first in
    (leb-true _ _ kind, leb-true _ _ width, others)

pub good_cons : (f : Item) (fs : List Item) → f.kind ≤ 1 → f.width ≤ 64 → good_items fs ≡ true → good_items (f ∷ fs) ≡ true
unfolding good_items
good_cons f fs h k e = both_true (both_true (le-leb _ _ h) (le-leb _ _ k)) e

-- no field has more than 64 bits
pub bits_most : (fs : List Item) → good_items fs ≡ true → bits_of fs ≤ 64 * length fs
unfolding bits_of
bits_most [] e = omega arith
bits_most (f ∷ fs) e = let (kind, width, others) = good_of f fs e in omega (arith, bits_most fs others)

-- ---- layouts

pub layout_of : (fs : List Item) → are_layout fs ≡ true → (length fs ≤ 64) × (good_items fs ≡ true)
layout_of fs e = let (few, good) = both e in (leb-true _ _ few, good)

pub is_layout_of : (s : List ℕ) → is_layout s ≡ true → (length s % 2 ≡ 0) × (length s ≤ 128) × (good_items (items_of s) ≡ true)
unfolding is_layout
is_layout_of s e =
    let (even, fields) = both e in
    let h = eqb-true (length s % 2) 0 even in
    let (few, good) = layout_of (items_of s) fields in
    (h, omega (arith, length_items s h), good)

module _ (s : List ℕ) where
  pub is_layout_odd : (length s % 2 ≡ 0 → ⊥) → is_layout s ≡ false
  unfolding is_layout
  is_layout_odd h = rw (ne_eqb (length s % 2) 0 h)

  module _ (h : length s % 2 ≡ 0) where
    pub is_layout_long : 128 < length s → is_layout s ≡ false
    unfolding is_layout
    is_layout_long k =
        let many : 64 < length (items_of s) = omega (arith, length_items s h) in
        rw (eq-eqb (length s % 2) 0 h, lt-leb (length (items_of s)) 64 many)

    pub is_layout_good : length s ≤ 128 → is_layout s ≡ good_items (items_of s)
    unfolding is_layout
    is_layout_good k =
        let few : length (items_of s) ≤ 64 = omega (arith, length_items s h) in
        rw (eq-eqb (length s % 2) 0 h, le-leb (length (items_of s)) 64 few)

-- ---- two bytes are a field

-- a slice of two bytes
two_bytes : (x : List ℕ) → length x ≡ 2 → x ≡ get_or x 0 0 ∷ get_or x 1 0 ∷ []
two_bytes [] h = absurd (omega arith)
two_bytes (k ∷ []) h = absurd (omega arith)
two_bytes (k ∷ w ∷ []) h = refl
two_bytes (k ∷ w ∷ b ∷ s) h = absurd (omega arith)

-- x is the first field's bytes of s, and t the others'
pub record FirstOf (s x t : List ℕ) : Type 0 where
  pub joined : s ≡ x ++ t
  pub two : length x ≡ 2

-- so it is where x is the first piece of n bytes, and n is 2
pub first_of : {n : ℕ} {s x t : List ℕ} → (s ≡ x ++ t) × (length x ≡ n) → n ≡ 2 → FirstOf s x t
first_of (joined, long) e = record { joined = joined; two = long ∙ e }

module _ {s x t : List ℕ} (first : FirstOf s x t) where
  pub items_cons : items_of s ≡ item (get_or x 0 0) (get_or x 1 0) ∷ items_of t
  unfolding items_of
  items_cons = ap items_of (first.joined ∙ ap (λ (l : List ℕ). l ++ t) (two_bytes x first.two))

  pub good_first : good_items (items_of s) ≡ (good_item (item (get_or x 0 0) (get_or x 1 0)) && good_items (items_of t))
  unfolding good_items
  good_first = ap good_items items_cons

pub items_none : (s : List ℕ) → length s < 2 → items_of s ≡ []
unfolding items_of
items_none [] h = refl
items_none (k ∷ []) h = refl
items_none (k ∷ w ∷ s) h = absurd (omega arith)

pub good_none : (s : List ℕ) → length s < 2 → good_items (items_of s) ≡ true
unfolding good_items
good_none s h = ap good_items (items_none s h)
