-- Reading fields one after the other: what the fields that are left will give gives what all of them give. Assumes nothing.
use Prim.Native.Nat.{ℕ, ◌+◌, ◌<◌, ◌≤◌}
use mathlib.Core.Path.{◌≡◌, refl, ◌∙◌}
use mathlib.Core.List.{List, [], ◌∷◌}
use native.Mathlib.Nat.{zero-add}
use native.Mathlib.Numerals.{add-one}
use native.Mathlib.Omega.{arith}
use lib.ListN.{length, set, length-set}
use lib.Seq.{sets}
use Rattle.bits.specs.declared.Order.{Order}
use Rattle.bits.specs.Field.{field}
use Rattle.layout.specs.Layout.{Item, bits_of}
use Rattle.plan.specs.Run.{pattern_of, values_of}

-- the fields fs are left, the first of them at place at, and its pattern is result j of out
pub record Left (o : Order) (s : List ℕ) (p : ℕ) (all : List Item) (out₀ : List ℕ) (fs : List Item) (at j : ℕ) (out : List ℕ) : Type 0 where
  pub ends : at + bits_of fs ≡ p + bits_of all
  pub many : j + length fs ≡ length all
  pub made : sets out j (values_of o s at fs) ≡ sets out₀ 0 (values_of o s p all)
  pub size : length out ≡ length out₀

module _ {o : Order} {s : List ℕ} {p : ℕ} {all : List Item} {out₀ : List ℕ} where
  pub start : Left o s p all out₀ all p 0 out₀
  start = record { ends = refl; many = zero-add _; made = refl; size = refl }

  module _ {f : Item} {fs : List Item} {at j : ℕ} {out : List ℕ} (left : Left o s p all out₀ (f ∷ fs) at j out) where
    pub inside : at + f.width ≤ p + bits_of all
    unfolding bits_of
    inside = omega (arith, left.ends)

    pub room : j < length all
    room = omega (arith, left.many)

    pub next : Left o s p all out₀ fs (at + f.width) (j + 1) (set out j (pattern_of f.kind f.width (field o s at f.width)))
    unfolding bits_of values_of
    next =
        record {
          ends = omega (arith, left.ends);
          many = omega (arith, left.many);
          made = rw add-one left.made;
          size = length-set out j _ ∙ left.size;
        }

  pub finish : {at j : ℕ} {out : List ℕ} → Left o s p all out₀ [] at j out → (at ≡ p + bits_of all) × (out ≡ sets out₀ 0 (values_of o s p all))
  unfolding bits_of values_of
  finish left = (omega (arith, left.ends), left.made)
