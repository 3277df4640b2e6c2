-- Writing steps: pieces that are written one after the other are written in one. Assumes nothing.
use Prim.Native.Nat.{ℕ, suc, ◌+◌, ◌-◌, ◌*◌, ◌<◌, ◌≤◌}
use mathlib.Core.Path.{◌≡◌, refl, sym, ap, ◌∙◌}
use mathlib.Core.Bool.{true}
use mathlib.Core.List.{List, [], ◌∷◌, ◌++◌}
use native.Mathlib.Nat.{add-zero, add_assoc}
use native.Mathlib.Omega.{arith}
use lib.ListN.{length, get_or, length-append}
use lib.Seq.{sets}
use borrow.Author.Tests.{le-leb, lt-leb}
use Rattle.bits.proofs.StoreLaws.{sets-append}
use Rattle.layout.specs.declared.inner.compiler.Put.{Put}
use Rattle.layout.specs.Layout.{item, items_of, good_items, is_layout}
use Rattle.layout.specs.Plan.{wide, takes, refilled}
use Rattle.layout.specs.Known.{known}
use Rattle.layout.proofs.LayoutLaws.{good_of, is_layout_of, FirstOf, items_cons, items_none}
use Rattle.layout.proofs.CompileLaws.{length_compiled}
use Rattle.layout.proofs.SeamLaws.{known-le, known-append, takes-append, refilled-append}

-- where writing goes on after the takes ts, from p on
abbrev pub next_of : Put → List ℕ → Put
next_of p ts = record { at = p.at + length (refilled p.known ts); known = known p.known ts }

-- the takes ts, written into out from p on, give o, and writing goes on at q
pub record Wrote (p : Put) (ts out : List ℕ) (q : Put) (o : List ℕ) : Type 0 where
  pub next : q ≡ next_of p ts
  pub made : o ≡ sets out p.at (refilled p.known ts)

put_is : (p q : Put) → p.at ≡ q.at → p.known ≡ q.known → p ≡ q
put_is p q e f = λ i. record { at = e i; known = f i }

pub wrote_none : (p : Put) (out : List ℕ) → Wrote p [] out p out
unfolding refilled known
wrote_none p out = record { next = put_is _ _ (sym (add-zero p.at)) refl; made = refl }

pub wrote-append : {p q r : Put} {xs ys out o₁ o₂ : List ℕ} → Wrote p xs out q o₁ → Wrote q ys o₁ r o₂ → Wrote p (xs ++ ys) out r o₂
wrote-append {p} {q} {r} {xs} {ys} {out} u v =
    record {
      next =
          v.next ∙ ap (λ (x : Put). next_of x ys) u.next
          ∙ put_is _ _
          (add_assoc p.at (length (refilled p.known xs)) _ ∙ rw (refilled-append p.known xs ys, length-append))
          (sym (known-append p.known xs ys));
      made = v.made ∙ rw (u.made, u.next, refilled-append p.known xs ys, sets-append (refilled p.known xs));
    }

-- ---- the takes of one field

module _ (k w : ℕ) where
  pub takes_narrow : w ≤ 56 → takes (item k w ∷ []) ≡ (64 * (k + 1) + w) ∷ []
  unfolding takes
  takes_narrow h = let e : 64 * suc k + w ≡ 64 * (k + 1) + w = omega arith in rw (le-leb w 56 h, e)

  pub takes_broad : 56 < w → takes (item k w ∷ []) ≡ wide ∷ (64 * (k + 1) + (w - 56)) ∷ []
  unfolding takes
  takes_broad h = let e : 64 * suc k + (w - 56) ≡ 64 * (k + 1) + (w - 56) = omega arith in rw (lt-leb w 56 h, e)

-- ---- a layout's fields one after the other

abbrev pub start : Put
start = record { at = 0; known = 0 }

-- the bytes s of the layout are left: whoever writes their fields from p on has written them all
pub record Left (layout out₀ s : List ℕ) (p : Put) (out : List ℕ) : Type 0 where
  pub low : p.known ≤ 56
  pub near : p.at + 2 * length s ≤ 256
  pub good : good_items (items_of s) ≡ true
  pub others : (q : Put) (o : List ℕ) → Wrote p (takes (items_of s)) out q o → Wrote start (takes (items_of layout)) out₀ q o

pub left_start : (layout out : List ℕ) → is_layout layout ≡ true → Left layout out layout start out
left_start layout out e =
    let (pairs, short, good) = is_layout_of layout e in
    record { low = omega arith; near = omega arith; good = good; others = λ q o w. w }

module _ {layout out₀ s : List ℕ} {p : Put} {out : List ℕ} (left : Left layout out₀ s p out) where
  module _ {x t : List ℕ} (first : FirstOf s x t) where
    pub field_good : (get_or x 0 0 ≤ 1) × (get_or x 1 0 ≤ 64) × (good_items (items_of t) ≡ true)
    field_good = good_of (item (get_or x 0 0) (get_or x 1 0)) _ (rw (items_cons first) at left.good)

    pub left_next : {q : Put} {o : List ℕ} → Wrote p (takes (item (get_or x 0 0) (get_or x 1 0) ∷ [])) out q o → Left layout out₀ t q o
    left_next {q} {o} w =
        let f = item (get_or x 0 0) (get_or x 1 0) in
        record {
          low = rw w.next (known-le _ p.known left.low);
          near = rw w.next (omega (arith, left.near, length_compiled p.known (f ∷ []), ap length first.joined, length-append x t, first.two));
          good = field_good.2;
          others = λ r u v. left.others r u (rw (items_cons first, takes-append (f ∷ []) (items_of t)) (wrote-append w v));
        }

  pub left_end : length s < 2 → Wrote start (takes (items_of layout)) out₀ p out
  unfolding takes
  left_end h = left.others p out (rw (items_none s h) (wrote_none p out))
