-- Decoding a plan step by step: what the steps that are left will write gives what all of them write. Assumes nothing.
use Prim.Native.Nat.{ℕ, suc, ◌+◌, ◌-◌, ◌*◌, ◌<◌, ◌≤◌}
use mathlib.Core.Path.{◌≡◌, ap, ◌∙◌, subst}
use mathlib.Core.Bool.{true, false, cond}
use mathlib.Core.List.{List, [], ◌∷◌}
use native.Mathlib.Numerals.{add-one}
use native.Mathlib.Omega.{arith}
use lib.ListN.{length, drop, get_or}
use lib.Seq.{sets, length-sets, drop-cons, drop-length}
use Rattle.layout.specs.Layout.{item}
use Rattle.layout.specs.Bytes.{bytes_of}
use Rattle.layout.specs.Plan.{code, count, ends, decode}
use Rattle.layout.specs.Steps.{whole}
use Rattle.layout.proofs.StepLaws.{whole_take, whole_on}
use Rattle.layout.proofs.DecodeLaws.{decode_end, decode_on}
use Rattle.bits.proofs.TestLaws.{by_test}
use Rattle.plan.specs.Run.{fields_of}

-- the steps l are left, a bits of the next field are passed, and its bytes go to place at of out
pub record Left (plan out₀ l : List ℕ) (a at : ℕ) (out : List ℕ) : Type 0 where
  pub closed : whole a l ≡ true
  pub many : at + 2 * length (decode a l) ≡ 2 * length (fields_of plan)
  pub made : sets out at (bytes_of (decode a l)) ≡ sets out₀ 0 (bytes_of (fields_of plan))
  pub size : length out ≡ length out₀

module _ {plan out₀ l : List ℕ} {b a at : ℕ} {out : List ℕ} (left : Left plan out₀ (b ∷ l) a at out) where
  pub width : a + count b ≤ 64
  width =
      by_test (ends b) (λ e. (whole_take a b l e left.closed).0) (λ e. omega (arith, (whole_on a b l e left.closed).0))

  pub room : ends b ≡ true → at + 2 ≤ 2 * length (fields_of plan)
  room e =
      let d : length (decode a (b ∷ l)) ≡ suc (length (decode 0 l)) = ap length (decode_end a b l e) in
      omega (arith, left.many)

  ended : ends b ≡ true → Left plan out₀ l 0 (at + 2) (sets out at ((code b - 1) ∷ (a + count b) ∷ []))
  unfolding bytes_of
  ended e =
      let f : decode a (b ∷ l) ≡ item (code b - 1) (a + count b) ∷ decode 0 l = decode_end a b l e in
      let d : length (decode a (b ∷ l)) ≡ suc (length (decode 0 l)) = ap length f in
      let n : at + 2 ≡ suc (suc at) = omega arith in
      record {
        closed = (whole_take a b l e left.closed).1;
        many = omega (arith, left.many);
        made = rw n (rw f at left.made);
        size = length-sets out at ((code b - 1) ∷ (a + count b) ∷ []) ∙ left.size;
      }

  gone_on : ends b ≡ false → Left plan out₀ l (a + count b) at out
  gone_on e =
      let f : decode a (b ∷ l) ≡ decode (a + count b) l = decode_on a b l e in
      record {
        closed = (whole_on a b l e left.closed).1;
        many = rw f at left.many;
        made = rw f at left.made;
        size = left.size;
      }

  pub next :
      Left plan out₀ l (cond (ends b) 0 (a + count b)) (cond (ends b) (at + 2) at)
      (cond (ends b) (sets out at ((code b - 1) ∷ (a + count b) ∷ [])) out)
  next = by_test (ends b) (λ e. rw e (ended e)) (λ e. rw e (gone_on e))

-- at an index of the plan
pub at_index :
    {plan out₀ : List ℕ} {i a at : ℕ} {out : List ℕ} → i < length plan → Left plan out₀ (drop i plan) a at out →
    Left plan out₀ (get_or plan i 0 ∷ drop (i + 1) plan) a at out
at_index {plan} {out₀} {i} {a} {at} {out} h left =
    subst (λ (l : List ℕ). Left plan out₀ l a at out) (drop-cons plan i 0 h ∙ rw add-one) left

pub at_end :
    {plan out₀ : List ℕ} {i a at : ℕ} {out : List ℕ} → i ≡ length plan → Left plan out₀ (drop i plan) a at out →
    (at ≡ 2 * length (fields_of plan)) × (out ≡ sets out₀ 0 (bytes_of (fields_of plan)))
unfolding decode bytes_of
at_end {plan} {out₀} {i} {a} {at} {out} e left =
    let none : Left plan out₀ [] a at out = rw (e, drop-length) at left in
    (omega (arith, none.many), none.made)
