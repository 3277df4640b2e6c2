-- The theorems of layouts and plans: bytes pass the check exactly if some layout compiles to them, only one does, and decoding finds it.
use Prim.Native.Nat.{ℕ, ◌%◌, ◌≤◌}
use mathlib.Core.Path.{◌≡◌, refl, sym, ap, ◌∙◌, subst}
use mathlib.Core.Logic.{◌↔◌}
use mathlib.Core.Bool.{true}
use mathlib.Core.List.{List, [], ◌∷◌}
use native.Mathlib.Omega.{arith}
use lib.ListN.{length, take}
use lib.Dec.{eqb}
use borrow.Author.Tests.{le-leb, le-ltb, eq-eqb}
use Rattle.bits.specs.Refusals.{longest, done, bad_plan, or_else, first_refusal}
use Rattle.bits.proofs.RefusalLaws.{all_pass}
use Rattle.layout.specs.Layout.{Item, items_of, good_items, are_layout, is_layout}
use Rattle.layout.specs.Bytes.{bytes_of}
use Rattle.layout.specs.Plan.{takes, compile, decode}
use Rattle.layout.specs.Check.{is_plan}
use Rattle.layout.specs.Answers.{plan_of, compile_of, compile_out, check_of}
use Rattle.bits.proofs.StoreLaws.{front_take}
use Rattle.layout.proofs.AnswerLaws.{compile-done}
use Rattle.layout.proofs.LayoutLaws.{layout_of, length_bytes}
use Rattle.layout.proofs.DecodeLaws.{decode-refilled, decode-takes}
use Rattle.layout.proofs.CompileLaws.{passes_from, length_compiled}
use Rattle.layout.proofs.PassLaws.{passes_compiled}
use Rattle.bits.proofs.TestLaws.{both, both_true, by_test}

-- the fields of a layout's bytes are a layout
pub items_layout : (s : List ℕ) → is_layout s ≡ true → are_layout (items_of s) ≡ true
unfolding is_layout
items_layout s e = (both {a = eqb (length s % 2) 0} e).1

-- what a layout compiles to is a plan
pub compiled_passes : (fs : List Item) → are_layout fs ≡ true → is_plan (compile fs) ≡ true
compiled_passes fs e = let (few, good) = layout_of fs e in passes_from fs 0 64 good few (omega arith)

-- a plan is decoded to the layout that it was compiled from
pub decode_compiled : (fs : List Item) → good_items fs ≡ true → decode 0 (compile fs) ≡ fs
decode_compiled fs e = decode-refilled 0 0 (takes fs) ∙ decode-takes fs e

-- two layouts with the same plan are equal
pub compiled_same : (fs gs : List Item) → good_items fs ≡ true → good_items gs ≡ true → compile fs ≡ compile gs → fs ≡ gs
compiled_same fs gs e f same = sym (decode_compiled fs e) ∙ ap (decode 0) same ∙ decode_compiled gs f

-- a plan is decoded to a layout, and that layout compiles to it
pub plan_layout : (p : List ℕ) → is_plan p ≡ true → (are_layout (decode 0 p) ≡ true) × (compile (decode 0 p) ≡ p)
plan_layout p e = let (few, good, same) = passes_compiled 64 p e in (both_true (le-leb _ _ few) good, same)

-- a plan has at most 256 bytes
pub plan_length : (p : List ℕ) → is_plan p ≡ true → length p ≤ 256
plan_length p e =
    let (few, good, same) = passes_compiled 64 p e in
    omega (arith, length_compiled 0 (decode 0 p), ap length same)

-- the check of plans accepts a plan
pub plan_accepted : (p : List ℕ) → is_plan p ≡ true → check_of p ≡ done
unfolding check_of
plan_accepted p plan =
    let short : length p ≤ longest = omega (arith, plan_length p plan) in
    all_pass _ (rw (le-ltb longest (length p) short), rw plan)

-- and of bytes within the limit it refuses, by 6, exactly those that no layout compiles to
pub check_exactly : (p : List ℕ) → length p ≤ longest
    → (check_of p ≡ bad_plan) ↔ ((fs : List Item) → are_layout fs ≡ true → compile fs ≡ p → ⊥)
unfolding check_of first_refusal or_else
check_exactly p short = (
  λ e fs layout same.
      let plan : is_plan p ≡ true = subst (λ (q : List ℕ). is_plan q ≡ true) same (compiled_passes fs layout) in
      omega (arith, e, plan_accepted p plan),
  λ none.
      by_test (is_plan p)
      (λ t. absurd (none (decode 0 p) (plan_layout p t).0 (plan_layout p t).1))
      (λ t. rw (le-ltb longest (length p) short, t)),
)

-- what `compile` leaves in its output, as many bytes as it answers, is the plan of the layout's fields
pub compiled_left : (l m : List ℕ) → (compile_of l (length m)).refusal ≡ done →
    let p = take (compile_of l (length m)).length (compile_out l m) in
    (p ≡ compile (items_of l)) × (are_layout (items_of l) ≡ true)
unfolding compile_of compile_out
compiled_left l m z =
    let (_, _, layout, room) = compile-done l (length m) z in
    (rw z (front_take (plan_of l) m room), items_layout l layout)

-- fields are read back from their bytes
pub bytes_items : (fs : List Item) → items_of (bytes_of fs) ≡ fs
unfolding items_of bytes_of
bytes_items [] = refl
bytes_items (f ∷ fs) = ap (λ (l : List Item). f ∷ l) (bytes_items fs)

-- and bytes of an even number are those of their fields
pub items_bytes : (s : List ℕ) → length s % 2 ≡ 0 → bytes_of (items_of s) ≡ s
unfolding items_of bytes_of
items_bytes [] h = refl
items_bytes (k ∷ []) h = absurd (omega arith)
items_bytes (k ∷ w ∷ s) h = ap (λ (l : List ℕ). k ∷ w ∷ l) (items_bytes s (omega arith))

-- the bytes of fields are a layout's exactly if the fields are a layout
pub bytes_layout : (fs : List Item) → is_layout (bytes_of fs) ≡ are_layout fs
unfolding is_layout
bytes_layout fs =
    let even : length (bytes_of fs) % 2 ≡ 0 = omega (arith, length_bytes fs) in
    rw (eq-eqb (length (bytes_of fs) % 2) 0 even, bytes_items fs)
