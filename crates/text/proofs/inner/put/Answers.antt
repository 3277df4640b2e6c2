-- `put` meets its contract: what is copied over a part of the output stands there, and the rest is as it was (`sets-eq`). Assumes nothing.
use Prim.Native.Nat.{ℕ, ◌+◌, ◌≤◌}
use mathlib.Core.Path.{◌≡◌, sym, ap, ap₂, ◌∙◌}
use mathlib.Core.List.{List, ◌++◌, append_assoc}
use lib.ListN.{length, take, drop}
use lib.Seq.{sets, sets-eq, drop-drop}
use native.Mathlib.Omega.{arith}
use Rattle.text.proofs.inner.put.Goals as goal

stored : (x l : List ℕ) (at : ℕ) → at + length x ≤ length l → {y : List ℕ} {k : ℕ} → y ≡ x → k ≡ length x
    → take at l ++ (y ++ drop k (drop at l)) ≡ sets l at x
stored x l at h e z =
    ap₂ (λ (y : List ℕ) (k : ℕ). take at l ++ (y ++ drop k (drop at l))) e z
    ∙ ap (λ (r : List ℕ). take at l ++ (x ++ r)) (drop-drop (length x) at l)
    ∙ sym (sets-eq x l at h ∙ append_assoc (take at l) x _)

pub returns-clause-memory : goal.returns-clause-memory
returns-clause-memory c = stored c.args.some.now c.args.out.now c.args.at c.requires c.copy_from_slice.ensures.after (omega arith)
