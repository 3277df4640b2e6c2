-- What it means that compiling is not refused.
use Prim.Native.Nat.{ℕ, ◌≤◌}
use mathlib.Core.Path.{◌≡◌}
use mathlib.Core.Bool.{true}
use mathlib.Core.List.{List}
use lib.ListN.{length}
use Rattle.bits.specs.Refusals.{longest, done}
use Rattle.bits.proofs.RefusalLaws.{passed, test_held, at_most}
use Rattle.layout.specs.Layout.{is_layout}
use Rattle.layout.specs.Answers.{plan_of, compile_refusal}

-- neither slice is too long, the bytes are a layout's, and there is room for its plan
pub compile-done : (s : List ℕ) (room : ℕ) → compile_refusal s room ≡ done → (length s ≤ longest) × (room ≤ longest) × (is_layout s ≡ true) × (length (plan_of s) ≤ room)
unfolding compile_refusal
compile-done s room e =
    let (short, (short-out, (good, fits))) = passed _ e in
    (at_most _ _ _ short, at_most _ _ _ short-out, test_held _ _ good, at_most _ _ _ fits)
