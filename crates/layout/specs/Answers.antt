-- What compiling and checking answer, on every input.
use Rattle.std.specs.Prelude.{ℕ, Result, Ok, Err, not, List, [], ◌∷◌, length, ltb}
use Rattle.std.proofs.lemmas.List.Edits.{sets}
use Rattle.bits.specs.Refusals.{number, longest, done, too_long, bad_layout, bad_plan, no_room, ◌⟶◌, first_refusal, if_done, LengthTold}
use Rattle.bits.specs.declared.Refusal.{Refusal}
use Rattle.layout.specs.Layout.{items_of, is_layout}
use Rattle.layout.specs.Plan.{compile}
use Rattle.layout.specs.Check.{is_plan}

abbrev pub compiled : ℕ → ℕ → LengthTold
compiled e n = record { refusal = e; length = n }

-- the plan of a layout's bytes
abbrev pub plan_of : List ℕ → List ℕ
plan_of s = compile (items_of s)

-- 1 for a layout or an output past the limit, 5 for bytes that are no layout, 8 for no room
unfoldable pub compile_refusal : List ℕ → ℕ → ℕ
compile_refusal s room =
    first_refusal
    (ltb longest (length s) ⟶ too_long
    ∷ ltb longest room ⟶ too_long
    ∷ not (is_layout s) ⟶ bad_layout
    ∷ ltb room (length (plan_of s)) ⟶ no_room
    ∷ [])

-- the refusal number, and the plan's length or 0
unfoldable pub compile_of : List ℕ → ℕ → LengthTold
compile_of s room =
    record {
      refusal = compile_refusal s room;
      length = if_done (compile_refusal s room) (length (plan_of s)) 0;
    }

-- the output: the plan at its front, the rest untouched; all of it untouched with a refusal
unfoldable pub compile_out : List ℕ → List ℕ → List ℕ
compile_out s out = if_done (compile_refusal s (length out)) (sets out 0 (plan_of s)) out

-- 1 for a plan past the limit, 6 for bytes that are no plan
unfoldable pub check_of : List ℕ → ℕ
check_of p = first_refusal (ltb longest (length p) ⟶ too_long ∷ not (is_plan p) ⟶ bad_plan ∷ [])
