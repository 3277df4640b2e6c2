-- What a job answers, and what the output holds afterwards, whatever the job's answer is.
use Rattle.std.specs.Prelude.{ℕ, List, [], ◌∷◌, length, ltb, Result, Ok, Err}
use Rattle.std.proofs.lemmas.List.Edits.{sets}
use Rattle.bits.specs.declared.Refusal.{Refusal}
use Rattle.bits.specs.Refusals.{number, longest, done, too_long, no_room, ◌⟶◌, first_refusal, if_done, LengthTold}

-- 1 for an output past the limit, 8 for one shorter than the answer
unfoldable pub answer_refusal : List ℕ → ℕ → ℕ
answer_refusal answer len = first_refusal (ltb longest len ⟶ too_long ∷ ltb len (length answer) ⟶ no_room ∷ [])

-- the refusal and the answer's length
unfoldable pub answered_of : List ℕ → ℕ → LengthTold
answered_of answer len = record { refusal = answer_refusal answer len; length = if_done (answer_refusal answer len) (length answer) 0 }

-- the answer at the front of the output, the rest untouched
unfoldable pub answered_out : List ℕ → List ℕ → List ℕ
answered_out answer out = if_done (answer_refusal answer (length out)) (sets out 0 answer) out
