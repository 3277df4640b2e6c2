-- `put_parts` meets its contract: six stores, one behind the other. Assumes nothing.
use mathlib.Core.Path.{ap, ◌∙◌}
use mathlib.Core.List.{[], ◌∷◌}
use native.Mathlib.Omega.{arith}
use lib.ListN.{length-set}
use lib.Seq.{sets}
use Rattle.record.specs.declared.inner.Numbers.{Numbers}
use Rattle.strip.proofs.ListLaws.{six_stored}
use Rattle.strip.proofs.inner.put_parts.Goals as goal

pub bounds-numbers-at-2 : goal.bounds-numbers-at-2
bounds-numbers-at-2 c = simp length-set (omega arith)

pub bounds-numbers-at-3 : goal.bounds-numbers-at-3
bounds-numbers-at-3 c = simp length-set (omega arith)

pub bounds-numbers-at-4 : goal.bounds-numbers-at-4
bounds-numbers-at-4 c = simp length-set (omega arith)

pub bounds-numbers-at-5 : goal.bounds-numbers-at-5
bounds-numbers-at-5 c = simp length-set (omega arith)

pub bounds-numbers-at-6 : goal.bounds-numbers-at-6
bounds-numbers-at-6 c = simp length-set (omega arith)

pub shape_of-numbers : goal.shape_of-numbers
shape_of-numbers c = simp length-set

pub returns : goal.returns
returns c =
    let a = c.args in
    six_stored a.numbers.now a.at _ _ _ _ _ _
    ∙ ap (λ (six : Numbers). sets a.numbers.now a.at (six.star ∷ six.date ∷ six.limit ∷ six.magnitude ∷ six.error ∷ six.filter ∷ [])) c.numbers_in-six.ensures
