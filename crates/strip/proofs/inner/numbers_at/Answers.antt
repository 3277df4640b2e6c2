-- `numbers_at` meets its contract: the numbers behind a place are those from it on. Assumes nothing.
use native.Mathlib.Nat.{add-zero}
use lib.Seq.{get_or-drop}
use Rattle.strip.proofs.inner.numbers_at.Goals as goal

pub returns : goal.returns
returns c = simp (get_or-drop, add-zero)
