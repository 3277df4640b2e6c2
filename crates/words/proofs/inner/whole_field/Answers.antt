-- `whole_field` meets its contract: the field lies within the loaded word (`in_window`). Assumes nothing.
use mathlib.Core.Path.{ap, ◌∙◌}
use Prim.Native.Nat.{ℕ, ◌-◌, ◌%◌}
use Rattle.bits.specs.Word.{first, skipped}
use Rattle.words.proofs.EightLaws.{in_window}
use Rattle.words.proofs.inner.whole_field.Goals as goal

pub returns : goal.returns
returns c =
    let a = c.args in
    c.part.ensures
    ∙ ap (λ (v : ℕ). first a.order a.width (64 - a.width) (skipped a.order (a.place % 8) v)) c.load_whole.ensures
    ∙ in_window a.order a.src.now a.place a.width c.requires.0
