-- `==` of typed values: of the kinds, and then of the bits. Assumes nothing.
use mathlib.Core.Path.{◌≡◌, sym, ◌∙◌}
use mathlib.Core.Bool.{false}
use lib.Dec.{eqb}
use Rattle.typed.specs.Typed.{kind_of, number_of}
use Rattle.typed.proofs.SameLaws.{kinds_same}
use Rattle.typed.proofs.TypedPartialEq.eq.Goals as goal

pub returns-else-eq : goal.returns-else-eq
returns-else-eq c =
    let a = kind_of c.args.self.now in
    let b = kind_of c.args.other.now in
    let e : eqb (number_of a) (number_of b) ≡ false =
    sym (kinds_same a b) ∙ sym (rw (c.kind.ensures, c.kind-2.ensures) at c.eq.ensures) ∙ c.if-eq.false in
    rw e c.if-eq.false
