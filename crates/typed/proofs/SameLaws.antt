-- When two typed values are the same: exactly if they are of one kind and have the same bits. A kind comes back from its number.
use mathlib.Core.Path.{◌≡◌, refl, sym, ap, ◌∙◌}
use mathlib.Core.Logic.{◌↔◌}
use mathlib.Core.Bool.{true}
use Prim.Native.Nat.{ℕ, zero, suc}
use borrow.Author.Tests.{eqb-true, eq-eqb}
use Rattle.bits.proofs.TestLaws.{both, both_true}
use denote.Enum.Bare.{sameb}
use lib.Dec.{eqb}
use Rattle.typed.specs.contracts.Kind.{the_type}
use Rattle.typed.specs.declared.Kind.{Kind}
use Rattle.typed.specs.declared.Kind.TheVariants as K
use Rattle.typed.specs.declared.Typed.{Typed}
use Rattle.typed.specs.Typed.{bits_of, kind_of, number_of, same_typed}

-- the kind of a number
unfoldable kind_at : ℕ → Kind
kind_at zero = K.Unsigned
kind_at (suc zero) = K.Signed
kind_at (suc (suc zero)) = K.Single
kind_at (suc (suc (suc n))) = K.Double

kind_back : (k : Kind) → kind_at (number_of k) ≡ k
unfolding kind_at number_of
kind_back K.Unsigned = refl
kind_back K.Signed = refl
kind_back K.Single = refl
kind_back K.Double = refl

-- kinds are compared by their cases, and so by their numbers
pub kinds_same : (a b : Kind) → sameb the_type a b ≡ eqb (number_of a) (number_of b)
unfolding number_of
kinds_same K.Unsigned K.Unsigned = refl
kinds_same K.Unsigned K.Signed = refl
kinds_same K.Unsigned K.Single = refl
kinds_same K.Unsigned K.Double = refl
kinds_same K.Signed K.Unsigned = refl
kinds_same K.Signed K.Signed = refl
kinds_same K.Signed K.Single = refl
kinds_same K.Signed K.Double = refl
kinds_same K.Single K.Unsigned = refl
kinds_same K.Single K.Signed = refl
kinds_same K.Single K.Single = refl
kinds_same K.Single K.Double = refl
kinds_same K.Double K.Unsigned = refl
kinds_same K.Double K.Signed = refl
kinds_same K.Double K.Single = refl
kinds_same K.Double K.Double = refl

pub same_exactly : (a b : Typed) → (same_typed a b ≡ true) ↔ ((kind_of a ≡ kind_of b) × (bits_of a ≡ bits_of b))
unfolding same_typed
same_exactly a b = (
  λ e.
      let (kinds, bits) = both e in
      (sym (kind_back (kind_of a)) ∙ ap kind_at (eqb-true _ _ kinds) ∙ kind_back (kind_of b), eqb-true _ _ bits),
  λ (k, e). both_true (eq-eqb _ _ (ap number_of k)) (eq-eqb _ _ e),
)
