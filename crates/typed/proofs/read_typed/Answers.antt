-- `read_typed` meets its contract: each kind is a read of its width, and says what the bits mean (`told_done`). Assumes nothing.
use mathlib.Core.Path.{ap, ◌∙◌}
use mir.Syntax.{w64}
use mir.ValLaws.{to_z-of_z}
use Rattle.std.proofs.Common.{rules}
use Rattle.typed.specs.declared.Kind.TheVariants as K
use Rattle.typed.specs.declared.Typed.TheVariants as T
use Rattle.typed.specs.Typed.{width_of, meaning}
use Rattle.typed.proofs.ReadLaws.{told_refused, told_done}
use Rattle.typed.proofs.read_typed.Goals as goal

pub returns-in_err-read-in-Unsigned : goal.returns-in_err-read-in-Unsigned
unfolding width_of
returns-in_err-read-in-Unsigned c =
    let a = c.args in
    let e = c.in_err-read-in-Unsigned.ensures in
    rw c.in-Unsigned.is (told_refused a.order a.src.now a.cursor K.Unsigned a.width _ _ c.from_residual.ensures.1 (λ i. (e i).refusal) (λ i. (e i).cursor))

pub returns-in_err-read-in-Signed : goal.returns-in_err-read-in-Signed
unfolding width_of
returns-in_err-read-in-Signed c =
    let a = c.args in
    let e = c.in_err-read-in-Signed.ensures in
    rw c.in-Signed.is (told_refused a.order a.src.now a.cursor K.Signed a.width _ _ c.from_residual-in_err-read-in-Signed.ensures.1 (λ i. (e i).refusal) (λ i. (e i).cursor))

pub returns-in_err-read-in-Single : goal.returns-in_err-read-in-Single
unfolding width_of
returns-in_err-read-in-Single c =
    let a = c.args in
    let e = c.in_err-read-in-Single.ensures in
    rw c.in-Single.is (told_refused a.order a.src.now a.cursor K.Single a.width _ _ c.from_residual-in_err-read-in-Single.ensures.1 (λ i. (e i).refusal) (λ i. (e i).cursor))

pub returns-in_err-read-in-Double : goal.returns-in_err-read-in-Double
unfolding width_of
returns-in_err-read-in-Double c =
    let a = c.args in
    let e = c.in_err-read-in-Double.ensures in
    rw c.in-Double.is (told_refused a.order a.src.now a.cursor K.Double a.width _ _ c.from_residual-in_err-read-in-Double.ensures.1 (λ i. (e i).refusal) (λ i. (e i).cursor))

pub returns-in_ok-read-in-Unsigned : goal.returns-in_ok-read-in-Unsigned
unfolding width_of meaning
returns-in_ok-read-in-Unsigned c =
    let a = c.args in
    let e = c.in_ok-read-in-Unsigned.ensures in
    rw c.in-Unsigned.is (told_done a.order a.src.now a.cursor K.Unsigned a.width _ _ (λ i. (e i).refusal) (λ i. T.Unsigned (e i).value) (λ i. (e i).cursor))

pub returns-in_ok-read-in-Signed : goal.returns-in_ok-read-in-Signed
unfolding width_of meaning
returns-in_ok-read-in-Signed c =
    let a = c.args in
    let e = c.in_ok-read-in-Signed.ensures in
    rw c.in-Signed.is (told_done a.order a.src.now a.cursor K.Signed a.width _ _ (λ i. (e i).refusal) (ap T.Signed (to_z-of_z w64 _ (record { sfits = search rules })) ∙ (λ i. T.Signed (e i).value)) (λ i. (e i).cursor))

pub returns-in_ok-read-in-Single : goal.returns-in_ok-read-in-Single
unfolding width_of meaning
returns-in_ok-read-in-Single c =
    let a = c.args in
    let e = c.in_ok-read-in-Single.ensures in
    rw c.in-Single.is (told_done a.order a.src.now a.cursor K.Single a.width _ _ (λ i. (e i).refusal) (λ i. T.Single (e i).value) (λ i. (e i).cursor))

pub returns-in_ok-read-in-Double : goal.returns-in_ok-read-in-Double
unfolding width_of meaning
returns-in_ok-read-in-Double c =
    let a = c.args in
    let e = c.in_ok-read-in-Double.ensures in
    rw c.in-Double.is (told_done a.order a.src.now a.cursor K.Double a.width _ _ (λ i. (e i).refusal) (λ i. T.Double (e i).value) (λ i. (e i).cursor))
