-- `read_signed_bits` meets its contract: a read that is not refused is extended. Assumes nothing.
use Prim.Native.Nat.{ℕ}
use mathlib.Core.Path.{sym, ap, ◌∙◌}
use mir.Syntax.{w64}
use mir.ValLaws.{to_z-of_z}
use Rattle.bits.specs.Signed.{signed}
use Rattle.reader.specs.Answers.{ReadTold}
use Rattle.reader.proofs.AnswerLaws.{read_granted, answered_refusal, answered-lt, signed-zero, refused_as}
use Rattle.reader.proofs.Cursor.read_signed_bits.Goals as goal

pub returns-in_err-read : goal.returns-in_err-read
returns-in_err-read c = refused_as (signed c.args.bits) _ _ _ _ (signed-zero c.args.bits) c.from_residual.ensures.1 c.in_err-read.ensures

pub extend-requires : goal.extend-requires
extend-requires c =
    let a = c.args in
    let e = c.in_ok-read.ensures in
    let z = sym (answered_refusal a.order a.src.now a.self a.bits e) in
    ((read_granted a.order a.src.now a.self a.bits z).1, answered-lt a.order a.src.now a.self a.bits e)

pub returns : goal.returns
returns c =
    let a = c.args in
    let e = c.in_ok-read.ensures in
    let v = to_z-of_z w64 _ (record { sfits = c.extend.type_inv }) ∙ c.extend.ensures ∙ ap (λ (x : ReadTold ℕ). signed a.bits x.value) e in
    λ i. record { refusal = (e i).refusal; value = v i; cursor = (e i).cursor }
