-- `row_at` meets its contract: the columns are parts of the three words (`three_words`), and those of a row that says a record are no negative numbers. Assumes nothing.
use mathlib.Core.Path.{◌≡◌, sym, ap, ◌∙◌}
use Prim.Native.Nat.{ℕ, ◌*◌, ◌/◌, ◌%◌, ◌^◌}
use native.Mathlib.Nat.{mod-lt}
use lib.Pow.{pow_pos}
use mir.Syntax.{w16, w64}
use mir.Val.{SFits, to_z, of_z}
use mathlib.Core.Bool.{cond}
use lib.Dec.{eqb}
use Rattle.bits.specs.Signed.{signed}
use Rattle.sign.proofs.SignedLaws.{narrowed}
use Rattle.rows.specs.Row.{columns_at, record_said, letter_t}
use Rattle.rows.proofs.PartLaws.{three_words, Words, plain_columns}
use Rattle.rows.proofs.inner.row_at.Goals as goal
use Rattle.rows.proofs.inner.row_at.Goals.{After-extend}

-- the magnitude as the machine's number of 16 bits
sixteen :
    (c : After-extend) →
    let z = to_z w64 (of_z w64 c.extend.result) in SFits w16 z × (to_z w16 (of_z w16 z) ≡ signed 16 (c.load_whole-low.result / 2 ^ 24 % 2 ^ 16))
sixteen c = narrowed w16 (c.load_whole-low.result / 2 ^ 24 % 2 ^ 16) (mod-lt _ (pow_pos 16)) (record { sfits = c.extend.type_inv }) c.extend.ensures

pub overflow_cast-result-2 : goal.overflow_cast-result-2
overflow_cast-result-2 c = (sixteen c).0

-- what the three words have
words : (c : After-extend) → let a = c.args in Words a.src.now a.at c.load_whole-high.result c.load_whole-date.result c.load_whole-low.result
words c =
    let a = c.args in
    three_words a.src.now a.at c.load_whole-high.ensures c.load_whole-date.ensures c.load_whole-low.ensures

pub returns : goal.returns
unfolding record_said columns_at
returns c =
    let third = c in
    let s = third in
    let a = s.args in
    let w = words third in
    let p = plain_columns a.src.now (8 * a.at) s.requires.2 in
    let limit = c.limit_of.ensures ∙ ap (λ (n : ℕ). cond (eqb n letter_t) 1 0) w.letter in
    let magnitude = (sixteen c).1 ∙ ap (signed 16) w.magnitude in
    λ i. record { star = (w.star ∙ sym p.0) i; date = (w.date' ∙ sym p.1) i; limit = limit i; magnitude = magnitude i; error = (w.error ∙ sym p.2) i; filter = w.filter i }
