-- `put_numbers` meets its contract: what is still to be stored from here is what was to be stored at first. Assumes nothing.
use mathlib.Core.Path.{◌≡◌, refl, ap, ◌∙◌}
use mathlib.Core.List.{List}
use Prim.Native.Nat.{ℕ, ◌+◌, ◌-◌, ◌*◌}
use native.Mathlib.Nat.{sub-zero}
use native.Mathlib.Omega.{arith}
use lib.ListN.{length}
use lib.Seq.{sets, length-sets}
use Rattle.record.specs.Record.{record_bits}
use Rattle.strip.specs.Bits.{record_at}
use Rattle.strip.specs.Strip.{numbers_of, all_numbers, records_from}
use Rattle.strip.proofs.ListLaws.{next_stored, none_stored}
use Rattle.strip.proofs.inner.put_numbers.Goals as goal

pub loop-i-init : goal.loop-i-init
loop-i-init c =
    let a = c.args in
    (refl, ap (λ (k : ℕ). sets a.numbers.now 0 (all_numbers (records_from a.src.now 0 k))) (sub-zero a.count))

pub put_numbers_at-requires : goal.put_numbers_at-requires
put_numbers_at-requires c = let h = c.loop-i.invariant.0 in (omega arith, omega arith, omega arith)

pub loop-i-preserved : goal.loop-i-preserved
loop-i-preserved c =
    let a = c.args in
    let l = c.loop-i in
    let s = a.src.now in
    let at : 6 * (l.i + 1) ≡ 6 * l.i + 6 = omega arith in
    let place : record_bits * (l.i + 1) ≡ record_bits * l.i + record_bits = omega arith in
    rw (at, place) (
      ap length c.put_numbers_at.ensures ∙ length-sets l.numbers (6 * l.i) (numbers_of (record_at s (record_bits * l.i))) ∙ l.invariant.0,
      ap (λ (t : List ℕ). sets t (6 * l.i + 6) (all_numbers (records_from s (record_bits * l.i + record_bits) (a.count - (l.i + 1))))) c.put_numbers_at.ensures
          ∙ next_stored s l.numbers (record_bits * l.i) (6 * l.i) a.count l.i c.loop-i-test.true ∙ l.invariant.1,
    )

pub shape_of-numbers : goal.shape_of-numbers
shape_of-numbers c = c.loop-i.invariant.0

pub returns : goal.returns
returns c =
    let a = c.args in
    let l = c.loop-i in
    none_stored a.src.now l.numbers (record_bits * l.i) (6 * l.i) a.count l.i c.loop-i-test.false ∙ l.invariant.1
