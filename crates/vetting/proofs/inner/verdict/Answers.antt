-- `verdict` meets its contract: the verdict on the records still to come, below the last one's date, is that on all (`next_verdict`).
-- Assumes nothing.
use Prim.Native.Nat.{ℕ, ◌+◌, ◌*◌}
use mathlib.Core.Path.{◌≡◌, sym, ap, ◌∙◌}
use mathlib.Core.Bool.{Bool, cond}
use native.Mathlib.Nat.{sub-zero}
use native.Mathlib.Omega.{arith}
use Rattle.record.specs.Record.{record_bits}
use Rattle.strip.specs.Strip.{records_from, tail_good}
use Rattle.vetting.specs.Verdicts.{Fine, BadTail, verdict_from}
use Rattle.vetting.proofs.VerdictLaws.{rule_ne, rule_in, date_in, last_verdict, told_broken, told_behind}
use Rattle.vetting.proofs.inner.verdict.Goals as goal

pub loop-i-init : goal.loop-i-init
loop-i-init c =
    let s = c.args.strip.now in
    ap (λ (n : ℕ). verdict_from 1 0 (records_from s 0 n) (tail_good s)) (sub-zero _)

pub whole_field-date-requires : goal.whole_field-date-requires
whole_field-date-requires c = (omega arith, omega arith)

pub short_field-rest-requires : goal.short_field-rest-requires
short_field-rest-requires c = (omega arith, omega arith, omega arith)

pub returns-in-Some : goal.returns-in-Some
returns-in-Some c =
    let l = c.loop-i in
    let s = c.args.strip.now in
    let found = c.in-Some.ensures ∙ rule_in s (record_bits * l.i) l.above c.whole_field-date.ensures c.short_field-rest.ensures in
    told_broken s _ l.i (record_bits * l.i) l.above (tail_good s) c.loop-i-test.true found (rule_ne _) ∙ l.invariant

pub loop-i-preserved : goal.loop-i-preserved
loop-i-preserved c =
    let l = c.loop-i in
    let s = c.args.strip.now in
    let found = c.in_default.ensures ∙ rule_in s (record_bits * l.i) l.above c.whole_field-date.ensures c.short_field-rest.ensures in
    let place : record_bits * (l.i + 1) ≡ record_bits * l.i + record_bits = omega arith in
    rw place (told_behind s _ l.i (record_bits * l.i) l.above (tail_good s) c.loop-i-test.true found (date_in s _ c.whole_field-date.ensures) ∙ l.invariant)

pub returns-then-tail_good : goal.returns-then-tail_good
returns-then-tail_good c =
    let l = c.loop-i in
    let s = c.args.strip.now in
    ap (λ (t : Bool). cond t Fine BadTail) (sym c.if-tail_good.true ∙ c.tail_good.ensures)
    ∙ sym (last_verdict s _ l.i (record_bits * l.i) l.above (tail_good s) c.loop-i-test.false) ∙ l.invariant

pub returns : goal.returns
returns c =
    let l = c.loop-i in
    let s = c.args.strip.now in
    ap (λ (t : Bool). cond t Fine BadTail) (sym c.if-tail_good.false ∙ c.tail_good.ensures)
    ∙ sym (last_verdict s _ l.i (record_bits * l.i) l.above (tail_good s) c.loop-i-test.false) ∙ l.invariant
