-- `strip_to_rows` meets its contract: a refusal or a bad tail changes nothing, and what is not refused has room (`rows_passed`). Assumes nothing.
use mathlib.Core.Path.{◌≡◌, sym, ap, ◌∙◌}
use native.Mathlib.Omega.{arith}
use mathlib.Core.Bool.{true, false}
use lib.ListN.{length}
use lib.Seq.{sets}
use Rattle.bits.proofs.RefusalLaws.{handed_on}
use Rattle.strip.specs.Strip.{tail_good}
use Rattle.rows.proofs.AnswerLaws.{rows_passed, rows_refused, rows_done, good_rows, good_length, no_rows}
use Rattle.rows.proofs.strip_to_rows.Goals as goal

pub returns-in_err-check_rows : goal.returns-in_err-check_rows
returns-in_err-check_rows c =
    let both = rows_refused c.args.strip.now c.args.out.now _ c.in_err-check_rows.ensures in
    rw (handed_on _ _ c.from_residual.ensures.1) (record { answer = both.0; memory = both.1 })

pub tail_good-requires : goal.tail_good-requires
tail_good-requires c = (rows_passed _ _ (sym c.in_ok-check_rows.ensures)).0

pub returns-then-not-tail_good : goal.returns-then-not-tail_good
returns-then-not-tail_good c =
    let s = c.args.strip.now in
    let f : tail_good s ≡ false = sym c.tail_good.ensures ∙ c.if-not-tail_good.true in
    let both = rows_done s c.args.out.now c.in_ok-check_rows.ensures (ap length (sym (no_rows s f))) (sym f) (ap (sets c.args.out.now 0) (sym (no_rows s f))) in
    record { answer = both.0; memory = both.1 }

pub overflow_mul-count : goal.overflow_mul-count
overflow_mul-count c = omega (arith, rows_passed _ _ (sym c.in_ok-check_rows.ensures))

pub put_rows-requires : goal.put_rows-requires
put_rows-requires c = let h = rows_passed _ _ (sym c.in_ok-check_rows.ensures) in (omega arith, h.0, h.2)

pub overflow_mul-result : goal.overflow_mul-result
overflow_mul-result c = omega (arith, rows_passed _ _ (sym c.in_ok-check_rows.ensures))

pub returns : goal.returns
returns c =
    let s = c.args.strip.now in
    let t : tail_good s ≡ true = sym c.tail_good.ensures ∙ c.if-not-tail_good.false in
    let both = rows_done s c.args.out.now c.in_ok-check_rows.ensures (sym (good_length s t)) (sym t) (c.put_rows.ensures ∙ ap (sets c.args.out.now 0) (sym (good_rows s t))) in
    record { answer = both.0; memory = both.1 }
