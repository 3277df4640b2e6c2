-- `rows_to_strip` meets its contract: a refusal or a cut row changes nothing, and rows that are not refused say records and have room (`pack_passed`). Assumes nothing.
use mathlib.Core.Path.{sym, ap, ◌∙◌}
use native.Mathlib.Omega.{arith}
use lib.ListN.{length}
use lib.Seq.{sets}
use Rattle.rows.specs.Answers.{Found}
use Rattle.rows.proofs.AnswerLaws.{handed, pack_passed, pack_refused, pack_done, whole_strip, whole_length, no_strip, rows_whole_lem, rows_cut}
use Rattle.rows.proofs.rows_to_strip.Goals as goal

pub returns-in_err-check_pack : goal.returns-in_err-check_pack
returns-in_err-check_pack c =
    let both = pack_refused c.args.rows.now c.args.out.now _ c.in_err-check_pack.ensures in
    rw (handed _ _ c.from_residual.ensures.1) (record { answer = both.0; memory = both.1 })

pub put_records-requires : goal.put_records-requires
put_records-requires c =
    let h = pack_passed _ _ (sym (ap (λ (x : Found). x.refusal) c.in_ok-check_pack.ensures)) in
    (omega arith, h.0, h.1, h.2, h.3)

pub returns-then-rows-ne0 : goal.returns-then-rows-ne0
returns-then-rows-ne0 c =
    let a = c.args in
    let f = rows_cut a.rows.now c.if-rows-ne0.true in
    let both = pack_done a.rows.now a.out.now (ap (λ (x : Found). x.refusal) c.in_ok-check_pack.ensures) (ap length (sym (no_strip a.rows.now f))) (sym f) (ap (sets a.out.now 0) (sym (no_strip a.rows.now f))) in
    record { answer = both.0; memory = both.1 }

pub returns : goal.returns
returns c =
    let a = c.args in
    let w = rows_whole_lem a.rows.now c.if-rows-ne0.false in
    let p = c.put_records.ensures in
    let both = pack_done a.rows.now a.out.now (ap (λ (x : Found). x.refusal) c.in_ok-check_pack.ensures) (p.answer ∙ sym (whole_length a.rows.now w)) (sym w) (p.memory ∙ ap (sets a.out.now 0) (sym (whole_strip a.rows.now w))) in
    record { answer = both.0; memory = both.1 }
