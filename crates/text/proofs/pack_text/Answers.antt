-- `pack_text` meets its contract: a refusal changes nothing, and what is not refused is good and has room (`pack_passed`). Assumes nothing.
use mathlib.Core.Path.{refl, sym, ap, ◌∙◌}
use lib.ListN.{length}
use Rattle.text.specs.Answers.{Found, packed_told}
use Rattle.text.proofs.AnswerLaws.{told_on, pack_passed, pack_error, pack_done}
use Rattle.text.proofs.pack_text.Goals as goal

pub returns-in_err-check_pack : goal.returns-in_err-check_pack
returns-in_err-check_pack c =
    let (answer, memory) = pack_error c.args.text.now c.args.out.now _ c.in_err-check_pack.ensures in
    record { answer = ap packed_told (told_on _ _ c.from_residual.ensures.1) ∙ answer; memory = memory }

pub put_records-requires : goal.put_records-requires
put_records-requires c = pack_passed c.args.text.now (length c.args.out.now) (sym (ap (λ (x : Found). x.refusal) c.in_ok-check_pack.ensures))

pub returns : goal.returns
returns c =
    let put = c.put_records.ensures in
    let (answer, memory) = pack_done c.args.text.now c.args.out.now c.in_ok-check_pack.ensures refl put.answer put.memory in
    record { answer = answer; memory = memory }
