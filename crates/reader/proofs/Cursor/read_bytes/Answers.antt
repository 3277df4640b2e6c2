-- `read_bytes` meets its contract: a read that is not refused fills the buffer from the cursor's place, and a refused one touches nothing.
-- Assumes nothing.
use mathlib.Core.Path.{refl, sym, ◌∙◌}
use Rattle.bits.proofs.RefusalLaws.{handed_on, number_ne, if_refused, if_done_lem, answer_refused, answer_done}
use Rattle.reader.specs.Answers.{bytes_of, bytes_out, moved}
use Rattle.reader.proofs.AnswerLaws.{bytes_granted}
use Rattle.reader.proofs.Cursor.read_bytes.Goals as goal

pub returns-in_err-check_bytes : goal.returns-in_err-check_bytes
unfolding bytes_of bytes_out
returns-in_err-check_bytes c =
    let e = c.in_err-check_bytes.ensures in
    record {
      answer = rw (handed_on _ _ c.from_residual.ensures.1) (answer_refused e moved _ _ (number_ne _));
      memory = if_refused e _ _ (number_ne _);
    }

pub read_bytes-requires : goal.read_bytes-requires
read_bytes-requires c =
    let (h, n) = bytes_granted _ _ _ _ (sym c.in_ok-check_bytes.ensures) in
    (h.fits, n)

pub returns : goal.returns
unfolding bytes_of bytes_out
returns c =
    let e = c.in_ok-check_bytes.ensures in
    record {
      answer = answer_done e moved _ _ refl c.read_bytes.ensures.answer;
      memory = c.read_bytes.ensures.memory ∙ if_done_lem e _ _ refl;
    }
