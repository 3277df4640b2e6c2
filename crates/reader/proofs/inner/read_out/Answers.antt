-- `read_out` meets its contract: an answer made anew, with the end that came, is the same (`read_end`). Assumes nothing.
use Prim.Native.Nat.{ℕ}
use mathlib.Core.Path.{◌≡◌, sym, ap, ◌∙◌}
use Rattle.bits.specs.Refusals.{done}
use Rattle.bits.proofs.RefusalLaws.{handed_on}
use Rattle.reader.specs.Cursor.{with_state}
use Rattle.reader.specs.Answers.{ReadTold, read_told}
use Rattle.reader.proofs.EndLaws.{read_end}
use Rattle.reader.proofs.inner.read_out.Goals as goal

pub returns-in_err-read : goal.returns-in_err-read
returns-in_err-read c = ap (read_told 0 c.args.c) (handed_on _ _ c.from_residual.ensures.1) ∙ c.in_err-read.ensures

pub returns : goal.returns
returns c =
    let a = c.args in
    let r = c.in_ok-read.read in
    let same = c.in_ok-read.ensures in
    let e = c.with_state.ensures ∙ ap (with_state a.c) c.state_in.ensures in
    let stays : a.c.end ≡ r.cursor.end = sym (ap (λ (x : ReadTold ℕ). x.cursor.end) same ∙ read_end a.order a.src.now a.c a.bits) in
    (λ i. record { refusal = done; value = r.value; cursor = e i })
    ∙ (λ i. record { refusal = done; value = r.value; cursor = record { offset = r.cursor.offset; lookahead = r.cursor.lookahead; register = r.cursor.register; end = stays i } })
    ∙ same
