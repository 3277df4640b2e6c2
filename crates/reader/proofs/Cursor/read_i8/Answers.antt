-- `read_i8` meets its contract: no bits set are 0 as a signed number. Assumes nothing.
use mathlib.Core.Path.{sym, ◌∙◌}
use Rattle.reader.specs.Answers.{read_told}
use Rattle.reader.proofs.AnswerLaws.{signed-zero}
use Rattle.reader.proofs.Cursor.read_i8.Goals as goal

pub returns : goal.returns
returns c = (λ i. read_told (sym (signed-zero 8) i) c.args.self c.read.result) ∙ c.read.ensures
