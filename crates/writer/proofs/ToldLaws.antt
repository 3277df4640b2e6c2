-- What is told of a write is told of no other outcome.
use mathlib.Core.Path.{◌≡◌, refl, ap}
use Rattle.std.specs.Prelude.{Result, Ok, Err}
use Rattle.bits.specs.declared.Refusal.{Refusal}
use Rattle.bits.proofs.RefusalLaws.{once}
use Rattle.writer.specs.declared.Writer.{Writer}
use Rattle.writer.specs.Answers.{Wrote, wrote_told}

pub wrote_told_once : (w : Writer) (a b : Result Writer Refusal) → wrote_told w a ≡ wrote_told w b → a ≡ b
wrote_told_once w = once (wrote_told w) (λ (t : Wrote). t.refusal) (elim [ Ok x ↦ refl | Err e ↦ refl ]) (λ x y p. ap (λ (t : Wrote). t.writer) p)
