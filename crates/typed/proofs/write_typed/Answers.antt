-- `write_typed` meets its contract: the value's case decides, and each case is the write beneath. Assumes nothing.
use mir.Syntax.{w64}
use mir.ValLaws.{to_z-of_z}
use Rattle.typed.specs.Answers.{write_of, write_out}
use Rattle.std.proofs.Common.{rules}
use Rattle.typed.proofs.write_typed.Goals as goal

pub returns-in-Unsigned : goal.returns-in-Unsigned
unfolding write_of write_out
returns-in-Unsigned c =
    rw c.in-Unsigned.is (record {
      answer = c.write_bits.ensures.answer;
      memory = c.write_bits.ensures.memory;
    })

pub returns-in-Signed : goal.returns-in-Signed
unfolding write_of write_out
returns-in-Signed c =
    rw c.in-Signed.is
    (record {
      answer = rw (to_z-of_z w64 c.in-Signed.z (record { sfits = search rules })) at c.write_signed_bits.ensures.answer;
      memory = rw (to_z-of_z w64 c.in-Signed.z (record { sfits = search rules })) at c.write_signed_bits.ensures.memory;
    })

pub returns-in-Single : goal.returns-in-Single
unfolding write_of write_out
returns-in-Single c =
    rw c.in-Single.is (record {
      answer = c.write_f32.ensures.answer;
      memory = c.write_f32.ensures.memory;
    })

pub returns-in-Double : goal.returns-in-Double
unfolding write_of write_out
returns-in-Double c =
    rw c.in-Double.is (record {
      answer = c.write_f64.ensures.answer;
      memory = c.write_f64.ensures.memory;
    })
