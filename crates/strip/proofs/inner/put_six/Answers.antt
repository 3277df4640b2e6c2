-- `put_six` meets its contract: 56 bits and then 33 are 89 at once (`put-put`), which are the record's (`bits_in_two`). Assumes nothing.
use mathlib.Core.Path.{ap, ap₂, ◌∙◌}
use mathlib.Core.List.{List}
use Prim.Native.Nat.{ℕ, ◌+◌, ◌*◌, ◌/◌, ◌%◌, ◌^◌, ◌<◌, ◌≤◌}
use native.Mathlib.Nat.{mod-lt}
use native.Mathlib.Omega.{arith}
use lib.IntN.{ℤ}
use lib.Pow.{pow_pos}
use lib.ListN.{length}
use Rattle.bits.specs.declared.Order.TheVariants.{Big}
use Rattle.packing.specs.declared.State.{State}
use Rattle.packing.specs.Packing.{bits_written, put, put_out}
use Rattle.packing.proofs.PutLaws.{put-put, put-put_out, put_next}
use Rattle.record.specs.Record.{named, record_bits}
use Rattle.strip.specs.Bits.{bits_of}
use Rattle.strip.proofs.FitLaws.{with_magnitude, low_16}
use Rattle.strip.proofs.BitsLaws.{bits_in_two}
use Rattle.strip.proofs.inner.put_six.Goals as goal

-- the first 56 bits fit
high_lt : {star date : ℕ} → star < 2 ^ 20 → date < 2 ^ 38 → star * 2 ^ 36 + date / 4 < 2 ^ 56
high_lt s d = omega arith

pub put_bits-requires : goal.put_bits-requires
put_bits-requires c =
    let one = c.put_bits-middle in
    let a = c.args in
    let f = c.requires.2 in
    let room : bits_written a.c + (56 + 33) ≤ 8 * length a.out.now = omega arith in
    let next = put_next Big a.out.now a.c c.requires.0 56 33 (high_lt f.0 f.1) room one.new.out one.result one.ensures.memory one.ensures.answer in
    (next.0, omega arith, omega arith, next.1)

pub returns : goal.returns
returns c =
    let two = c.put_bits in
    let one = c.put_bits-middle in
    let a = c.args in
    let six = a.six in
    let f = c.requires.2 in
    let high_fits = high_lt f.0 f.1 in
    let low : ℕ = six.date % 4 * 2 ^ 31 + six.limit * 2 ^ 30 + six.magnitude % 2 ^ 16 * 2 ^ 14 + six.error * 16 + six.filter in
    let low_fits : low < 2 ^ 33 = omega arith in
    let bits = bits_in_two six.star six.date six.limit (six.magnitude % 2 ^ 16) six.error six.filter (mod-lt _ (pow_pos 16))
    ∙ ap (λ (z : ℤ). bits_of (with_magnitude (named six) z)) (low_16 six.magnitude (omega arith) f.3) in
    record {
      answer = two.ensures.answer ∙ ap (λ (d : State). put Big d 33 low) one.ensures.answer ∙ put-put Big a.c c.requires.0.small 56 33 high_fits low_fits ∙ ap (put Big a.c record_bits) bits;
      memory = two.ensures.memory ∙ ap₂ (λ (t : List ℕ) (d : State). put_out Big t d 33 low) one.ensures.memory one.ensures.answer
          ∙ put-put_out Big a.c c.requires.0.small 56 33 high_fits low_fits a.out.now ∙ ap (put_out Big a.out.now a.c record_bits) bits;
    }
