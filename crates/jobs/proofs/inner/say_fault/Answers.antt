-- `say_fault` meets its contract: a number has at most ten digits, and the pieces stand behind each other (`put_behind`). Assumes nothing.
use Prim.Native.Nat.{ℕ, ◌+◌}
use mathlib.Core.Path.{◌≡◌, sym, ap, ◌∙◌}
use mathlib.Core.List.{List, [], ◌∷◌, ◌++◌}
use lib.ListN.{length, replicate, length-append}
use lib.Seq.{length-take-le}
use native.Mathlib.Omega.{arith}
use Rattle.print.specs.Print.{places, whole_of}
use Rattle.print.proofs.StoreLaws.{part-size}
use Rattle.jobs.proofs.MessageLaws.{record_bytes, rule_bytes, fault_is, numbered, places_ten, put_behind, put_taken}
use Rattle.jobs.proofs.inner.say_fault.Goals as goal

pub put_whole-middle-requires : goal.put_whole-middle-requires
put_whole-middle-requires c = let few = places_ten c.args.number c.ranges.number.fits in omega arith

pub put-end-requires : goal.put-end-requires
put-end-requires c = let few = places_ten c.args.number c.ranges.number.fits in omega arith

pub slice_bounds-words-end : goal.slice_bounds-words-end
slice_bounds-words-end c = let few = places_ten c.args.number c.ranges.number.fits in omega arith

pub slice_bounds-say_numbered-end : goal.slice_bounds-say_numbered-end
slice_bounds-say_numbered-end c =
    let few = places_ten c.args.number c.ranges.number.fits in
    sym (length-take-le c.put-end.result c.put-end.new.out (omega arith))

pub returns : goal.returns
returns c =
    let n = c.args.number in
    let few = places_ten n c.ranges.number.fits in
    let front = record_bytes ++ (whole_of n ++ 32 ∷ []) in
    let part = part-size (places n) n 32 in
    let size = length-append record_bytes (whole_of n ++ 32 ∷ []) in
    let whole = length-append front rule_bytes in
    let blank : List ℕ = replicate 24 0 in
    let middle = put_behind record_bytes (whole_of n ++ 32 ∷ []) blank c.put-start.ensures.memory c.put-start.ensures.answer c.put_whole-middle.ensures.memory in
    let at : c.put_whole-middle.result ≡ 0 + length front = omega arith in
    let all = put_behind front rule_bytes blank middle at c.put-end.ensures.memory in
    let end : c.put-end.result ≡ length (front ++ rule_bytes) = omega arith in
    let words = put_taken (front ++ rule_bytes) blank all end (omega arith) in
    let said = c.say_numbered.ensures in
    rw (fault_is n c.args.rule ∙ ap (λ (w : List ℕ). numbered w c.args.rule) (sym words)) (record { answer = said.answer; memory = said.memory })
