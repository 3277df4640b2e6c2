-- `say_numbered` meets its contract: a number has at most ten digits, and the pieces stand behind each other (`put_behind`). Assumes
-- nothing.
use mathlib.Core.Path.{◌≡◌, sym}
use Prim.Native.Nat.{ℕ}
use mathlib.Core.List.{[], ◌∷◌, ◌++◌}
use lib.ListN.{length, replicate}
use lib.Seq.{length-take-le}
use native.Mathlib.Omega.{arith}
use Rattle.digits.specs.Digits.{newline}
use Rattle.print.specs.Print.{whole_of}
use Rattle.jobs.proofs.MessageLaws.{numbered, numbered_length, places_ten, put_behind, put_taken}
use Rattle.jobs.proofs.inner.say_numbered.Goals as goal

pub put_whole-end-requires : goal.put_whole-end-requires
put_whole-end-requires c = let few = places_ten c.args.number c.ranges.number.fits in omega arith

pub slice_bounds-message-end : goal.slice_bounds-message-end
slice_bounds-message-end c = let few = places_ten c.args.number c.ranges.number.fits in omega arith

pub slice_bounds-say-end : goal.slice_bounds-say-end
slice_bounds-say-end c =
    let few = places_ten c.args.number c.ranges.number.fits in
    sym (length-take-le c.put_whole-end.result c.put_whole-end.new.out (omega arith))

pub returns : goal.returns
returns c =
    let a = c.args in
    let few = places_ten a.number c.ranges.number.fits in
    let start = c.put-start.ensures in
    let size = numbered_length a.words.now a.number in
    let all = put_behind a.words.now (whole_of a.number ++ newline ∷ []) (replicate {A = ℕ} 35 0) start.memory start.answer c.put_whole-end.ensures.memory in
    let said = c.say.ensures in
    let end : c.put_whole-end.result ≡ length (numbered a.words.now a.number) = omega arith in
    rw (sym (put_taken (numbered a.words.now a.number) (replicate {A = ℕ} 35 0) all end (omega arith))) (record { answer = said.answer; memory = said.memory })
