-- `put_field` meets its contract: its takes are those of the field, and two pieces are written as one. Assumes nothing.
use native.Mathlib.Omega.{arith}
use mathlib.Core.List.{[], ◌∷◌}
use Rattle.layout.specs.Plan.{wide}
use Rattle.layout.specs.Known.{known}
use Rattle.layout.proofs.SeamLaws.{after-le}
use Rattle.layout.proofs.CompileLaws.{length-refilled}
use Rattle.layout.proofs.Puts.{Wrote, wrote-append, takes_narrow, takes_broad}
use Rattle.layout.proofs.inner.compiler.put_field.Goals as goal

pub returns-then-width-le56 : goal.returns-then-width-le56
unfolding known
returns-then-width-le56 c =
    let a = c.args in
    rw (takes_narrow a.kind a.width c.if-width-le56.true) (record {
      answer = c.put_take.ensures.answer;
      memory = c.put_take.ensures.memory;
    })

pub put_take-requires-2 : goal.put_take-requires-2
put_take-requires-2 c =
    let a = c in
    rw c.put_take-q.ensures.answer
    (after-le a.args.p.known wide a.requires.0, omega arith, omega (arith, length-refilled a.args.p.known (wide ∷ []), a.requires.3))

pub returns : goal.returns
unfolding known
returns c =
    let a = c.args in
    let first = c.put_take-q in
    let second = c.put_take-2 in
    let x : Wrote a.p (wide ∷ []) a.out.now first.result first.new.out = record { next = first.ensures.answer; made = first.ensures.memory } in
    let w = wrote-append x record { next = second.ensures.answer; made = second.ensures.memory } in
    rw (takes_broad a.kind a.width c.if-width-le56.false) (record {
      answer = w.next;
      memory = w.made;
    })
