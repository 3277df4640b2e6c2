-- `register_behind` meets its contract: the last bits of eight whole bytes (`far_register`). Assumes nothing.
use mathlib.Core.Path.{ap, ◌∙◌}
use Prim.Native.Nat.{◌-◌}
use Rattle.bits.specs.Word.{skipped}
use Rattle.lookahead.proofs.StateLaws.{far_register}
use Rattle.lookahead.proofs.inner.register_behind.Goals as goal

pub returns : goal.returns
returns c =
    let a = c in
    let k = a.args.k in
    let o = a.args.order in
    c.skip_bits-2.ensures
    ∙ ap (skipped o (63 - k.lookahead)) (c.skip_bits.ensures ∙ ap (skipped o 1) c.load_whole-word.ensures)
    ∙ far_register o a.args.src.now a.requires.0 a.requires.1
