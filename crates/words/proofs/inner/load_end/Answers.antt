-- `load_end` meets its contract: all of a slice is the slice (`take-length`). Assumes nothing.
use mathlib.Core.Path.{sym, ap, ◌∙◌}
use Prim.Native.Nat.{ℕ, ◌*◌}
use mathlib.Core.List.{List}
use lib.ListN.{length}
use lib.Seq.{take-length}
use Rattle.bits.specs.Field.{field}
use Rattle.words.proofs.inner.load_end.Goals as goal

pub slice_bounds-load_bytes-end : goal.slice_bounds-load_bytes-end
slice_bounds-load_bytes-end c = ap length (sym (take-length c.args.src.now))

pub returns : goal.returns
returns c =
    let a = c.args in
    c.load_bytes.ensures ∙ ap (λ (s : List ℕ). field a.order s (8 * a.at) 64) (take-length a.src.now)
