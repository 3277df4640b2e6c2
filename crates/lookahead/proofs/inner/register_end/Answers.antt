-- `register_end` meets its contract: all of a slice is the slice (`take-length`), and the bits before the offset are held. Assumes nothing.
use mathlib.Core.Path.{◌≡◌, sym, ap, ◌∙◌, subst}
use Prim.Native.Nat.{ℕ, ◌≤◌, ◌<◌, ◌^◌}
use mathlib.Core.List.{List}
use lib.ListN.{length}
use lib.Seq.{take-length}
use Rattle.bits.specs.Field.{field}
use Rattle.bits.proofs.FieldLaws.{field_lt}
use Rattle.bits.specs.Word.{held}
use Rattle.counts.specs.Counts.{place}
use Rattle.lookahead.specs.State.{register_of}
use Rattle.lookahead.proofs.inner.register_end.Goals as goal
use Rattle.lookahead.proofs.inner.register_end.Goals.{After-bits_before-value, After-hold_bits}

pub slice_bounds-bits_before-end : goal.slice_bounds-bits_before-end
slice_bounds-bits_before-end c = ap length (sym (take-length c.args.src.now))

pub bits_before-value-requires : goal.bits_before-value-requires
bits_before-value-requires c =
    let a = c in
    (subst (λ (s : List ℕ). a.args.k.offset ≤ length s) (sym (take-length a.args.src.now)) a.requires.fetched, a.requires.small, a.requires.behind)

-- the value that is held
value_is_1 :
    (c : After-bits_before-value) → let a = c.args in
    c.bits_before-value.result ≡ field a.order a.src.now (place a.k) a.k.lookahead
value_is_1 c =
    let a = c.args in
    c.bits_before-value.ensures ∙ ap (λ (s : List ℕ). field a.order s (place a.k) a.k.lookahead) (take-length a.src.now)

pub hold_bits-requires : goal.hold_bits-requires
hold_bits-requires c =
    let a = c in
    (a.requires.small, subst (λ (v : ℕ). v < 2 ^ a.args.k.lookahead) (sym (value_is_1 c)) (field_lt a.args.order a.args.src.now (place a.args.k) a.args.k.lookahead))

-- the value that is held
value_is_2 :
    (c : After-hold_bits) → let a = c.args in
    c.bits_before-value.result ≡ field a.order a.src.now (place a.k) a.k.lookahead
value_is_2 c =
    let a = c.args in
    c.bits_before-value.ensures ∙ ap (λ (s : List ℕ). field a.order s (place a.k) a.k.lookahead) (take-length a.src.now)

pub returns : goal.returns
unfolding register_of
returns c =
    let a = c.args in
    c.hold_bits.ensures ∙ ap (held a.order a.k.lookahead) (value_is_2 c)
