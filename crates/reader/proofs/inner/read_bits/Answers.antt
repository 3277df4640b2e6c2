-- `read_bits` meets its contract: a read inside the slice is done (`inside-done`), and any other is that of `read_out`. Assumes nothing.
use mathlib.Core.Path.{◌≡◌, sym, ap, ◌∙◌, subst}
use Prim.Native.Nat.{ℕ, ◌≤◌}
use mathlib.Core.Bool.{true}
use lib.ListN.{length}
use Rattle.bits.specs.Refusals.{done}
use Rattle.lookahead.specs.declared.State.{State}
use Rattle.lookahead.specs.declared.Taken.{Taken}
use Rattle.lookahead.specs.State.{Belongs, counts_of, taken_of, inside}
use Rattle.reader.specs.declared.Read.{Read}
use Rattle.reader.specs.Cursor.{with_state, cursor_at}
use Rattle.reader.proofs.CursorLaws.{own_state}
use Rattle.reader.proofs.ReadLaws.{inside-done, read_done}
use Rattle.reader.proofs.inner.read_bits.Goals as goal

pub read_inside-requires : goal.read_inside-requires
read_inside-requires c =
    let a = c.args in
    let s = a.src.now in
    let (h, within, narrow, _) = inside-done _ _ _ _ (sym c.is_inside.ensures ∙ c.if-is_inside.true) in
    subst (λ (t : State). Belongs a.order s t × (inside (length s) (counts_of t) ≡ true) × (a.bits ≤ 56)) (sym c.state_in.ensures)
    (own_state h, within, narrow)

pub returns-then-is_inside : goal.returns-then-is_inside
unfolding cursor_at
returns-then-is_inside c =
    let a = c.args in
    let s = a.src.now in
    let (_, _, _, granted) = inside-done _ _ _ _ (sym c.is_inside.ensures ∙ c.if-is_inside.true) in
    ap (λ (r : Read ℕ). record { refusal = done; value = r.value; cursor = r.cursor }) c.done_with.ensures
    ∙ ap (λ (x : Taken). record { refusal = done; value = x.value; cursor = with_state a.c x.state })
    (c.read_inside.ensures ∙ ap (λ (t : State). taken_of a.order s (counts_of t) a.bits) c.state_in.ensures)
    ∙ sym (read_done a.order s a.c a.bits granted)
