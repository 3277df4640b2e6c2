-- `read_any` meets its contract: the refusal decides; a wide read is two narrower ones with a refill between them (`wide_by_parts`). Assumes nothing.
use mathlib.Core.Path.{◌≡◌, refl, sym, ap, ap₂, ◌∙◌, subst}
use Prim.Native.Nat.{ℕ, ◌-◌, ◌<◌, ◌≤◌, ◌^◌}
use native.Mathlib.Nat.{le_trans}
use native.Mathlib.Omega.{arith}
use lib.ListN.{length}
use Rattle.bits.specs.Refusals.{done, number}
use Rattle.bits.specs.declared.Refusal.{Refusal}
use Rattle.std.specs.Prelude.{Result}
use Rattle.std.specs.Result.{IsErrAnd}
use mathlib.Core.List.{List}
use Rattle.bits.specs.declared.Order.{Order}
use Rattle.bits.specs.Field.{join, field}
use Rattle.bits.proofs.FieldLaws.{field_lt}
use Rattle.counts.specs.Counts.{after_refill, after_read}
use Rattle.counts.specs.Counts as C
use Rattle.lookahead.specs.declared.State.{State}
use Rattle.lookahead.specs.declared.Taken.{Taken}
use Rattle.lookahead.specs.State.{Belongs, counts_of, state_of, taken_of}
use Rattle.reader.specs.declared.Cursor.{Cursor}
use Rattle.reader.specs.declared.Read.{Read}
use Rattle.reader.specs.Cursor.{state_in, with_state, counts_in, cursor_at, place}
use Rattle.reader.proofs.CursorLaws.{own_state, left_le}
use Rattle.reader.specs.Answers.{ReadTold, read_told, read_refusal, read_of}
use Rattle.reader.proofs.AnswerLaws.{read_granted}
use Rattle.reader.proofs.ReadLaws.{read_done, low_done, middle_belongs, rest_at, rest-done, wide_by_parts}
use Rattle.bits.proofs.RefusalLaws.{if_refused, if_done_lem, handed_on, number_ne}
use Rattle.reader.proofs.inner.+read_any.Goals as goal

-- the cursor of four numbers
abbrev whole : ℕ → ℕ → ℕ → ℕ → Cursor
whole q l r e = record { offset = q; lookahead = l; register = r; end = e }

-- a refusal that a `?` hands on
refused : (o : Order) (s : List ℕ) (from : Cursor) (bits : ℕ) (r : Result (Read ℕ) Refusal) (e : Refusal)
    → IsErrAnd r (λ x. x ≡ e) → number e ≡ read_refusal o s from bits → read_told 0 from r ≡ read_of o s from bits
unfolding read_of
refused o s from bits r e h p =
    ap (read_told 0 from) (handed_on r e h) ∙ (λ i. record { refusal = p i; value = 0; cursor = from })
    ∙ if_refused p _ _ (number_ne _)

pub returns-in_err-check_read : goal.returns-in_err-check_read
returns-in_err-check_read t c =
    let a = c.args in
    refused a.order a.src.now (whole a.offset a.lookahead a.register a.end) a.bits c.from_residual.result c.in_err-check_read.field-0.0
    c.from_residual.ensures.1 c.in_err-check_read.ensures

pub read_short-requires : goal.read_short-requires
read_short-requires t c =
    let a = c.args in
    let from = whole a.offset a.lookahead a.register a.end in
    let (h, b, d) = read_granted _ _ from _ (sym c.in_ok-check_read.ensures) in
    subst (λ (t : State). Belongs a.order a.src.now t × (a.bits ≤ 56) × (a.bits ≤ C.bits_left (length a.src.now) (counts_of t)))
    (sym c.state_in.ensures) (own_state h, c.if-bits-le56.true, le_trans d (left_le h.fits))

pub returns-then-bits-le56 : goal.returns-then-bits-le56
unfolding read_of cursor_at
returns-then-bits-le56 t c =
    let a = c.args in
    let from = whole a.offset a.lookahead a.register a.end in
    ap (λ (r : Read ℕ). record { refusal = done; value = r.value; cursor = r.cursor }) c.done_with.ensures
    ∙ ap (λ (x : Taken). record { refusal = done; value = x.value; cursor = with_state from x.state })
    (c.read_short.ensures ∙ ap (λ (t : State). taken_of a.order a.src.now (counts_of t) a.bits) c.state_in.ensures)
    ∙ if_done_lem c.in_ok-check_read.ensures _ _ refl

-- ---- a wide read

module _ (o : Order) (s : List ℕ) (from : Cursor) (bits : ℕ) (granted : read_refusal o s from bits ≡ done) (wider : 57 ≤ bits) where
  -- its first part
  low_is : {low : ReadTold ℕ} → low ≡ read_of o s from 56
      → low ≡ record { refusal = done; value = field o s (place from) 56; cursor = cursor_at o s from (after_read (length s) 56 (counts_in from)) }
  low_is e = e ∙ read_done o s from 56 (low_done o s from bits wider granted)

  -- the state behind it
  middle_is : {low : ReadTold ℕ} {m : State} → low ≡ read_of o s from 56 → m ≡ state_in low.cursor
      → m ≡ state_of o s (after_read (length s) 56 (counts_in from))
  unfolding cursor_at
  middle_is e f = f ∙ ap (λ (r : ReadTold ℕ). state_in r.cursor) (low_is e)

  refill_ready : {low : ReadTold ℕ} {m : State} → low ≡ read_of o s from 56 → m ≡ state_in low.cursor → Belongs o s m
  refill_ready e f = subst (Belongs o s) (sym (middle_is e f)) (middle_belongs o s from bits wider granted)

  -- the rest, read behind a refill
  high_is : {low high : ReadTold ℕ} {m full : State} → low ≡ read_of o s from 56 → m ≡ state_in low.cursor
      → full ≡ state_of o s (after_refill (length s) (counts_of m))
      → high ≡ read_of o s (with_state from full) (bits - 56)
      → high ≡
      (let from-rest = rest_at o s from bits wider granted in
      record {
        refusal = done;
        value = field o s (place from-rest) (bits - 56);
        cursor = cursor_at o s from (after_read (length s) (bits - 56) (after_refill (length s) (after_read (length s) 56 (counts_in from))));
      })
  unfolding cursor_at
  high_is e f g h =
      let full_is = g ∙ ap (λ (x : State). state_of o s (after_refill (length s) (counts_of x))) (middle_is e f) in
      h ∙ ap (λ (x : State). read_of o s (with_state from x) (bits - 56)) full_is
      ∙ read_done o s (rest_at o s from bits wider granted) (bits - 56) (rest-done o s from bits wider granted)

pub refill-full-requires : goal.refill-full-requires
refill-full-requires t c =
    let a = c.args in
    let from = whole a.offset a.lookahead a.register a.end in
    let granted : read_refusal a.order a.src.now from a.bits ≡ done = sym c.in_ok-check_read.ensures in
    refill_ready a.order a.src.now from a.bits granted c.if-bits-le56.false c.in_ok-low.ensures c.state_in-2.ensures

-- neither part is refused
pub returns-in_err-low : goal.returns-in_err-low
returns-in_err-low t c =
    let a = c.args in
    let from = whole a.offset a.lookahead a.register a.end in
    let granted : read_refusal a.order a.src.now from a.bits ≡ done = sym c.in_ok-check_read.ensures in
    absurd (number_ne _ (ap (λ (r : ReadTold ℕ). r.refusal) (low_is a.order a.src.now from a.bits granted c.if-bits-le56.false c.in_err-low.ensures)))

pub returns-in_err-high : goal.returns-in_err-high
returns-in_err-high t c =
    let a = c.args in
    let from = whole a.offset a.lookahead a.register a.end in
    let granted : read_refusal a.order a.src.now from a.bits ≡ done = sym c.in_ok-check_read.ensures in
    absurd (number_ne _ (ap (λ (r : ReadTold ℕ). r.refusal)
    (high_is a.order a.src.now from a.bits granted c.if-bits-le56.false c.in_ok-low.ensures c.state_in-2.ensures c.refill-full.ensures c.in_err-high.ensures)))

pub join_bits-requires : goal.join_bits-requires
join_bits-requires t c =
    let a = c.args in
    let from = whole a.offset a.lookahead a.register a.end in
    let granted : read_refusal a.order a.src.now from a.bits ≡ done = sym c.in_ok-check_read.ensures in
    let wider : 57 ≤ a.bits = c.if-bits-le56.false in
    let (h, b, d) = read_granted a.order a.src.now from a.bits granted in
    let low = low_is a.order a.src.now from a.bits granted wider c.in_ok-low.ensures in
    let high = high_is a.order a.src.now from a.bits granted wider c.in_ok-low.ensures c.state_in-2.ensures c.refill-full.ensures c.in_ok-high.ensures in (
      omega arith,
      omega (arith, b),
      omega (arith, b, wider),
      subst (λ (r : ReadTold ℕ). r.value < 2 ^ 56) (sym low) (field_lt _ _ _ 56),
      subst (λ (r : ReadTold ℕ). r.value < 2 ^ (a.bits - 56)) (sym high) (field_lt _ _ _ (a.bits - 56)),
    )

pub returns : goal.returns
returns t c =
    let a = c.args in
    let from = whole a.offset a.lookahead a.register a.end in
    let granted : read_refusal a.order a.src.now from a.bits ≡ done = sym c.in_ok-check_read.ensures in
    let wider : 57 ≤ a.bits = c.if-bits-le56.false in
    let low = low_is a.order a.src.now from a.bits granted wider c.in_ok-low.ensures in
    let high = high_is a.order a.src.now from a.bits granted wider c.in_ok-low.ensures c.state_in-2.ensures c.refill-full.ensures c.in_ok-high.ensures in
    let v = c.join_bits.ensures ∙ ap₂ (λ (x y : ReadTold ℕ). join a.order 56 (a.bits - 56) x.value y.value) low high in
    (λ i. record { refusal = done; value = v i; cursor = (high i).cursor })
    ∙ wide_by_parts a.order a.src.now from a.bits wider granted
