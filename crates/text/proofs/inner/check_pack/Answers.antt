-- `check_pack` meets its contract: the tests, one by one; 89 n bits have room in len bytes if n is at most 8 len / 89. Assumes nothing.
use mathlib.Core.Path.{◌≡◌, refl, sym, ap, ◌∙◌}
use mathlib.Core.Bool.{Bool}
use mathlib.Core.List.{List}
use Prim.Native.Nat.{ℕ}
use Rattle.std.specs.Prelude.{Err}
use Rattle.text.specs.Text.{header, headed}
use Rattle.text.specs.Answers.{found_told}
use Rattle.text.proofs.HeaderLaws.{header_bytes, header_is, starts_headed}
use Rattle.text.proofs.LinesLaws.{counted_all, counted-bad}
use Rattle.text.proofs.AnswerLaws.{told_on, long_text, long_out, other_header, bad_line_lem, no_room_lem, has_room}
use Rattle.text.proofs.inner.check_pack.Goals as goal

-- what the library's test for the header says
head_is : (t : List ℕ) {b u : Bool} → b ≡ headed header_bytes t → b ≡ u → headed header t ≡ u
head_is t e f = ap (λ (h : List ℕ). headed h t) header_is ∙ sym e ∙ f

pub returns-then-text-gt-LONGEST : goal.returns-then-text-gt-LONGEST
returns-then-text-gt-LONGEST c = long_text c.args.text.now c.args.len c.if-text-gt-LONGEST.true

pub returns-then-len-gt-LONGEST : goal.returns-then-len-gt-LONGEST
returns-then-len-gt-LONGEST c = long_out c.args.text.now c.args.len c.if-text-gt-LONGEST.false c.if-len-gt-LONGEST.true

pub returns-then-not-starts_with : goal.returns-then-not-starts_with
returns-then-not-starts_with c =
    let t = c.args.text.now in
    let head = head_is t (c.starts_with.ensures.value ∙ starts_headed header_bytes t) c.if-not-starts_with.true in
    other_header t c.args.len c.if-text-gt-LONGEST.false c.if-len-gt-LONGEST.false head

pub count_lines-requires : goal.count_lines-requires
count_lines-requires c =
    let t = c.args.text.now in
    head_is t (c.starts_with.ensures.value ∙ starts_headed header_bytes t) c.if-not-starts_with.false

pub returns-in_err-count : goal.returns-in_err-count
returns-in_err-count c =
    let t = c.args.text.now in
    let head = head_is t (c.starts_with.ensures.value ∙ starts_headed header_bytes t) c.if-not-starts_with.false in
    let (bad, is) = counted-bad t _ c.in_err-count.ensures in
    ap found_told (told_on _ _ c.from_residual.ensures.1 ∙ ap Err is)
    ∙ bad_line_lem t c.args.len c.if-text-gt-LONGEST.false c.if-len-gt-LONGEST.false _ head bad refl

pub returns-then-len-count : goal.returns-then-len-count
returns-then-len-count c =
    let t = c.args.text.now in
    let head = head_is t (c.starts_with.ensures.value ∙ starts_headed header_bytes t) c.if-not-starts_with.false in
    let (good, count) = counted_all t _ c.in_ok-count.ensures in
    no_room_lem t c.args.len c.if-text-gt-LONGEST.false c.if-len-gt-LONGEST.false head _ count good c.if-len-count.true

pub returns : goal.returns
returns c =
    let t = c.args.text.now in
    let head = head_is t (c.starts_with.ensures.value ∙ starts_headed header_bytes t) c.if-not-starts_with.false in
    let (good, count) = counted_all t _ c.in_ok-count.ensures in
    has_room t c.args.len c.if-text-gt-LONGEST.false c.if-len-gt-LONGEST.false head _ count good c.if-len-count.false
