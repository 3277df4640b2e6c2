-- `put_row_used` meets its contract: the three parts of the record are parts of the two words (`star_part`, `date_part`, `rest_part`). Assumes nothing.
use mathlib.Core.Path.{◌≡◌, ap, ◌∙◌}
use Prim.Native.Nat.{ℕ, ◌+◌, ◌*◌, ◌/◌, ◌%◌, ◌^◌, ◌≤◌}
use mathlib.Core.List.{List}
use lib.Seq.{sets}
use Rattle.bits.specs.declared.Order.TheVariants.{Big}
use Rattle.bits.specs.Field.{field}
use Rattle.bits.specs.Word.{skipped}
use Rattle.record.specs.declared.inner.Numbers.{Numbers}
use Rattle.record.specs.declared.Record.{Record}
use Rattle.record.specs.Record.{fits, named}
use Rattle.record.proofs.FitLaws.{true-fits, in_fields}
use Rattle.strip.specs.Bits.{record_at}
use Rattle.strip.proofs.BitsLaws.{parts_of, named_in}
use Rattle.strip.proofs.PackedLaws.{record_fits}
use Rattle.rows.specs.Row.{row_bytes}
use Rattle.rows.proofs.StripRowsLaws.{star_part, date_part, rest_part}
use Rattle.rows.proofs.inner.put_row_used.Goals as goal

-- the numbers put are those of the record at the place
named_here : (s : List ℕ) (b u : ℕ) (few : u ≤ 7) {first second front back : ℕ} {six : Numbers} → first ≡ field Big s (8 * b) 64 → second ≡ field Big s (8 * (b + 7)) 64
    → front ≡ skipped Big u first → back ≡ skipped Big u second → six ≡ parts_of (front / 2 ^ 44) (front / 2 ^ 8 % 2 ^ 36 * 4 + back / 2 ^ 62) (back / 2 ^ 31 % 2 ^ 31)
    → named six ≡ record_at s (8 * b + u)
named_here s b u few e₁ e₂ e₃ e₄ six =
    let f = e₃ ∙ ap (skipped Big u) e₁ in
    let g = e₄ ∙ ap (skipped Big u) e₂ in
    named_in s (8 * b + u) (star_part s b u few f g) (date_part s b u few f g) (rest_part s b u few f g) six

pub put_columns-requires : goal.put_columns-requires
put_columns-requires c =
    let a = c.args in
    let here = named_here a.src.now a.byte a.used c.requires.1 c.load_whole-first.ensures c.load_whole-second.ensures c.skip_bits-front.ensures c.skip_bits-back.ensures c.numbers_in.ensures in
    (c.requires.2, in_fields _ (ap fits here ∙ true-fits _ (record_fits _ _)))

pub returns : goal.returns
returns c =
    let a = c.args in
    let here = named_here a.src.now a.byte a.used c.requires.1 c.load_whole-first.ensures c.load_whole-second.ensures c.skip_bits-front.ensures c.skip_bits-back.ensures c.numbers_in.ensures in
    c.put_columns.ensures ∙ ap (λ (r : Record). sets a.out.now a.at (row_bytes r)) here
