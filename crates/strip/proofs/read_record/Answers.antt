-- `read_record` meets its contract: what is not refused has a record at the cursor's place (`read_passed`). Assumes nothing.
use mathlib.Core.Path.{◌≡◌, refl, sym, ◌∙◌}
use mathlib.Core.List.{List}
use Prim.Native.Nat.{ℕ, ◌+◌, ◌*◌, ◌≤◌}
use native.Mathlib.Omega.{arith}
use lib.ListN.{length}
use Rattle.bits.specs.Refusals.{longest, done}
use Rattle.bits.proofs.RefusalLaws.{handed_on, number_ne, if_refused, if_done_lem}
use Rattle.reader.specs.declared.Cursor.{Cursor}
use Rattle.reader.specs.Cursor.{place}
use Rattle.record.specs.Record.{no_record, record_bits}
use Rattle.strip.specs.Answers.{read_refusal, read_of}
use Rattle.strip.proofs.AnswerLaws.{read_passed}
use Rattle.strip.proofs.read_record.Goals as goal

pub returns-in_err-check_read : goal.returns-in_err-check_read
unfolding read_of
returns-in_err-check_read c =
    let e = c.in_err-check_read.ensures in
    rw (handed_on _ _ c.from_residual.ensures.1)
    ((λ i. record { refusal = e i; value = no_record; cursor = c.args.cursor }) ∙ if_refused e _ _ (number_ne _))

pub place_of-place-requires : goal.place_of-place-requires
place_of-place-requires c = (read_passed _ _ (sym c.in_ok-check_read.ensures)).0

-- the record is there, and its place as the code finds it
room : (s : List ℕ) (c : Cursor) (p : ℕ) → done ≡ read_refusal s c → p ≡ place c → (p + record_bits ≤ 8 * length s) × (length s ≤ longest)
room s c p z e = let h = read_passed s c (sym z) in (omega (arith, h.1, e), h.0.short)

pub record_at-requires : goal.record_at-requires
record_at-requires c = room _ _ _ c.in_ok-check_read.ensures c.place_of-place.ensures

pub overflow_add-place : goal.overflow_add-place
overflow_add-place c = omega (arith, room _ _ _ c.in_ok-check_read.ensures c.place_of-place.ensures)

pub gone_to-requires : goal.gone_to-requires
gone_to-requires c = room _ _ _ c.in_ok-check_read.ensures c.place_of-place.ensures

pub returns : goal.returns
unfolding read_of
returns c =
    rw (← c.place_of-place.ensures)
    ((λ i. record { refusal = done; value = c.record_at.ensures i; cursor = c.gone_to.ensures i }) ∙ if_done_lem c.in_ok-check_read.ensures _ _ refl)
