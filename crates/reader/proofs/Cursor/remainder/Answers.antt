-- `remainder` meets its contract: the whole bytes of the lookahead lie before the offset, and the part goes from them to the end's byte.
-- Assumes nothing.
use Prim.Native.Nat.{ℕ, ◌+◌, ◌-◌, ◌/◌, ◌%◌}
use mathlib.Core.Path.{◌≡◌, refl, sym, ap, ◌∙◌}
use mathlib.Core.Bool.{false}
use mathlib.Core.List.{List}
use native.Mathlib.Nat.{add-zero, add_comm}
use native.Mathlib.Omega.{arith}
use lib.Seq.{slice}
use Rattle.std.specs.Prelude.{Result}
use Rattle.std.specs.Result.{is_err}
use Rattle.bits.specs.declared.Order.{Order}
use Rattle.bits.specs.declared.Refusal.{Refusal}
use Rattle.bits.specs.Refusals.{number_of}
use Rattle.bits.proofs.RefusalLaws.{if_refused, if_done_lem}
use Rattle.reader.specs.declared.Cursor.{Cursor}
use Rattle.reader.specs.Cursor.{Own}
use Rattle.reader.specs.Answers.{remainder_refusal, start_of, remainder_of}
use Rattle.reader.proofs.CursorLaws.{told_refused, told_done}
use Rattle.reader.proofs.AnswerLaws.{remainder_granted, part_slice}
use Rattle.reader.proofs.Cursor.remainder.Goals as goal

-- a cursor that is not refused belongs, and its end is that of a byte
granted :
    {o : Order} {s : List ℕ} {c : Cursor} {A : Type 0} (r : Result A Refusal) → number_of r ≡ remainder_refusal o s c → is_err r ≡ false →
    Own o s c × (c.end % 8 ≡ 0)
granted r e t = remainder_granted _ _ _ (sym e ∙ told_done r t)

pub returns-then-is_err : goal.returns-then-is_err
unfolding remainder_of start_of
returns-then-is_err c =
    let a = c.args in
    let f = c.check_remainder.ensures in
    let h = told_refused _ (sym c.is_err.ensures.value ∙ c.if-is_err.true) in
    let start : 0 ≡ start_of a.order a.src.now a.self = if_refused f _ _ h in
    record {
      bytes = if_refused f _ _ h;
      memory = (refl, sym (add-zero _) ∙ ap (λ (k : ℕ). a.src.ref_ptr.1 + k) start);
    }

pub overflow_sub-start : goal.overflow_sub-start
overflow_sub-start c =
    let (h, _) = granted _ c.check_remainder.ensures (sym c.is_err.ensures.value ∙ c.if-is_err.false) in
    omega (arith, h.fits.within.behind)

pub slice_bounds-result-count : goal.slice_bounds-result-count
slice_bounds-result-count c =
    let (h, whole) = granted _ c.check_remainder.ensures (sym c.is_err.ensures.value ∙ c.if-is_err.false) in
    omega (arith, h.fits.within.behind, h.fits.reached, h.fits.stops, whole)

pub slice_bounds-result-start : goal.slice_bounds-result-start
slice_bounds-result-start c =
    let (h, whole) = granted _ c.check_remainder.ensures (sym c.is_err.ensures.value ∙ c.if-is_err.false) in
    omega (arith, h.fits.within.behind, h.fits.reached, h.fits.stops, whole)

pub slice_bounds-result-end-2 : goal.slice_bounds-result-end-2
slice_bounds-result-end-2 c =
    let (h, whole) = granted _ c.check_remainder.ensures (sym c.is_err.ensures.value ∙ c.if-is_err.false) in
    omega (arith, h.fits.stops)

pub returns : goal.returns
unfolding remainder_of start_of
returns c =
    let a = c.args in
    let f = c.check_remainder.ensures in
    let t = sym c.is_err.ensures.value ∙ c.if-is_err.false in
    let z = told_done _ t in
    let (h, whole) = granted _ f t in
    let from : ℕ = a.self.offset - a.self.lookahead / 8 in
    let to : ℕ = a.self.end / 8 in
    let start : from ≡ start_of a.order a.src.now a.self = if_done_lem f _ _ z in
    record {
      bytes =
          part_slice a.src.now from to (omega (arith, h.fits.within.behind, h.fits.reached, whole)) (omega (arith, h.fits.stops))
          ∙ ap (λ (k : ℕ). slice k to a.src.now) start
          ∙ if_done_lem f _ _ z;
      memory = (refl, add_comm _ _ ∙ ap (λ (k : ℕ). a.src.ref_ptr.1 + k) start);
    }
