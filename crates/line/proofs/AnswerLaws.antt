-- Laws of what line_at and read_line answer.
use Rattle.std.proofs.Common.{◌≡◌, ℕ, ◌<◌, ◌≤◌, true, false, Bool, cond, List, [], ◌∷◌, Some, None, length, drop, sym, refl, ap, ◌∙◌, arith, length-drop}
use lib.Seq.{drop-length}
use native.Mathlib.Numerals.{lt_of_le_of_ne}
use Rattle.record.specs.declared.Record.{Record}
use Rattle.record.specs.Record.{fits, record_of}
use Rattle.digits.specs.declared.inner.PartAt.{PartAt}
use Rattle.std.proofs.lemmas.Option.{cond_some, none-some}
use Rattle.line.specs.declared.inner.LineAt.{LineAt}
use Rattle.line.specs.Reading.{begins, first_of, behind, is_nil, LineStands}
use Rattle.line.proofs.PlaceLaws.{SixStand}
use Rattle.line.proofs.ReadLaws.{behind_shorter}

-- ---- line_at

-- the record that six parts name
abbrev named : PartAt → PartAt → PartAt → PartAt → PartAt → PartAt → Record
named a b c d e f = record_of a.value b.value c.value d.value e.value f.value

module _ {s : List ℕ} {at : ℕ} {a b c d e f : PartAt} (x : SixStand s at a b c d e f) where
  first_is : first_of (drop at s) ≡ named a b c d e f
  first_is = rw (x.star, x.date, x.limit, x.magnitude, x.error, x.filter)

  -- the next place lies further on, since the text behind a line is shorter
  further : begins (drop at s) ≡ true → at < f.next
  further h =
      let l = behind_shorter (drop at s) h in
      let m = length-drop at s in
      let n = length-drop f.next s in
      let t = ap length x.rest in
      omega arith

  pub stands_line : {r : Record} → fits (named a b c d e f) ≡ true → r ≡ named a b c d e f
      → LineStands s at (record { «record» = Some r; next = f.next })
  stands_line h k = record { names = rw (ap fits first_is ∙ h) (ap Some (k ∙ sym first_is)); rest = x.rest; within = x.within; further = further }

  pub stands_none : fits (named a b c d e f) ≡ false → LineStands s at (record { «record» = None; next = f.next })
  stands_none h = record { names = rw (ap fits first_is ∙ h); rest = x.rest; within = x.within; further = further }

-- whether a line stands there, and its record
module _ {s : List ℕ} {at : ℕ} {r : LineAt} (x : LineStands s at r) where
  pub line_named : {q : Record} → r.«record» ≡ Some q → (begins (drop at s) ≡ true) × (q ≡ first_of (drop at s))
  line_named e = let (g, h) = cond_some _ _ _ (sym x.names ∙ e) in (g, sym h)

  pub line_none : r.«record» ≡ None → begins (drop at s) ≡ false
  line_none e = by (begins (drop at s)) (sym x.names ∙ e)
    where
      by : (t : Bool) → cond t (Some (first_of (drop at s))) None ≡ None → t ≡ false
      by true h = absurd (none-some _ (sym h))
      by false h = refl

-- ---- read_line

-- no text is left, or some
pub nil_is : (s : List ℕ) → is_nil s ≡ true → s ≡ []
nil_is [] e = refl
nil_is (b ∷ s) e = absurd (let y : ◌≡◌ {A = ℕ} 0 1 = cc in omega arith)

pub some_left : (s : List ℕ) → 1 ≤ length s → is_nil s ≡ false
some_left [] h = absurd (omega arith)
some_left (b ∷ s) h = refl

-- where line_at stopped says whether text is left
module _ (s : List ℕ) (r : LineAt) (x : LineStands s 0 r) where
  pub all_read : r.next ≡ length s → is_nil (behind s) ≡ true
  all_read e = ap is_nil (sym x.rest ∙ ap (λ (k : ℕ). drop k s) e ∙ drop-length s)

  pub more_left : (r.next ≡ length s → ⊥) → is_nil (behind s) ≡ false
  more_left e =
      let l = length-drop r.next s in
      let p : r.next < length s = lt_of_le_of_ne x.within e in
      ap is_nil (sym x.rest) ∙ some_left (drop r.next s) (omega arith)
