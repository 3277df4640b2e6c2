-- Laws of the lines of a text: one after the other, and counted behind the header.
use Prim.Native.Nat.{ℕ, zero, suc, ◌+◌, ◌-◌, ◌<◌, ◌≤◌}
use mathlib.Core.Path.{◌≡◌, refl, sym, ap, ◌∙◌}
use mathlib.Core.Bool.{Bool, true, false, cond}
use mathlib.Core.List.{List, [], ◌∷◌}
use lib.ListN.{length, drop, length-drop}
use lib.Seq.{drop-length}
use native.Mathlib.Omega.{arith}
use Rattle.std.specs.Prelude.{Result, Ok, Err, Some, None}
use Rattle.std.specs.Option.{is_some}
use Rattle.bits.proofs.TestLaws.{by_test}
use Rattle.record.specs.declared.Record.{Record}
use Rattle.strip.specs.Strip.{all_fit}
use Rattle.line.specs.declared.inner.LineAt.{LineAt}
use Rattle.line.specs.Reading.{begins, first_of, behind, is_nil, LineStands}
use Rattle.line.proofs.ReadLaws.{behind_shorter}
use Rattle.line.proofs.AnswerLaws.{some_left}
use Rattle.text.specs.declared.PackError.{PackError}
use Rattle.text.specs.declared.PackError.TheVariants.{BadLine}
use Rattle.text.specs.Text.{header, Lines, more, stopped, lines_in, lines_of, body_of, bad_line_of}
use Rattle.text.proofs.HeaderLaws.{header_length, length-header}

-- records, and no bad line
abbrev pub all_read_lem : List Record → Lines
all_read_lem rs = record { records = rs; good = true }

-- ---- one after the other

pub lines_none : (n : ℕ) → lines_in n [] ≡ stopped true
unfolding lines_in
lines_none zero = refl
lines_none (suc n) = refl

-- any count that is no less than the bytes is enough
pub lines_enough : (n m : ℕ) (s : List ℕ) → length s ≤ n → length s ≤ m → lines_in n s ≡ lines_in m s
unfolding lines_in
lines_enough zero m [] h k = sym (lines_none m)
lines_enough zero m (b ∷ s) h k = absurd (omega arith)
lines_enough (suc n) m [] h k = sym (lines_none m)
lines_enough (suc n) zero (b ∷ s) h k = absurd (omega arith)
lines_enough (suc n) (suc m) (b ∷ s) h k =
    by_test (begins (b ∷ s))
    (λ e. let l = behind_shorter (b ∷ s) e in rw e (ap (more (first_of (b ∷ s))) (lines_enough n m (behind (b ∷ s)) (omega arith) (omega arith))))
    (λ e. rw e)

module _ (s : List ℕ) (some : 1 ≤ length s) where
  pub lines_next : begins s ≡ true → lines_of s ≡ more (first_of s) (lines_of (behind s))
  unfolding lines_in
  lines_next e =
      let z : length s ≡ suc (length s - 1) = omega arith in
      let l = behind_shorter s e in
      ap (λ (n : ℕ). lines_in n s) z ∙ rw (some_left s some, e)
      (ap (more (first_of s)) (lines_enough (length s - 1) (length (behind s)) (behind s) (omega arith) (omega arith)))

  pub lines_bad : begins s ≡ false → lines_of s ≡ stopped false
  unfolding lines_in
  lines_bad e =
      let z : length s ≡ suc (length s - 1) = omega arith in
      ap (λ (n : ℕ). lines_in n s) z ∙ rw (some_left s some, e)

-- there are no more than were asked for
lines_few : (n : ℕ) (s : List ℕ) → length (lines_in n s).records ≤ n
unfolding lines_in
lines_few zero s = omega arith
lines_few (suc n) s = by (is_nil s) (begins s) (lines_few n (behind s))
  where
    by : (t u : Bool) → length (lines_in n (behind s)).records ≤ n
        → length (cond t (stopped true) (cond u (more (first_of s) (lines_in n (behind s))) (stopped false))).records ≤ suc n
    by true u h = omega arith
    by false true h = omega arith
    by false false h = omega arith

-- each of their records fits
lines_fit : (n : ℕ) (s : List ℕ) → all_fit (lines_in n s).records ≡ true
unfolding lines_in all_fit
lines_fit zero s = refl
lines_fit (suc n) s = by (is_nil s) (begins s) refl (lines_fit n (behind s))
  where
    by : (t u : Bool) → begins s ≡ u → all_fit (lines_in n (behind s)).records ≡ true
        → all_fit (cond t (stopped true) (cond u (more (first_of s) (lines_in n (behind s))) (stopped false))).records ≡ true
    by true u e h = refl
    by false true e h = rw e h
    by false false e h = refl

pub body_fits : (t : List ℕ) → all_fit (body_of t).records ≡ true
body_fits t = lines_fit (length (drop (length header) t)) (drop (length header) t)

pub body_few : (t : List ℕ) → length (body_of t).records ≤ length t
body_few t =
    let a = lines_few (length (drop (length header) t)) (drop (length header) t) in
    let b = length-drop (length header) t in
    omega arith

-- ---- at a place of a text

-- the lines from a place on
abbrev pub lines_from : List ℕ → ℕ → Lines
lines_from t at = lines_of (drop at t)

pub body_from : (t : List ℕ) → body_of t ≡ lines_from t header_length
body_from t = ap (lines_from t) length-header

module _ (t : List ℕ) (at : ℕ) where
  pub from_next : (next : ℕ) → at < length t → begins (drop at t) ≡ true → drop next t ≡ behind (drop at t)
      → lines_from t at ≡ more (first_of (drop at t)) (lines_from t next)
  from_next next h e f =
      let l = length-drop at t in
      lines_next (drop at t) (omega arith) e ∙ ap (λ (s : List ℕ). more (first_of (drop at t)) (lines_of s)) (sym f)

  pub from_bad : at < length t → begins (drop at t) ≡ false → lines_from t at ≡ stopped false
  from_bad h e = let l = length-drop at t in lines_bad (drop at t) (omega arith) e

  -- where all lines are good, the next one is
  pub from_good : at < length t → (lines_from t at).good ≡ true → begins (drop at t) ≡ true
  from_good h e = by_test (begins (drop at t)) (λ f. f) (λ f. f ∙ sym (ap (λ (l : Lines). l.good) (from_bad h f)) ∙ e)

  pub from_end : at ≡ length t → lines_from t at ≡ stopped true
  from_end e = ap (lines_from t) e ∙ ap lines_of (drop-length t) ∙ lines_none 0

-- whether a line is found at a place says whether one begins there
pub line_there : {s : List ℕ} {at : ℕ} {r : LineAt} → LineStands s at r → is_some r.«record» ≡ begins (drop at s)
line_there {s} {at} x = ap is_some x.names ∙ by (begins (drop at s))
  where
    by : (t : Bool) → is_some (cond t (Some (first_of (drop at s))) None) ≡ t
    by true = refl
    by false = refl

-- ---- counted

-- from `at` on, behind `count` good lines: what is left gives all there is
pub record Left (t : List ℕ) (at count : ℕ) : Type 0 where
  pub within : at ≤ length t
  pub few : count ≤ at
  pub sum : count + length (lines_from t at).records ≡ length (body_of t).records
  pub good : (lines_from t at).good ≡ (body_of t).good

-- what counting the lines tells: how many there are, or the number of the first bad one
abbrev pub counted : List ℕ → Result ℕ PackError
counted t = cond (body_of t).good (Ok (length (body_of t).records)) (Err (BadLine (bad_line_of t)))

pub counted_all : (t : List ℕ) (n : ℕ) → Ok n ≡ counted t → ((body_of t).good ≡ true) × (n ≡ length (body_of t).records)
counted_all t n = by (body_of t).good refl
  where
    by : (b : Bool) → (body_of t).good ≡ b
        → ◌≡◌ {A = Result ℕ PackError} (Ok n) (cond b (Ok (length (body_of t).records)) (Err (BadLine (bad_line_of t))))
        → ((body_of t).good ≡ true) × (n ≡ length (body_of t).records)
    by true p e = (p, cc)
    by false p e = absurd cc

pub counted-bad : (t : List ℕ) (x : PackError) → Err x ≡ counted t → ((body_of t).good ≡ false) × (x ≡ BadLine (bad_line_of t))
counted-bad t x = by (body_of t).good refl
  where
    by : (b : Bool) → (body_of t).good ≡ b
        → ◌≡◌ {A = Result ℕ PackError} (Err x) (cond b (Ok (length (body_of t).records)) (Err (BadLine (bad_line_of t))))
        → ((body_of t).good ≡ false) × (x ≡ BadLine (bad_line_of t))
    by true p e = absurd cc
    by false p e = (p, cc)

pub left_start : (t : List ℕ) → length header ≤ length t → Left t header_length 0
left_start t h =
    let e = body_from t in
    let n : length (lines_from t header_length).records ≡ length (body_of t).records = ap (λ (l : Lines). length l.records) (sym e) in
    record { within = omega (arith, h, length-header); few = omega arith; sum = omega arith; good = ap (λ (l : Lines). l.good) (sym e) }

module _ (t : List ℕ) (at count : ℕ) (g : Left t at count) where
  pub left_next : (next : ℕ) → at < length t → begins (drop at t) ≡ true → drop next t ≡ behind (drop at t) → at < next → next ≤ length t → Left t next (count + 1)
  left_next next h e f k w =
      let a = from_next t at next h e f in
      let n = ap (λ (x : Lines). length x.records) a in
      let m = g.few in
      let all = g.sum in
      record { within = w; few = omega arith; sum = omega arith; good = sym (ap (λ (x : Lines). x.good) a) ∙ g.good }

  -- a bad line: those before it are all that are counted
  pub left_bad : at < length t → begins (drop at t) ≡ false → ((body_of t).good ≡ false) × (count ≡ length (body_of t).records)
  left_bad h e =
      let a = from_bad t at h e in
      let n = ap (λ (x : Lines). length x.records) a in
      let all = g.sum in
      (sym g.good ∙ ap (λ (x : Lines). x.good) a, omega arith)

  pub left_end : length t ≤ at → Ok count ≡ counted t
  left_end h =
      let w = g.within in
      let a = from_end t at (omega arith) in
      let n = ap (λ (x : Lines). length x.records) a in
      let all = g.sum in
      let good : (body_of t).good ≡ true = sym g.good ∙ ap (λ (x : Lines). x.good) a in
      let count_is : count ≡ length (body_of t).records = omega arith in
      rw good (ap (λ (k : ℕ). Ok k) count_is)
