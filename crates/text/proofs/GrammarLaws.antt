-- Texts of the grammar are read, and what is read is of the grammar.
use Prim.Native.Nat.{ℕ, zero, suc}
use mathlib.Core.Path.{◌≡◌, refl, sym, ap, ap₂, ◌∙◌}
use mathlib.Core.Bool.{Bool, true, false, cond}
use mathlib.Core.List.{List, [], ◌∷◌, ◌++◌, append-nil}
use lib.ListN.{length, drop, length-append}
use lib.Seq.{drop_at}
use native.Mathlib.Omega.{arith}
use borrow.Author.Tests.{eqb-true, eq-eqb}
use Rattle.bits.proofs.TestLaws.{both}
use Rattle.record.specs.declared.Record.{Record}
use Rattle.line.specs.Grammar.{Parts, spelled, meant}
use Rattle.line.proofs.GrammarLaws.{spelled_longer}
use Rattle.line.specs.Reading.{begins, first_of, behind, is_nil}
use Rattle.line.proofs.ReadLaws.{begins_good}
use Rattle.line.proofs.SpelledLaws.{begins-spelled, first-spelled, behind-spelled}
use Rattle.line.proofs.AnswerLaws.{nil_is}
use Rattle.listing.specs.Listing.{line_of}
use Rattle.listing.proofs.PieceLaws.{line_length}
use Rattle.listing.proofs.TripLaws.{line_begins, line_first, line_behind}
use Rattle.listing.proofs.SameLaws.{line_back}
use Rattle.strip.specs.Strip.{all_fit}
use Rattle.strip.proofs.FitLaws.{all_fit_parts}
use Rattle.text.specs.Text.{header, listed, headed, Lines, more, stopped, lines_in, lines_of, body_of}
use Rattle.text.specs.Grammar.{all_spelled, all_meant, AllGood, and, none, AllFive, no_line, five, Many, GoodText}
use Rattle.text.proofs.LinesLaws.{all_read_lem, lines_none, lines_next}

-- ---- the header

pub headed-append : (h s : List ℕ) → headed h (h ++ s) ≡ true
unfolding headed
headed-append [] s = refl
headed-append (a ∷ h) s = rw (eq-eqb a a refl) (headed-append h s)

pub headed_is : (h s : List ℕ) → headed h s ≡ true → s ≡ h ++ drop (length h) s
unfolding headed
headed_is [] s e = refl
headed_is (a ∷ h) [] e = absurd (let z : ◌≡◌ {A = ℕ} 0 1 = cc in omega arith)
headed_is (a ∷ h) (b ∷ s) e =
    let (x, y) = both e in
    ap₂ (λ (c : ℕ) (l : List ℕ). c ∷ l) (eqb-true b a x) (headed_is h s y)

pub body_append : (s : List ℕ) → body_of (header ++ s) ≡ lines_of s
body_append s = ap lines_of (drop_at header s (length header) refl)

-- ---- from lines to records

-- the lines of records that fit
pub listed_lines : (rs : List Record) → all_fit rs ≡ true → lines_of (listed rs) ≡ all_read_lem rs
unfolding listed
listed_lines [] h = lines_none 0
listed_lines (r ∷ rs) h =
    let (f, others) = all_fit_parts r rs h in
    let s = listed rs in
    let l = length-append (line_of r) s in
    let n = line_length r in
    lines_next (line_of r ++ s) (omega arith) (line_begins r f s)
    ∙ ap₂ (λ (q : Record) (x : List ℕ). more q (lines_of x)) (line_first r f s) (line_behind r f s)
    ∙ ap (more r) (listed_lines rs others)

-- records in front of lines
abbrev pub before : List Record → Lines → Lines
before rs l = record { records = rs ++ l.records; good = l.good }

-- good lines, and a text behind them
pub lines_behind : (ps : List Parts) → AllGood ps → (s : List ℕ) → lines_of (all_spelled ps s) ≡ before (all_meant ps) (lines_of s)
unfolding all_spelled all_meant
lines_behind [] none s = refl
lines_behind (p ∷ ps) (and g others) s =
    let t = all_spelled ps s in
    let l = spelled_longer p t in
    lines_next (spelled p t) (omega arith) (begins-spelled p t g)
    ∙ ap₂ (λ (q : Record) (x : List ℕ). more q (lines_of x)) (first-spelled p t g) (behind-spelled p t g)
    ∙ ap (more _) (lines_behind ps others s)

-- good lines, and nothing behind them
pub spelled_lines : (ps : List Parts) → AllGood ps → lines_of (all_spelled ps []) ≡ all_read_lem (all_meant ps)
spelled_lines ps g = lines_behind ps g [] ∙ ap (before (all_meant ps)) (lines_none 0) ∙ ap all_read_lem (append-nil (all_meant ps))

-- ---- from records to lines

many_none : (s : List ℕ) → is_nil s ≡ true → Many s []
unfolding all_spelled all_meant
many_none s e = record { parts = []; good = none; text = nil_is s e; names = refl }

many_more : (s : List ℕ) (rs : List Record) → begins s ≡ true → Many (behind s) rs → Many s (first_of s ∷ rs)
unfolding all_spelled all_meant
many_more s rs e m =
    let b = begins_good s e in
    record {
      parts = b.parts ∷ m.parts;
      good = and b.good m.good;
      text = b.text ∙ ap (spelled b.parts) m.text;
      names = ap₂ (λ (r : Record) (l : List Record). r ∷ l) (ap first_of b.text ∙ first-spelled b.parts (behind s) b.good) m.names;
    }

-- lines that are all good are of the grammar
pub good_many : (n : ℕ) (s : List ℕ) → (lines_in n s).good ≡ true → Many s (lines_in n s).records
unfolding lines_in
good_many zero s e = many_none s e
good_many (suc n) s e = by (is_nil s) (begins s) refl refl (good_many n (behind s)) e
  where
    by : (t u : Bool) → is_nil s ≡ t → begins s ≡ u
        → ((lines_in n (behind s)).good ≡ true → Many (behind s) (lines_in n (behind s)).records)
        → (cond t (stopped true) (cond u (more (first_of s) (lines_in n (behind s))) (stopped false))).good ≡ true
        → Many s (cond t (stopped true) (cond u (more (first_of s) (lines_in n (behind s))) (stopped false))).records
    by true u p q others h = many_none s p
    by false true p q others h = many_more s _ q (others h)
    by false false p q others h = absurd (let z : ◌≡◌ {A = ℕ} 0 1 = cc in omega arith)

-- ---- lines whose dates have five decimals

-- they are the lines of their records
pub listed_same : (ps : List Parts) → AllGood ps → AllFive ps → listed (all_meant ps) ≡ all_spelled ps []
unfolding listed all_meant all_spelled
listed_same [] none no_line = refl
listed_same (p ∷ ps) (and g others) (five e fives) =
    ap (λ (s : List ℕ). line_of (meant p) ++ s) (listed_same ps others fives) ∙ sym (line_back p g e (all_spelled ps []))

-- so a good text of such lines is the text of its records
pub text_same : {t : List ℕ} {rs : List Record} (g : GoodText t rs) → AllFive g.lines.parts → header ++ listed rs ≡ t
text_same g f =
    let l = g.lines in
    ap (λ (s : List ℕ). header ++ s) (ap listed l.names ∙ listed_same l.parts l.good f ∙ sym l.text) ∙ sym g.text
