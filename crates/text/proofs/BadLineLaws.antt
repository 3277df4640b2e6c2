-- The number told with refusal 7 is that of the first bad line: the lines before it are good, and what stands there begins with no good line.
-- Reading from the front stops at just that place. Assumes nothing.
use Prim.Native.Nat.{ℕ, zero, suc, ◌+◌, ◌*◌, ◌/◌, ◌≤◌}
use mathlib.Core.Path.{◌≡◌, refl, sym, ap, ◌∙◌, subst}
use mathlib.Core.Bool.{Bool, true, false, cond, true≢false}
use mathlib.Core.List.{List, [], ◌∷◌, ◌++◌, append-nil}
use mathlib.Core.Logic.{◌↔◌}
use lib.ListN.{length, drop}
use lib.Dec.{ltb}
use native.Mathlib.Omega.{arith}
use borrow.Author.Tests.{ltb-true, ltb-false}
use Rattle.bits.specs.Refusals.{longest, done, bad_line, no_room}
use Rattle.bits.proofs.TestLaws.{by_test}
use Rattle.record.specs.declared.Record.{Record}
use Rattle.record.specs.Record.{record_bits}
use Rattle.line.specs.Grammar.{Parts, spelled, Good}
use Rattle.line.specs.Reading.{begins, first_of, behind, is_nil}
use Rattle.line.proofs.ReadLaws.{begins_good, behind_shorter}
use Rattle.line.proofs.SpelledLaws.{begins-spelled}
use Rattle.text.specs.Text.{header, headed, Lines, more, stopped, lines_in, body_of, bad_line_of}
use Rattle.text.specs.Answers.{Found, found_of, pack_of}
use Rattle.text.specs.Grammar.{all_spelled, all_meant, AllGood, and, none, FirstBad, no_header, bad_behind, GoodText}
use Rattle.text.proofs.LinesLaws.{lines_bad}
use Rattle.text.proofs.AnswerLaws.{found, other_header, bad_line_lem, no_room_lem, has_room}
use Rattle.text.proofs.GrammarLaws.{headed-append, headed_is, body_append, before, lines_behind, good_many}

-- ---- a text that begins with no good line

begins_none : (s : List ℕ) → begins s ≡ false → (p : Parts) (r : List ℕ) → Good p → s ≡ spelled p r → ⊥
begins_none s e p r g t = true≢false (sym (begins-spelled p r g) ∙ ap begins (sym t) ∙ e)

none_begins : (s : List ℕ) → ((p : Parts) (r : List ℕ) → Good p → s ≡ spelled p r → ⊥) → begins s ≡ false
none_begins s f = by_test (begins s) (λ e. let b = begins_good s e in absurd (f b.parts (behind s) b.good b.text)) (λ e. e)

some_is : (s : List ℕ) → (s ≡ [] → ⊥) → 1 ≤ length s
some_is [] f = absurd (f refl)
some_is (b ∷ s) f = omega arith

is_some : (s : List ℕ) → is_nil s ≡ false → s ≡ [] → ⊥
is_some s e z = true≢false (sym (ap is_nil z) ∙ e)

-- ---- where reading stopped

-- n good lines, and behind them something that begins with none
record Stuck (s : List ℕ) (n : ℕ) : Type 0 where
  parts : List Parts
  rest : List ℕ
  good : AllGood parts
  text : s ≡ all_spelled parts rest
  some : is_nil rest ≡ false
  bad : begins rest ≡ false
  count : length parts ≡ n

stuck_here : (s : List ℕ) → is_nil s ≡ false → begins s ≡ false → Stuck s 0
unfolding all_spelled
stuck_here s e f = record { parts = []; rest = s; good = none; text = refl; some = e; bad = f; count = refl }

stuck_later : (s : List ℕ) (n : ℕ) → begins s ≡ true → Stuck (behind s) n → Stuck s (suc n)
unfolding all_spelled
stuck_later s n e x =
    let b = begins_good s e in
    record {
      parts = b.parts ∷ x.parts;
      rest = x.rest;
      good = and b.good x.good;
      text = b.text ∙ ap (spelled b.parts) x.text;
      some = x.some;
      bad = x.bad;
      count = ap suc x.count;
    }

stuck : (n : ℕ) (s : List ℕ) → length s ≤ n → (lines_in n s).good ≡ false → Stuck s (length (lines_in n s).records)
unfolding lines_in
stuck zero [] h e = absurd (true≢false e)
stuck zero (b ∷ s) h e = absurd (omega arith)
stuck (suc n) s h e = by (is_nil s) (begins s) refl refl (stuck n (behind s)) e
  where
    by : (t u : Bool) → is_nil s ≡ t → begins s ≡ u
        → (length (behind s) ≤ n → (lines_in n (behind s)).good ≡ false → Stuck (behind s) (length (lines_in n (behind s)).records))
        → (cond t (stopped true) (cond u (more (first_of s) (lines_in n (behind s))) (stopped false))).good ≡ false
        → Stuck s (length (cond t (stopped true) (cond u (more (first_of s) (lines_in n (behind s))) (stopped false))).records)
    by true u p q others k = absurd (true≢false k)
    by false true p q others k = let l = behind_shorter s q in stuck_later s _ q (others (omega arith) k)
    by false false p q others k = stuck_here s p q

pub meant-count : (ps : List Parts) → length (all_meant ps) ≡ length ps
unfolding all_meant
meant-count [] = refl
meant-count (p ∷ ps) = ap suc (meant-count ps)

-- ---- the answer

module _ (t : List ℕ) (len n : ℕ) (short : length t ≤ longest) (short-out : len ≤ longest) where
  -- a text without the header
  bad_head : headed header t ≡ false → (found_of t len).line ≡ n → FirstBad t n
  bad_head e l =
      let o : 1 ≡ n = ap (λ (f : Found). f.line) (other_header t len short short-out e) ∙ l in
      subst (FirstBad t) o (no_header (λ body z. true≢false (sym (headed-append header body) ∙ ap (headed header) (sym z) ∙ e)))

  -- a text with the header and a bad line
  bad_body : headed header t ≡ true → (body_of t).good ≡ false → (found_of t len).line ≡ n → FirstBad t n
  bad_body e f l =
      let b = drop (length header) t in
      let x = stuck (length b) b (omega arith) f in
      let line : length x.parts + 2 ≡ bad_line_of t = rw e (omega (arith, x.count)) in
      let c : length x.parts + 2 ≡ n = ap (λ (f : Found). f.line) (bad_line_lem t len short short-out _ e f line) ∙ l in
      subst (FirstBad t) c (bad_behind x.parts x.rest x.good (is_some x.rest x.some) (begins_none x.rest x.bad)
      (headed_is header t e ∙ ap (λ (s : List ℕ). header ++ s) x.text))

  -- a text whose lines are all good is not refused by 7
  good_body : headed header t ≡ true → (body_of t).good ≡ true → (found_of t len).refusal ≡ bad_line → ⊥
  good_body e f r =
      let c = length (body_of t).records in
      by_test (ltb (8 * len / record_bits) c)
      (λ q. let z : no_room ≡ bad_line = ap (λ (f : Found). f.refusal) (no_room_lem t len short short-out e c refl f (ltb-true _ _ q)) ∙ r in omega arith)
      (λ q. let z : done ≡ bad_line = ap (λ (f : Found). f.refusal) (has_room t len short short-out e c refl f (ltb-false _ _ q)) ∙ r in omega arith)

  told-bad : ((found_of t len).refusal ≡ bad_line) × ((found_of t len).line ≡ n) → FirstBad t n
  told-bad (r, l) =
      by_test (headed header t)
      (λ e. by_test (body_of t).good (λ f. absurd (good_body e f r)) (λ f. bad_body e f l))
      (λ e. bad_head e l)

bad-told : (t : List ℕ) (len n : ℕ) → length t ≤ longest → len ≤ longest → FirstBad t n → found bad_line n ≡ found_of t len
bad-told t len n short short-out (no_header f) =
    other_header t len short short-out
    (by_test (headed header t) (λ e. absurd (f _ (headed_is header t e))) (λ e. e))
bad-told t len n short short-out (bad_behind ps rest g some bad z) =
    let e : headed header t ≡ true = ap (headed header) z ∙ headed-append header _ in
    let read : body_of t ≡ before (all_meant ps) (stopped false) =
    ap body_of z ∙ body_append _ ∙ lines_behind ps g rest ∙ ap (before (all_meant ps)) (lines_bad rest (some_is rest some) (none_begins rest bad)) in
    let count : length (body_of t).records ≡ length ps =
    ap (λ (l : Lines). length l.records) read ∙ ap length (append-nil (all_meant ps)) ∙ meant-count ps in
    bad_line_lem t len short short-out _ e (ap (λ (l : Lines). l.good) read) (rw e (omega (arith, count)))

-- bad-line-exactly: a text within the limit is refused by 7 with the number n just where n is the number of its first bad line
pub bad_line_exactly : (t : List ℕ) (len n : ℕ) → length t ≤ longest → len ≤ longest
    → (((pack_of t len).refusal ≡ bad_line) × ((pack_of t len).line ≡ n)) ↔ FirstBad t n
unfolding pack_of
bad_line_exactly t len n short short-out = (
  told-bad t len n short short-out,
  λ b. let z = bad-told t len n short short-out b in (ap (λ (f : Found). f.refusal) (sym z), ap (λ (f : Found). f.line) (sym z)),
)

-- bad-or-good: a text that is not the header and lines of the grammar has a first bad line
pub bad_or_good : (t : List ℕ) → length t ≤ longest → ((rs : List Record) → GoodText t rs → ⊥) → (n : ℕ) × FirstBad t n
bad_or_good t short f =
    by_test (headed header t)
    (λ e. by_test (body_of t).good
    (λ g. absurd (f _ (record { body = drop (length header) t; text = headed_is header t e; lines = good_many _ _ g })))
    (λ g. ((found_of t 0).line, bad_body t 0 _ short (omega arith) e g refl)))
    (λ e. ((found_of t 0).line, bad_head t 0 _ short (omega arith) e refl))
