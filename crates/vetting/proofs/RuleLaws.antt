-- Laws of the rules: the number that a record is found to break is that of the first rule that it breaks.
use Prim.Native.Nat.{ℕ, zero, suc, ◌<◌, ◌≤◌}
use mathlib.Core.Path.{◌≡◌, refl, sym, ◌∙◌}
use mathlib.Core.Bool.{Bool, true, false, not, ◌&&◌, false≢true}
use mathlib.Core.List.{List}
use native.Mathlib.Omega.{arith}
use native.Mathlib.Numerals.{unary_clauses}
use lib.Dec.{eqb, ltb}
use lib.ListN.{get_or}
use borrow.Author.Tests.{ltb-true, ltb-false, le-ltb, eqb-true, eq-eqb}
use Rattle.bits.specs.Refusals.{done}
use Rattle.bits.proofs.TestLaws.{by_test}
use Rattle.bits.proofs.RefusalLaws.{passed, all_pass, test_failed, test_true, at_most, Refused, here, later, refused_by}
use Rattle.record.specs.declared.Record.{Record}
use Rattle.record.specs.Record.{no_record}
use Rattle.vetting.specs.Rules.{Keeps}
use Rattle.vetting.specs.Verdicts.{faults, rule_broken}

-- a record keeps rule q below one of a date
abbrev pub Kept : ℕ → Record → ℕ → Type 0
Kept above r q = (q ≡ 1 → above ≤ r.date) × (q ≡ 2 → r.filter ≤ 9) × (q ≡ 3 → r.error ≡ 0 → r.limit ≡ 1)

-- ---- error 0 without limit 1

module _ (e l : ℕ) where
  alone_failed : (eqb e 0 && not (eqb l 1)) ≡ false → e ≡ 0 → l ≡ 1
  alone_failed f z = by (eqb l 1) refl (rw (eq-eqb e 0 z) at f)
    where
      by : (t : Bool) → eqb l 1 ≡ t → (true && not t) ≡ false → l ≡ 1
      by true p g = eqb-true l 1 p
      by false p g = absurd (false≢true (sym g))

  failed_alone : (e ≡ 0 → l ≡ 1) → (eqb e 0 && not (eqb l 1)) ≡ false
  failed_alone h = by_test (eqb e 0) (λ t. rw (t, eq-eqb l 1 (h (eqb-true e 0 t))) refl) (λ t. rw t refl)

-- two numbers neither of which is below the other
pub same : (a b : ℕ) → (a < b → ⊥) → (b < a → ⊥) → a ≡ b
same a b f g =
    by_test (ltb a b) (λ t. absurd (f (ltb-true a b t)))
    (λ t. by_test (ltb b a) (λ u. absurd (g (ltb-true b a u))) (λ u. omega (arith, ltb-false a b t, ltb-false b a u)))

-- ---- one record

module _ (above : ℕ) (r : Record) where
  -- where none is broken all are kept
  pub kept_all : rule_broken above r ≡ done → (q : ℕ) → Kept above r q
  unfolding rule_broken
  kept_all z q =
      let (date, (filter, error)) = passed (faults above r) z in
      (λ _. at_most _ _ _ date, λ _. at_most _ _ _ filter, λ _. alone_failed r.error r.limit (test_failed _ _ error))

  -- and the other way
  pub all_kept : ((q : ℕ) → Kept above r q) → rule_broken above r ≡ done
  unfolding rule_broken
  all_kept h =
      let date = (h 1).0 refl in
      let filter = (h 2).1 refl in
      let error = (h 3).2 refl in
      all_pass (faults above r) (rw (le-ltb _ _ date) refl, (rw (le-ltb _ _ filter) refl, rw (failed_alone r.error r.limit error) refl))

  -- where one is broken, it is the first: those before it are kept
  pub rule_first : (rule_broken above r ≡ done → ⊥) → ((q : ℕ) → q < rule_broken above r → Kept above r q) × (Kept above r (rule_broken above r) → ⊥)
  unfolding rule_broken
  rule_first h = by (rule_broken above r) (refused_by (faults above r) h)
    where
      by : (k : ℕ) → Refused (faults above r) k → ((q : ℕ) → q < k → Kept above r q) × (Kept above r k → ⊥)
      by k (here t) =
          let e = test_true (ltb r.date above) 0 t in
          rw e (λ q h. (λ f. absurd (omega arith), λ f. absurd (omega arith), λ f. absurd (omega arith)), λ h. let a = h.0 refl in let b = ltb-true r.date above e in omega arith)
      by k (later z (here t)) =
          let e = test_true (ltb 9 r.filter) 1 t in
          let date = at_most _ _ _ z in
          rw e (λ q h. (λ _. date, λ f. absurd (omega arith), λ f. absurd (omega arith)), λ h. let a = h.1 refl in let b = ltb-true 9 r.filter e in omega arith)
      by k (later z (later y (here t))) =
          let e = test_true (eqb r.error 0 && not (eqb r.limit 1)) 2 t in
          let date = at_most _ _ _ z in
          let filter = at_most _ _ _ y in
          rw e (λ q h. (λ _. date, λ _. filter, λ f. absurd (omega arith)), λ h. false≢true (sym (failed_alone r.error r.limit (h.2 refl)) ∙ e))
      by k (later z (later y (later _ none))) = elim none [ ]

  -- and a number of which that holds is that rule's
  pub rule_unique : (k : ℕ) → ((q : ℕ) → q < k → Kept above r q) → (Kept above r k → ⊥) → rule_broken above r ≡ k
  rule_unique k before bad =
      let b = rule_broken above r in
      let (first, breaks) = rule_first (λ z. bad (kept_all z k)) in
      same b k (λ l. breaks (before b l)) (λ l. bad (first k l))

-- ---- a record among others

-- the date above record i, from 0: that of the record before it, or the date that stands above all
unfoldable pub date_above : ℕ → List Record → ℕ → ℕ
date_above above rs zero = above
date_above above rs (suc i) = (get_or rs i no_record).date

-- it keeps a rule below that date exactly if it keeps it as a record of a strip
pub to_keeps : (rs : List Record) (i q : ℕ) → Kept (date_above 0 rs i) (get_or rs i no_record) q → Keeps rs (suc i) q
unfolding date_above
to_keeps rs zero q (date, filter, error) = (λ e h. absurd (omega arith), filter, error)
to_keeps rs (suc i) q (date, filter, error) = simp unary_clauses (λ e h. date e, filter, error)

pub from_keeps : (rs : List Record) (i q : ℕ) → Keeps rs (suc i) q → Kept (date_above 0 rs i) (get_or rs i no_record) q
unfolding date_above
from_keeps rs zero q (date, filter, error) = (λ e. omega arith, filter, error)
from_keeps rs (suc i) q k = let (date, filter, error) = simp unary_clauses at k in (λ e. date e (omega arith), filter, error)
