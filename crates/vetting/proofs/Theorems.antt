-- What is promised of verdicts, in words of the rules.
use Prim.Native.Nat.{ℕ, zero, suc, ◌+◌, ◌<◌, ◌≤◌}
use mathlib.Core.Path.{◌≡◌, refl, sym, ap, ◌∙◌, subst}
use mathlib.Core.Logic.{◌↔◌}
use mathlib.Core.Bool.{Bool, true, false, cond, false≢true}
use mathlib.Core.List.{List, [], ◌∷◌}
use native.Mathlib.Omega.{arith}
use lib.Dec.{eqb}
use lib.ListN.{length, get_or}
use borrow.Author.Tests.{lt-ltb, le-ltb, eqb-true, eqb-false}
use Rattle.bits.specs.Refusals.{longest, done, too_long, if_done}
use Rattle.bits.proofs.TestLaws.{by_test}
use Rattle.bits.proofs.RefusalLaws.{if_refused, if_done_lem}
use Rattle.record.specs.declared.Record.{Record}
use Rattle.record.specs.Record.{no_record}
use Rattle.strip.specs.Strip.{all_fit, strip_bytes, records_of, tail_good}
use Rattle.strip.proofs.Theorems.{strip_there_and_back}
use Rattle.vetting.specs.Rules.{Keeps, AllKeep, AtFault}
use Rattle.vetting.specs.Verdicts.{Verdict, Fine, Broken, BadTail, Refused, rule_broken, verdict_from, verdict_on, verdict_of, told}
use Rattle.vetting.proofs.RuleLaws.{same, kept_all, all_kept, rule_first, rule_unique, date_above, to_keeps, from_keeps}

-- ---- what a verdict was found by

-- the rule that record i, from 0, breaks
abbrev breaks : ℕ → List Record → ℕ → ℕ
breaks above rs i = rule_broken (date_above above rs i) (get_or rs i no_record)

-- a verdict on records of which the first is number n: the tail's where none breaks a rule, else the first that does
data Found (n above : ℕ) (rs : List Record) (good : Bool) : Verdict → Type 0 where
  none : ((i : ℕ) → i < length rs → breaks above rs i ≡ done) → Found n above rs good (cond good Fine BadTail)
  at : (i : ℕ) → i < length rs → (breaks above rs i ≡ done → ⊥) → ((j : ℕ) → j < i → breaks above rs j ≡ done)
      → Found n above rs good (Broken (n + i) (breaks above rs i))

-- every verdict is found so
found : (n above : ℕ) (rs : List Record) (good : Bool) → Found n above rs good (verdict_from n above rs good)
unfolding verdict_from date_above
found n above [] good = none (λ i h. absurd (omega arith))
found n above (r ∷ rs) good = by_test (eqb (rule_broken above r) done) (kept (found (suc n) r.date rs good)) at_fault
  where
    -- the dates above the records behind the first
    shift : (i : ℕ) → breaks r.date rs i ≡ breaks above (r ∷ rs) (suc i)
    shift zero = refl
    shift (suc i) = refl

    -- those from the first on
    from_first : rule_broken above r ≡ done → (k : ℕ) → ((j : ℕ) → j < k → breaks r.date rs j ≡ done) → (j : ℕ) → j < suc k → breaks above (r ∷ rs) j ≡ done
    from_first z k h zero l = z
    from_first z k h (suc j) l = sym (shift j) ∙ h j (omega arith)

    -- what those behind the first are found by
    behind : rule_broken above r ≡ done → {v : Verdict} → Found (suc n) r.date rs good v → Found n above (r ∷ rs) good v
    behind z (none h) = none (from_first z (length rs) h)
    behind z (at i l b h) =
        let e : n + suc i ≡ suc n + i = omega arith in
        subst (Found n above (r ∷ rs) good) (λ k. Broken (e k) (sym (shift i) k)) (at (suc i) (omega arith) (λ y. b (shift i ∙ y)) (from_first z i h))

    -- where the first keeps the rules those behind it decide, else it does
    kept : Found (suc n) r.date rs good (verdict_from (suc n) r.date rs good) → eqb (rule_broken above r) done ≡ true
        → Found n above (r ∷ rs) good (if_done (rule_broken above r) (verdict_from (suc n) r.date rs good) (Broken n (rule_broken above r)))
    kept f t =
        let z = eqb-true _ _ t in
        subst (Found n above (r ∷ rs) good) (if_done_lem refl _ _ z) (behind z f)

    at_fault : eqb (rule_broken above r) done ≡ false → Found n above (r ∷ rs) good (if_done (rule_broken above r) (verdict_from (suc n) r.date rs good) (Broken n (rule_broken above r)))
    at_fault t =
        let h = eqb-false _ _ t in
        let e : n + 0 ≡ n = omega arith in
        subst (Found n above (r ∷ rs) good) (ap (λ (k : ℕ). Broken k (rule_broken above r)) e ∙ if_refused refl _ _ h) (at 0 (omega arith) h (λ j l. absurd (omega arith)))

-- ---- by the rules

module _ (rs : List Record) where
  -- records none of which breaks a rule keep them all
  none_broken : ((i : ℕ) → i < length rs → breaks 0 rs i ≡ done) → AllKeep rs
  none_broken h zero q one few = absurd (omega arith)
  none_broken h (suc i) q one few = to_keeps rs i q (kept_all _ _ (h i few) q)

  -- and the other way
  keep_none : AllKeep rs → (i : ℕ) → i < length rs → breaks 0 rs i ≡ done
  keep_none h i few = all_kept _ _ (λ q. from_keeps rs i q (h (suc i) q (omega arith) few))

  -- the first that breaks one is the first at fault
  first_broken : (i : ℕ) → i < length rs → (breaks 0 rs i ≡ done → ⊥) → ((j : ℕ) → j < i → breaks 0 rs j ≡ done) → AtFault rs (suc i) (breaks 0 rs i)
  first_broken i few some before =
      let (first, broken) = rule_first _ _ some in
      record {
        there = (omega arith, few);
        above = above;
        before = λ q h. to_keeps rs i q (first q h);
        broken = λ k. broken (from_keeps rs i _ k);
      }
    where
      above : (m q : ℕ) → 1 ≤ m → m < suc i → Keeps rs m q
      above zero q one h = absurd (omega arith)
      above (suc j) q one h = to_keeps rs j q (kept_all _ _ (before j (omega arith)) q)

-- which case a verdict is
unfoldable case_of : Verdict → ℕ
case_of Fine = 0
case_of (Broken n r) = 1
case_of BadTail = 2
case_of (Refused e) = 3

abbrev tail_verdict : Bool → Verdict
tail_verdict b = cond b Fine BadTail

-- a tail's is no fault, and tells the tail
tail_no_fault : (b : Bool) {n r : ℕ} → tail_verdict b ≡ Broken n r → ⊥
unfolding case_of
tail_no_fault true e = let z : ◌≡◌ {A = ℕ} 0 1 = ap case_of e in omega arith
tail_no_fault false e = let z : ◌≡◌ {A = ℕ} 2 1 = ap case_of e in omega arith

tail_same : (a b : Bool) → tail_verdict a ≡ tail_verdict b → a ≡ b
unfolding case_of
tail_same true true e = refl
tail_same false false e = refl
tail_same true false e = let z : ◌≡◌ {A = ℕ} 0 2 = ap case_of e in absurd (omega arith)
tail_same false true e = let z : ◌≡◌ {A = ℕ} 2 0 = ap case_of e in absurd (omega arith)

-- a fault's numbers
broken_number : {n r m q : ℕ} → Broken n r ≡ Broken m q → (n ≡ m) × (r ≡ q)
unfolding told
broken_number e = (ap (λ (v : Verdict). (told v).number) e, ap (λ (v : Verdict). (told v).rule) e)

module _ (rs : List Record) (good : Bool) where
  -- the tail decides exactly if every record keeps every rule
  pub all_verdict : AllKeep rs → verdict_on rs good ≡ tail_verdict good
  all_verdict all = by (found 1 0 rs good)
    where
      by : {v : Verdict} → Found 1 0 rs good v → v ≡ tail_verdict good
      by (none h) = refl
      by (at i few some before) = absurd (some (keep_none rs all i few))

  pub verdict_all : (b : Bool) → verdict_on rs good ≡ tail_verdict b → AllKeep rs × (good ≡ b)
  verdict_all b = by (found 1 0 rs good)
    where
      by : {v : Verdict} → Found 1 0 rs good v → v ≡ tail_verdict b → AllKeep rs × (good ≡ b)
      by (none h) e = (none_broken rs h, tail_same good b e)
      by (at i few some before) e = absurd (tail_no_fault b (sym e))

  -- a record and a rule are named exactly if they are the first at fault
  pub fault_verdict : (n r : ℕ) → AtFault rs n r → verdict_on rs good ≡ Broken n r
  fault_verdict zero r f = absurd (omega (arith, f.there.0))
  fault_verdict (suc i) r f = by (found 1 0 rs good)
    where
      rule : breaks 0 rs i ≡ r
      rule = rule_unique _ _ r (λ q h. from_keeps rs i q (f.before q h)) (λ k. f.broken (to_keeps rs i r k))

      some : breaks 0 rs i ≡ done → ⊥
      some z = f.broken (to_keeps rs i r (kept_all _ _ z r))

      above : (j : ℕ) → j < i → breaks 0 rs j ≡ done
      above j h = all_kept _ _ (λ q. from_keeps rs j q (f.above (suc j) q (omega arith) (omega arith)))

      by : {v : Verdict} → Found 1 0 rs good v → v ≡ Broken (suc i) r
      by (none h) = absurd (some (h i f.there.1))
      by (at k few other before) =
          let e : k ≡ i = same k i (λ l. other (above k l)) (λ l. some (before i l)) in
          ap (λ (j : ℕ). Broken (1 + j) (breaks 0 rs j)) e ∙ (λ j. Broken (one_more i j) (rule j))
        where
          one_more : (j : ℕ) → 1 + j ≡ suc j
          one_more j = omega arith

  pub verdict_fault : (n r : ℕ) → verdict_on rs good ≡ Broken n r → AtFault rs n r
  verdict_fault n r = by (found 1 0 rs good)
    where
      by : {v : Verdict} → Found 1 0 rs good v → v ≡ Broken n r → AtFault rs n r
      by (none h) e = absurd (tail_no_fault good e)
      by (at i few some before) e =
          let (number, rule) = broken_number e in
          let one : suc i ≡ n = omega arith in
          subst (λ (m : ℕ). AtFault rs m r) one (subst (AtFault rs (suc i)) rule (first_broken rs i few some before))

-- fault-one: no more than one record and one rule are the first at fault
pub fault_one : (rs : List Record) (n r m q : ℕ) → AtFault rs n r → AtFault rs m q → (n ≡ m) × (r ≡ q)
fault_one rs n r m q f g = broken_number (sym (fault_verdict rs true n r f) ∙ fault_verdict rs true m q g)

-- ---- the verdict on a strip

module _ (s : List ℕ) where
  verdict_long : longest < length s → verdict_of s ≡ Refused too_long
  unfolding verdict_of
  verdict_long h = rw (lt-ltb longest (length s) h) refl

  module _ (short : length s ≤ longest) where
    -- verdict-is: within the limit it is that on its records and its tail
    pub verdict_is : verdict_of s ≡ verdict_on (records_of s) (tail_good s)
    unfolding verdict_of
    verdict_is = rw (le-ltb longest (length s) short) refl

    -- tail-exactly: it is the tail's, good or bad, exactly if every record keeps every rule and the tail is so
    tail_exactly : (b : Bool) → (verdict_of s ≡ tail_verdict b) ↔ (AllKeep (records_of s) × (tail_good s ≡ b))
    tail_exactly b = (λ e. verdict_all (records_of s) (tail_good s) b (sym verdict_is ∙ e), λ (all, t). verdict_is ∙ all_verdict (records_of s) (tail_good s) all ∙ ap tail_verdict t)

    -- accepted-exactly: it is fine exactly if every record keeps every rule and the tail is good
    pub accepted_exactly : (verdict_of s ≡ Fine) ↔ (AllKeep (records_of s) × (tail_good s ≡ true))
    accepted_exactly = tail_exactly true

    -- bad-tail-exactly: a bad tail is told exactly if every record keeps every rule and the tail is bad
    pub bad_tail_exactly : (verdict_of s ≡ BadTail) ↔ (AllKeep (records_of s) × (tail_good s ≡ false))
    bad_tail_exactly = tail_exactly false

    -- fault-exactly: a record and a rule are named exactly if they are the first at fault
    pub fault_exactly : (n r : ℕ) → (verdict_of s ≡ Broken n r) ↔ AtFault (records_of s) n r
    fault_exactly n r =
        (λ e. verdict_fault (records_of s) (tail_good s) n r (sym verdict_is ∙ e), λ f. verdict_is ∙ fault_verdict (records_of s) (tail_good s) n r f)

-- strip-fine: the strip of records that fit and keep every rule is fine
pub strip_fine : (rs : List Record) → all_fit rs ≡ true → AllKeep rs → length (strip_bytes rs) ≤ longest → verdict_of (strip_bytes rs) ≡ Fine
strip_fine rs fit all short =
    let (records, tail) = strip_there_and_back rs fit in
    (accepted_exactly (strip_bytes rs) short).1 (subst AllKeep (sym records) all, tail)

-- ---- in numbers

-- told-exactly: the number is 1 past the limit and else 0; it is accepted exactly where it is fine; a record and a rule are told exactly
-- where they are named
pub told_exactly : (s : List ℕ) →
    let t = told (verdict_of s) in
    (longest < length s → t.refusal ≡ too_long)
    × (length s ≤ longest → t.refusal ≡ done)
    × ((t.accepted ≡ true) ↔ (verdict_of s ≡ Fine))
    × ((n r : ℕ) → 1 ≤ n → ((t.number ≡ n) × (t.rule ≡ r)) ↔ (verdict_of s ≡ Broken n r))
unfolding told
told_exactly s = (
  λ h. ap (λ (v : Verdict). (told v).refusal) (verdict_long s h),
  λ h. ap (λ (v : Verdict). (told v).refusal) (verdict_is s h) ∙ done_on (found 1 0 (records_of s) (tail_good s)),
  (told_fine (verdict_of s), λ e. ap (λ (v : Verdict). (told v).accepted) e),
  λ n r h. (λ (a, b). told_broken (verdict_of s) n r h a b, λ e. (ap (λ (v : Verdict). (told v).number) e, ap (λ (v : Verdict). (told v).rule) e)),
)
  where
    done_on : {good : Bool} {rs : List Record} {v : Verdict} → Found 1 0 rs good v → (told v).refusal ≡ done
    done_on {good} (none h) = by_test good (λ t. rw t refl) (λ t. rw t refl)
    done_on (at i few some before) = refl

    told_fine : (v : Verdict) → (told v).accepted ≡ true → v ≡ Fine
    told_fine Fine e = refl
    told_fine (Broken n r) e = absurd (false≢true e)
    told_fine BadTail e = absurd (false≢true e)
    told_fine (Refused k) e = absurd (false≢true e)

    told_broken : (v : Verdict) (n r : ℕ) → 1 ≤ n → (told v).number ≡ n → (told v).rule ≡ r → v ≡ Broken n r
    told_broken Fine n r h a b = absurd (omega arith)
    told_broken (Broken m q) n r h a b = λ i. Broken (a i) (b i)
    told_broken BadTail n r h a b = absurd (omega arith)
    told_broken (Refused k) n r h a b = absurd (omega arith)
