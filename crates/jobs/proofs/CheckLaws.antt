-- Laws of the check job: what its answer is, and that the line for a verdict is the job's.
use Prim.Native.Nat.{ℕ, zero, suc, ◌<◌, ◌≤◌}
use mathlib.Core.Path.{◌≡◌, refl, sym, ap, ◌∙◌}
use mathlib.Core.Bool.{true, false}
use mathlib.Core.List.{List, [], ◌∷◌, ◌++◌, map}
use lib.ListN.{length, get_or, length-append, length-map}
use lib.Dec.{ltb}
use native.Mathlib.Omega.{arith}
use borrow.Author.Tests.{lt-ltb, le-ltb, ltb-true, ltb-false}
use Rattle.bits.proofs.TestLaws.{by_test}
use Rattle.print.specs.Print.{places, whole_of}
use Rattle.print.proofs.DigitLaws.{places_few}
use Rattle.print.proofs.StoreLaws.{part-size}
use Rattle.record.specs.declared.Record.{Record}
use Rattle.record.specs.Record.{no_record}
use Rattle.line.specs.Grammar.{Parts, meant, unrounded, Good}
use Rattle.line.proofs.Theorems.{dates_in_order}
use Rattle.strip.specs.Strip.{count_of, records_of, tail_good}
use Rattle.strip.proofs.PackedLaws.{records_count}
use Rattle.vetting.specs.Rules.{Keeps, AllKeep, AtFault}
use Rattle.vetting.specs.Verdicts.{Verdict, Fine, Broken, BadTail, Refused, verdict_on, verdict_of}
use Rattle.vetting.proofs.RuleLaws.{date_above, to_keeps, from_keeps}
use Rattle.vetting.proofs.Theorems.{verdict_is, accepted_exactly, bad_tail_exactly, fault_exactly}
use Rattle.text.specs.Text.{bad_tail}
use Rattle.text.specs.Grammar.{all_meant, AllGood, and}
use Rattle.text.proofs.HeaderLaws.{length-bad_tail}
use Rattle.text.proofs.BadLineLaws.{meant-count}
use Rattle.jobs.specs.Jobs.{most_taken, too_long_said, ok_said, fault_said, verdict_said, check_answer}
use Rattle.jobs.proofs.MessageLaws.{record_bytes, rule_bytes, too_long_is, ok_is, fault_is, numbered_few}

-- a rule that is broken is one of the three
rule_few : (rs : List Record) (n r : ℕ) → (Keeps rs n r → ⊥) → r ≤ 3
rule_few rs n r h =
    by_test (ltb 3 r)
    (λ t. let l = ltb-true 3 r t in absurd (h (λ e. absurd (omega arith), λ e. absurd (omega arith), λ e. absurd (omega arith))))
    (λ t. ltb-false 3 r t)

module _ (s : List ℕ) where
  pub check_long : most_taken < length s → check_answer s ≡ too_long_said
  unfolding check_answer
  check_long h = rw (lt-ltb most_taken (length s) h)

  module _ (h : length s ≤ most_taken) where
    -- the verdict on its records and its tail is the strip's
    pub vetted : {v : Verdict} → v ≡ verdict_on (records_of s) (tail_good s) → v ≡ verdict_of s
    vetted e = e ∙ sym (verdict_is s (omega arith))

    pub check_short : {v : Verdict} → v ≡ verdict_of s → check_answer s ≡ verdict_said v
    unfolding check_answer
    check_short e = rw (le-ltb most_taken (length s) h) (ap verdict_said (sym e))

    -- the number of a record at fault is that of a record, and its rule one of three
    pub fault_small : {n r : ℕ} → Broken n r ≡ verdict_of s → (n ≤ count_of s) × (r ≤ 3)
    fault_small {n} {r} e =
        let f = (fault_exactly s (omega arith) n r).0 (sym e) in
        let c = records_count s 0 (count_of s) in
        (omega (arith, f.there.1), rule_few (records_of s) n r f.broken)

    -- the line for each verdict
    pub check_ok : AllKeep (records_of s) → tail_good s ≡ true → check_answer s ≡ ok_said
    unfolding verdict_said
    check_ok all good = check_short (sym ((accepted_exactly s (omega arith)).1 (all, good)))

    pub check_fault : (n r : ℕ) → AtFault (records_of s) n r → check_answer s ≡ fault_said n r
    unfolding verdict_said
    check_fault n r f = check_short (sym ((fault_exactly s (omega arith) n r).1 f))

    pub check_tail : AllKeep (records_of s) → tail_good s ≡ false → check_answer s ≡ bad_tail
    unfolding verdict_said
    check_tail all bad = check_short (sym ((bad_tail_exactly s (omega arith)).1 (all, bad)))

    -- how long an answer can be
    pub check_few : length (check_answer s) ≤ 34
    unfolding verdict_said
    check_few = by (verdict_of s) refl
      where
        fault_few : (n r : ℕ) → n ≤ count_of s → r ≤ 3 → length (fault_said n r) ≤ 34
        fault_few n r a b =
            let e = ap length (fault_is n r) in
            let part = part-size (places n) n 32 in
            let digits = places_few 9 9 n (omega arith) in
            let front = length-append (whole_of n ++ 32 ∷ []) rule_bytes in
            let few = numbered_few ((record_bytes ++ (whole_of n ++ 32 ∷ [])) ++ rule_bytes) r (omega arith) in
            omega arith

        by : (v : Verdict) → v ≡ verdict_of s → length (check_answer s) ≤ 34
        by Fine e = let a = ap length (check_short e ∙ ok_is) in omega arith
        by (Broken n r) e = let (few, rule) = fault_small e in let a = ap length (check_short e) in let b = fault_few n r few rule in omega arith
        by BadTail e = let a = ap length (check_short e) in let b = length-bad_tail in omega arith
        by (Refused k) e = let a = ap length (check_short e ∙ too_long_is) in omega arith

-- ---- lines

-- line i: what it says unrounded, and its record
at_line : (ps : List Parts) → AllGood ps → (i : ℕ) → i < length ps
    → (p : Parts) × Good p × (get_or (map unrounded ps) i no_record ≡ unrounded p) × (get_or (all_meant ps) i no_record ≡ meant p)
unfolding all_meant
at_line [] good i few = absurd (omega arith)
at_line (p ∷ ps) (and g good) zero few = (p, g, refl, refl)
at_line (p ∷ ps) (and g good) (suc i) few = at_line ps good i (omega arith)

-- dates of two of them
in_order : {a b c d : Record} (p q : Parts) → Good p → Good q → a ≡ unrounded p → b ≡ unrounded q → c ≡ meant p → d ≡ meant q
    → a.date ≤ b.date → c.date ≤ d.date
in_order p q good-p good-q a b c d h =
    let date : Record → ℕ = λ (r : Record). r.date in
    let le = dates_in_order p q good-p good-q (omega (arith, ap date a, ap date b, h)) in
    omega (arith, ap date c, ap date d, le)

module _ (ps : List Parts) (good : AllGood ps) where
  -- a date not before the one above it is so once both are rounded
  date_kept : (i : ℕ) → i < length ps → date_above 0 (map unrounded ps) i ≤ (get_or (map unrounded ps) i no_record).date
      → date_above 0 (all_meant ps) i ≤ (get_or (all_meant ps) i no_record).date
  unfolding date_above
  date_kept zero few h = omega arith
  date_kept (suc i) few h =
      let (p, good-p, said-p, named-p) = at_line ps good i (omega arith) in
      let (q, good-q, said-q, named-q) = at_line ps good (suc i) few in
      in_order p q good-p good-q said-p said-q named-p named-q h

  -- lines_keep: lines that keep the rules as they are spelled name records that keep them
  pub lines_keep : AllKeep (map unrounded ps) → AllKeep (all_meant ps)
  lines_keep all zero r one few = absurd (omega arith)
  lines_keep all (suc i) r one few =
      let there : i < length ps = omega (arith, few, meant-count ps) in
      let (date, filter, error) = from_keeps (map unrounded ps) i r (all (suc i) r one (omega (arith, there, length-map ps unrounded))) in
      let (p, _, said, named) = at_line ps good i there in
      let same : (f : Record → ℕ) → f (unrounded p) ≡ f (meant p) → f (get_or (map unrounded ps) i no_record) ≡ f (get_or (all_meant ps) i no_record) =
      λ f e. ap f said ∙ e ∙ sym (ap f named) in
      to_keeps (all_meant ps) i r (
        λ e. date_kept i there (date e),
        λ e. omega (arith, filter e, same (λ (x : Record). x.filter) refl),
        λ e z. sym (same (λ (x : Record). x.limit) refl) ∙ error e (same (λ (x : Record). x.error) refl ∙ z),
      )
