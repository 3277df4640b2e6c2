-- The verdict on a strip, on every input, and what each of its cases says in numbers.
use Rattle.std.specs.Prelude.{ℕ, suc, Option, Some, None, Result, Ok, Err, Bool, true, false, cond, not, ◌&&◌, List, [], ◌∷◌, length, eqb, ltb}
use Rattle.bits.specs.declared.Refusal.{Refusal}
use Rattle.bits.specs.Refusals.{number, longest, done, too_long, ◌⟶◌, first_refusal, if_done}
use Rattle.record.specs.declared.Record.{Record}
use Rattle.strip.specs.Strip.{records_of, tail_good}
use Rattle.vetting.specs.declared.Rule.{Rule}
use Rattle.vetting.specs.declared.Rule.TheVariants as which
use Rattle.vetting.specs.declared.Verdict as D
use Rattle.vetting.specs.declared.Verdict.TheVariants as case

-- what is said of a strip: it is fine; record n breaks rule r, both by their numbers from 1; its tail is bad; or it is refused
pub data Verdict : Type 0 where
  Fine : Verdict
  Broken : ℕ → ℕ → Verdict
  BadTail : Verdict
  Refused : ℕ → Verdict

-- the number of a rule
abbrev pub rule_number : Rule → ℕ
rule_number which.Date = 1
rule_number which.Filter = 2
rule_number which.Error = 3

-- that of the rule that is broken, 0 where none is
abbrev pub rule_told : Option Rule → ℕ
rule_told None = 0
rule_told (Some r) = rule_number r

-- a verdict, said so
abbrev pub said : D.Verdict → Verdict
said case.Fine = Fine
said (case.Broken n r) = Broken n (rule_number r)
said case.BadTail = BadTail

-- and the outcome of a call for one
abbrev pub verdict_told : Result D.Verdict Refusal → Verdict
verdict_told (Ok v) = said v
verdict_told (Err e) = Refused (number e)

-- a record's faults as a table: the number of each rule that it breaks, below one of a date
abbrev pub faults : ℕ → Record → List ℕ
faults above r =
    ltb r.date above ⟶ 1
    ∷ ltb 9 r.filter ⟶ 2
    ∷ (eqb r.error 0 && not (eqb r.limit 1)) ⟶ 3
    ∷ []

-- the first of them; 0 where it keeps all
unfoldable pub rule_broken : ℕ → Record → ℕ
rule_broken above r = first_refusal (faults above r)

-- the verdict on records of which the first is number n, below one of a date, where the tail is good or bad
unfoldable pub verdict_from : ℕ → ℕ → List Record → Bool → Verdict
verdict_from n above [] good = cond good Fine BadTail
verdict_from n above (r ∷ rs) good =
    if_done (rule_broken above r) (verdict_from (suc n) r.date rs good) (Broken n (rule_broken above r))

-- on all of them: no date is before 0, so that the first can't be before one above it
abbrev pub verdict_on : List Record → Bool → Verdict
verdict_on = verdict_from 1 0

-- the verdict on a strip; 1 refuses one past the limit
unfoldable pub verdict_of : List ℕ → Verdict
verdict_of s = cond (ltb longest (length s)) (Refused too_long) (verdict_on (records_of s) (tail_good s))

-- a verdict in numbers: the refusal; the record and the rule at fault, 0 for none; whether the strip is accepted
pub record Told : Type 0 where
  pub refusal : ℕ
  pub number : ℕ
  pub rule : ℕ
  pub accepted : Bool

-- those of each case
unfoldable pub told : Verdict → Told
told Fine = record { refusal = done; number = 0; rule = 0; accepted = true }
told (Broken n r) = record { refusal = done; number = n; rule = r; accepted = false }
told BadTail = record { refusal = done; number = 0; rule = 0; accepted = false }
told (Refused e) = record { refusal = e; number = 0; rule = 0; accepted = false }
