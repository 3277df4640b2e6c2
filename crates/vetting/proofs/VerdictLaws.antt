-- Laws of verdicts on records one behind the other.
use Prim.Native.Nat.{ℕ, suc, ◌+◌, ◌-◌, ◌/◌, ◌%◌, ◌^◌, ◌<◌, ◌≤◌}
use mathlib.Core.Path.{◌≡◌, refl, sym, ap, ◌∙◌}
use mathlib.Core.Bool.{Bool, cond}
use mathlib.Core.List.{List}
use native.Mathlib.Omega.{arith}
use lib.IntN.{pos}
use Rattle.bits.specs.declared.Order.TheVariants.{Big}
use Rattle.bits.specs.Refusals.{done, if_done}
use Rattle.bits.specs.Field.{field}
use Rattle.bits.proofs.RefusalLaws.{if_refused, if_done_lem}
use Rattle.record.specs.Record.{record_bits}
use Rattle.strip.specs.Bits.{record_at}
use Rattle.strip.specs.Strip.{records_from}
use Rattle.strip.proofs.BitsLaws.{record_in_lem}
use Rattle.vetting.specs.declared.Rule.{Rule}
use Rattle.vetting.specs.declared.Rule.TheVariants as which
use Rattle.vetting.specs.Verdicts.{rule_number, Fine, Broken, BadTail, rule_broken, verdict_from}

-- no rule has the number of none
pub rule_ne : (r : Rule) → rule_number r ≡ done → ⊥
rule_ne which.Date z = omega arith
rule_ne which.Filter z = omega arith
rule_ne which.Error z = omega arith

-- the rule that the record at a place breaks, by its date and the 31 bits behind it
pub rule_in :
    (s : List ℕ) (p above : ℕ) {date rest : ℕ} → date ≡ field Big s (p + 20) 38 → rest ≡ field Big s (p + 58) 31 →
    rule_broken above (record { star = 0; date = date; limit = rest / 2 ^ 30; magnitude = pos 0; error = rest / 2 ^ 4 % 2 ^ 10; filter = rest % 2 ^ 4 })
    ≡ rule_broken above (record_at s p)
unfolding rule_broken
rule_in s p above date rest = ap (rule_broken above) (record_in_lem s p refl date rest)

-- its date
pub date_in : (s : List ℕ) (p : ℕ) {date : ℕ} → date ≡ field Big s (p + 20) 38 → date ≡ (record_at s p).date
unfolding record_at
date_in s p e = e

module _ (s : List ℕ) (count i p above : ℕ) (good : Bool) where
  -- where a record is left, it decides, or those behind it do
  pub next_verdict : i < count →
      let r = record_at s p in
      verdict_from (i + 1) above (records_from s p (count - i)) good
      ≡ if_done (rule_broken above r) (verdict_from (i + 1 + 1) r.date (records_from s (p + record_bits) (count - (i + 1))) good) (Broken (i + 1) (rule_broken above r))
  unfolding verdict_from records_from
  next_verdict h =
      let e : count - i ≡ suc (count - (i + 1)) = omega arith in
      let f : suc (i + 1) ≡ i + 1 + 1 = omega arith in
      let r = record_at s p in
      ap (λ (n : ℕ). verdict_from (i + 1) above (records_from s p n) good) e
      ∙ ap (λ (k : ℕ). if_done (rule_broken above r) (verdict_from k r.date (records_from s (p + record_bits) (count - (i + 1))) good) (Broken (i + 1) (rule_broken above r))) f

  -- where none is, the tail does
  pub last_verdict : count ≤ i → verdict_from (i + 1) above (records_from s p (count - i)) good ≡ cond good Fine BadTail
  unfolding verdict_from records_from
  last_verdict h =
      let e : count - i ≡ 0 = omega arith in
      ap (λ (n : ℕ). verdict_from (i + 1) above (records_from s p n) good) e

  -- a rule that is found to be broken is told
  pub told_broken : {r : ℕ} → i < count → r ≡ rule_broken above (record_at s p) → (r ≡ done → ⊥) → Broken (i + 1) r ≡ verdict_from (i + 1) above (records_from s p (count - i)) good
  told_broken more found some = ap (Broken (i + 1)) found ∙ if_refused found _ _ some ∙ sym (next_verdict more)

  -- where none is, those behind decide, below this record's date
  pub told_behind :
      {date : ℕ} → i < count → done ≡ rule_broken above (record_at s p) → date ≡ (record_at s p).date →
      verdict_from (i + 1 + 1) date (records_from s (p + record_bits) (count - (i + 1))) good ≡ verdict_from (i + 1) above (records_from s p (count - i)) good
  told_behind more found date =
      ap (λ (d : ℕ). verdict_from (i + 1 + 1) d (records_from s (p + record_bits) (count - (i + 1))) good) date ∙ if_done_lem found _ _ refl ∙ sym (next_verdict more)
