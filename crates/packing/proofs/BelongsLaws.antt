-- Laws of belonging: the test and the statement, and what is not refused.
use mathlib.Core.Path.{◌≡◌}
use Prim.Native.Nat.{ℕ, ◌*◌, ◌^◌, ◌<◌, ◌≤◌}
use mathlib.Core.Bool.{true, false, and-false}
use lib.Dec.{ltb}
use borrow.Author.Tests.{ltb-true, leb-true, le-ltb, lt-ltb, le-leb, lt-leb}
use Rattle.bits.specs.Refusals.{longest, done, or_else, first_refusal}
use Rattle.bits.proofs.TestLaws.{both}
use Rattle.bits.proofs.RefusalLaws.{passed, test_held, at_most}
use Rattle.packing.specs.declared.State.{State}
use Rattle.packing.specs.Packing.{bits_written, belongs, Belongs, state_refusal}

module _ (len : ℕ) (c : State) where
  -- the test, decided by what fails first or by the last of its parts
  pub many_held : 7 < c.held → belongs len c ≡ false
  unfolding belongs
  many_held h = simp (lt-leb _ _ h, and-false)

  pub past_the_end : 8 * len < bits_written c → belongs len c ≡ false
  unfolding belongs
  past_the_end h = simp (lt-leb _ _ h)

  pub belongs_if_small : bits_written c ≤ 8 * len → c.held ≤ 7 → belongs len c ≡ ltb c.number (2 ^ c.held)
  unfolding belongs
  belongs_if_small h l = simp (le-leb _ _ h, le-leb _ _ l)

  pub belongs-true : belongs len c ≡ true → len ≤ longest → Belongs len c
  unfolding belongs
  belongs-true e h =
      let (within, e₁) = both e in
      let (few, small) = both e₁ in
      record { short = h; within = leb-true _ _ within; few = leb-true _ _ few; small = ltb-true _ _ small }

  -- a writer that is not refused belongs
  pub refusal_belongs : state_refusal len c ≡ done → Belongs len c
  unfolding state_refusal
  refusal_belongs z = let (short, of) = passed _ z in belongs-true (test_held _ _ of) (at_most _ _ _ short)

  -- and the other way
  pub belongs_refusal : Belongs len c → state_refusal len c ≡ done
  unfolding state_refusal belongs first_refusal or_else
  belongs_refusal h = simp (le-ltb _ _ h.short, le-leb _ _ h.few, le-leb _ _ h.within, lt-ltb _ _ h.small)
