-- `check` meets its contract: a cursor is refused as its state is, and then for its end. Assumes nothing.
use Prim.Native.Nat.{ℕ}
use mathlib.Core.Path.{◌≡◌, sym, ap, ◌∙◌}
use mathlib.Core.List.{List}
use native.Mathlib.Omega.{arith}
use borrow.Author.Tests.{lt-ltb, le-ltb}
use Rattle.bits.specs.declared.Order.{Order}
use Rattle.bits.specs.Refusals.{done, or_else, first_refusal}
use Rattle.bits.proofs.RefusalLaws.{first_handed}
use Rattle.lookahead.specs.declared.State.{State}
use Rattle.lookahead.specs.State.{state_refusal, Belongs}
use Rattle.lookahead.proofs.StateLaws.{refusal_belongs}
use Rattle.reader.specs.Cursor.{cursor_refusal}
use Rattle.reader.proofs.inner.check.Goals as goal

-- the state that is tested is the cursor's, so what is told of it is told of the cursor
module _ (o : Order) (s : List ℕ) {t u : State} (same : t ≡ u) where
  told : {n : ℕ} → n ≡ state_refusal o s t → n ≡ state_refusal o s u
  told p = p ∙ ap (state_refusal o s) same

  owned : done ≡ state_refusal o s t → Belongs o s u
  owned p = refusal_belongs _ _ _ (sym (p ∙ ap (state_refusal o s) same))

pub returns-in_err-check : goal.returns-in_err-check
unfolding cursor_refusal
returns-in_err-check c = first_handed _ _ _ _ _ c.from_residual.ensures.1 (told _ _ c.state_in.ensures c.in_err-check.ensures)

pub overflow_mul-c : goal.overflow_mul-c
overflow_mul-c c = let h = owned _ _ c.state_in.ensures c.in_ok-check.ensures in omega (arith, h.within.fetched, h.short)

pub overflow_sub-c : goal.overflow_sub-c
overflow_sub-c c = (owned _ _ c.state_in.ensures c.in_ok-check.ensures).within.behind

pub returns-then-c : goal.returns-then-c
unfolding cursor_refusal first_refusal or_else
returns-then-c c = rw (← told _ _ c.state_in.ensures c.in_ok-check.ensures, lt-ltb _ _ c.if-c.true)

pub overflow_mul-src : goal.overflow_mul-src
overflow_mul-src c = let h = owned _ _ c.state_in.ensures c.in_ok-check.ensures in omega (arith, h.short)

pub returns-then-src-c : goal.returns-then-src-c
unfolding cursor_refusal first_refusal or_else
returns-then-src-c c = rw (← told _ _ c.state_in.ensures c.in_ok-check.ensures, le-ltb _ _ c.if-c.false, lt-ltb _ _ c.if-src-c.true)

pub returns : goal.returns
unfolding cursor_refusal first_refusal or_else
returns c = rw (← told _ _ c.state_in.ensures c.in_ok-check.ensures, le-ltb _ _ c.if-c.false, le-ltb _ _ c.if-src-c.false)
