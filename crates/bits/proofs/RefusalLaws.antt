-- Laws of refusals that come one after the other, and of tables of them.
use Prim.Native.Nat.{ℕ, suc, ◌≤◌}
use mathlib.Core.Path.{◌≡◌, refl, sym, ap, ◌∙◌, subst}
use mathlib.Core.Bool.{Bool, true, false, cond, not}
use mathlib.Core.List.{List, [], ◌∷◌}
use lib.Dec.{eqb, ltb}
use native.Mathlib.Omega.{arith}
use borrow.Author.Tests.{eqb-true, eqb-false, eq-eqb, ne_eqb, ltb-false}
use Rattle.bits.proofs.TestLaws.{by_test}
use Rattle.std.specs.Prelude.{Result, Ok, Err}
use Rattle.std.specs.Result.{IsErrAnd}
use Rattle.std.proofs.lemmas.Result.{err_from_is_err_and}
use Rattle.bits.specs.declared.Refusal.{Refusal}
use Rattle.bits.specs.declared.Refusal.TheVariants as why
use Rattle.bits.specs.Refusals.{done, or_else, ◌⟶◌, first_refusal, if_done, number}
use Rattle.bits.specs.Refusals as N

module _ (a b : ℕ) where
  -- the first refusal wins
  pub or_else-first : (a ≡ done → ⊥) → or_else a b ≡ a
  unfolding or_else
  or_else-first h = rw (ne_eqb a 0 h)

  -- where there is none, the second decides
  pub or_else_second : a ≡ done → or_else a b ≡ b
  unfolding or_else
  or_else_second e = rw (eq-eqb a 0 e)

  -- done means that neither refuses
  pub or_else-done : or_else a b ≡ done → (a ≡ done) × (b ≡ done)
  unfolding or_else
  or_else-done e = by (eqb a 0) refl e
    where
      by : (t : Bool) → eqb a 0 ≡ t → cond t b a ≡ 0 → (a ≡ 0) × (b ≡ 0)
      by true p e = (eqb-true a 0 p, e)
      by false p e = absurd (eqb-false a 0 p e)

-- a refusal behind two is one behind the first of them
pub or_else-behind : (a b c : ℕ) → or_else a (or_else b c) ≡ or_else (or_else a b) c
or_else-behind a b c =
    by_test (eqb a done)
    (λ t. let z = eqb-true a done t in or_else_second a (or_else b c) z ∙ rw (or_else_second a b z) refl)
    (λ t. let h = eqb-false a done t in or_else-first a (or_else b c) h ∙ rw (or_else-first a b h) (sym (or_else-first a c h)))

-- ---- tables

-- no row of a table refuses
abbrev pub Passed : List ℕ → Type 0
Passed [] = done ≡ done
Passed (e ∷ []) = e ≡ done
Passed (e ∷ f ∷ es) = (e ≡ done) × Passed (f ∷ es)

-- a table that does not refuse: no row does
pub passed : (es : List ℕ) → first_refusal es ≡ done → Passed es
unfolding first_refusal
passed [] z = refl
passed (e ∷ []) z = z
passed (e ∷ f ∷ es) z = let (a, b) = or_else-done e (first_refusal (f ∷ es)) z in (a, passed (f ∷ es) b)

-- and the other way
pub all_pass : (es : List ℕ) → Passed es → first_refusal es ≡ done
unfolding first_refusal
all_pass [] p = refl
all_pass (e ∷ []) p = p
all_pass (e ∷ f ∷ es) (a, p) = or_else_second e (first_refusal (f ∷ es)) a ∙ all_pass (f ∷ es) p

-- a row that passes: its test fails
pub test_failed : (t : Bool) (k : ℕ) → (t ⟶ suc k) ≡ done → t ≡ false
test_failed true k z = absurd (omega arith)
test_failed false k z = refl

pub test_held : (t : Bool) (k : ℕ) → (not t ⟶ suc k) ≡ done → t ≡ true
test_held true k z = refl
test_held false k z = absurd (omega arith)

-- one that refuses: it holds
pub test_true : (t : Bool) (k : ℕ) → ((t ⟶ suc k) ≡ done → ⊥) → t ≡ true
test_true true k h = refl
test_true false k h = absurd (h refl)

pub at_most : (a b k : ℕ) → (ltb a b ⟶ suc k) ≡ done → b ≤ a
at_most a b k z = ltb-false a b (test_failed (ltb a b) k z)

-- the number of the first row that refuses: those before it pass
pub data Refused : List ℕ → ℕ → Type 0 where
  here : {e : ℕ} {es : List ℕ} → (e ≡ done → ⊥) → Refused (e ∷ es) e
  later : {e n : ℕ} {es : List ℕ} → e ≡ done → Refused es n → Refused (e ∷ es) n

-- a table that refuses does so by that number
pub refused_by : (es : List ℕ) → (first_refusal es ≡ done → ⊥) → Refused es (first_refusal es)
unfolding first_refusal
refused_by [] h = absurd (h refl)
refused_by (e ∷ []) h = here h
refused_by (e ∷ f ∷ es) h = by (eqb e done) refl (refused_by (f ∷ es))
  where
    by : (t : Bool) → eqb e done ≡ t → ((first_refusal (f ∷ es) ≡ done → ⊥) → Refused (f ∷ es) (first_refusal (f ∷ es)))
        → Refused (e ∷ f ∷ es) (or_else e (first_refusal (f ∷ es)))
    by true p others =
        let z = eqb-true e done p in
        let q = or_else_second e (first_refusal (f ∷ es)) z in
        subst (Refused (e ∷ f ∷ es)) (sym q) (later z (others (λ y. h (q ∙ y))))
    by false p others = let z = eqb-false e done p in subst (Refused (e ∷ f ∷ es)) (sym (or_else-first e (first_refusal (f ∷ es)) z)) (here z)

-- ---- outcomes

-- no refusal has the number of what is done
pub number_ne : (e : Refusal) → number e ≡ done → ⊥
number_ne why.TooLong z = omega arith
number_ne why.Foreign z = omega arith
number_ne why.TooWide z = omega arith
number_ne why.TooLarge z = omega arith
number_ne why.BadLayout z = omega arith
number_ne why.BadPlan z = omega arith
number_ne why.BadLine z = omega arith
number_ne why.NoRoom z = omega arith
number_ne why.TooFew z = omega arith
number_ne why.PastLookahead z = omega arith
number_ne why.BadRow z = omega arith
number_ne why.BadEnd z = omega arith
number_ne why.EndInByte z = omega arith
number_ne why.RetiredKind z = omega arith

-- a `?` hands the refusal on as it is
pub handed_on : {A : Type 0} (r : Result A Refusal) (e : Refusal) → IsErrAnd r (λ y. y ≡ e) → r ≡ Err e
handed_on r e h = let p = err_from_is_err_and r h in p.1 ∙ ap Err p.2

-- where it hands on what the first row of a table refuses, the table refuses so
pub first_handed : {A : Type 0} (r : Result A Refusal) (e : Refusal) (f g : ℕ) (es : List ℕ) → IsErrAnd r (λ y. y ≡ e) → number e ≡ f → N.number_of r ≡ first_refusal (f ∷ g ∷ es)
unfolding first_refusal
first_handed r e f g es h p = ap N.number_of (handed_on r e h) ∙ p ∙ sym (or_else-first f (first_refusal (g ∷ es)) (λ z. number_ne e (p ∙ z)))

-- where it hands on what all of a call is refused with
pub all_handed : {A : Type 0} (r : Result A Refusal) (e : Refusal) (f : ℕ) → IsErrAnd r (λ y. y ≡ e) → number e ≡ f → N.number_of r ≡ f
all_handed r e f h p = ap N.number_of (handed_on r e h) ∙ p

-- ---- what is told of an outcome determines it

-- the refusal with a number
unfoldable named : ℕ → Refusal
named n =
    cond (eqb n N.too_long) why.TooLong (cond (eqb n N.foreign) why.Foreign (cond (eqb n N.too_wide) why.TooWide (cond (eqb n N.too_large) why.TooLarge (cond (eqb n N.bad_layout) why.BadLayout (cond (eqb n N.bad_plan) why.BadPlan (cond (eqb n N.bad_line) why.BadLine (cond (eqb n N.no_room) why.NoRoom (cond (eqb n N.too_few) why.TooFew (cond (eqb n N.past_lookahead) why.PastLookahead (cond (eqb n N.bad_row) why.BadRow (cond (eqb n N.bad_end) why.BadEnd (cond (eqb n N.end_in_byte) why.EndInByte (why.RetiredKind)))))))))))))

named-number : (e : Refusal) → named (number e) ≡ e
unfolding named
named-number why.TooLong = refl
named-number why.Foreign = refl
named-number why.TooWide = refl
named-number why.TooLarge = refl
named-number why.BadLayout = refl
named-number why.BadPlan = refl
named-number why.BadLine = refl
named-number why.NoRoom = refl
named-number why.TooFew = refl
named-number why.PastLookahead = refl
named-number why.BadRow = refl
named-number why.BadEnd = refl
named-number why.EndInByte = refl
named-number why.RetiredKind = refl

-- no two refusals have one number
pub number_once : (e f : Refusal) → number e ≡ number f → e ≡ f
number_once e f p = sym (named-number e) ∙ ap named p ∙ named-number f

-- what is said of an outcome, its number among it, is said of no other, if no two values are said alike
pub once :
    {A B : Type 0} (say : Result A Refusal → B) (code : B → ℕ) →
    ((r : Result A Refusal) → code (say r) ≡ N.number_of r) → ((x y : A) → say (Ok x) ≡ say (Ok y) → x ≡ y)
    → (a b : Result A Refusal) → say a ≡ say b → a ≡ b
once say code numbered apart (Ok x) (Ok y) p = ap Ok (apart x y p)
once say code numbered apart (Ok x) (Err f) p = absurd (number_ne f (sym (sym (numbered (Ok x)) ∙ ap code p ∙ numbered (Err f))))
once say code numbered apart (Err e) (Ok y) p = absurd (number_ne e (sym (numbered (Err e)) ∙ ap code p ∙ numbered (Ok y)))
once say code numbered apart (Err e) (Err f) p = ap Err (number_once e f (sym (numbered (Err e)) ∙ ap code p ∙ numbered (Err f)))

pub told_once : {A : Type 0} (none : A) (a b : Result A Refusal) → N.told none a ≡ N.told none b → a ≡ b
told_once {A} none = once (N.told none) (λ (t : N.Told A). t.refusal) (elim [ Ok x ↦ refl | Err e ↦ refl ]) (λ x y p. ap (λ (t : N.Told A). t.value) p)

-- ---- answers

-- the number of an answer that has the refusal's, done or not
pub number_of : {X : Type 0} (number : X → ℕ) (e : ℕ) (x y : X) → number x ≡ done → number y ≡ e → number (if_done e x y) ≡ e
number_of number e x y p q = by_test (eqb e done) (λ t. rw t (p ∙ sym (eqb-true e done t))) (λ t. rw t q)

-- e is the number that the code finds for the refusal f
module _ {e f : ℕ} (found : e ≡ f) where
  -- the refusal decides between two
  module _ {X : Type 0} (x y : X) where
    pub if_refused : (e ≡ done → ⊥) → y ≡ if_done f x y
    if_refused h = rw (ne_eqb f done (λ z. h (found ∙ z)))

    pub if_done_lem : e ≡ done → x ≡ if_done f x y
    if_done_lem z = rw (eq-eqb f done (sym found ∙ z))

  -- and so the second part of an answer
  module _ {X Y : Type 0} (answer : ℕ → X → Y) (x y : X) where
    pub answer_refused : (e ≡ done → ⊥) → answer e y ≡ answer f (if_done f x y)
    answer_refused h = λ i. answer (found i) (if_refused x y h i)

    pub answer_done : e ≡ done → {u : X} → u ≡ x → answer done u ≡ answer f (if_done f x y)
    answer_done z p = λ i. answer ((sym z ∙ found) i) ((p ∙ if_done_lem x y z) i)

-- what holds of what came, and of the answer where the call is done, holds of the answer
pub if_holds : {X : Type 0} (P : X → Type 0) (e : ℕ) (x y : X) → P y → (e ≡ done → P (if_done e x y)) → P (if_done e x y)
if_holds P e x y came then =
    by_test (eqb e done) (λ t. then (eqb-true e done t)) (λ t. subst P (if_refused refl x y (eqb-false e done t)) came)

-- two calls that are refused alike give the same, if they do where they are done and where they are not
pub if_alike : {X : Type 0} {a b : ℕ} {x y u v : X} → a ≡ b → (a ≡ done → x ≡ y) → u ≡ v → if_done a x u ≡ if_done b y v
if_alike {a = a} {b = b} e p q =
    by_test (eqb a done)
    (λ t. let z = eqb-true a done t in rw (t, eq-eqb b done (sym e ∙ z)) (p z))
    (λ t. rw (t, ne_eqb b done (λ z. eqb-false a done t (e ∙ z))) q)
