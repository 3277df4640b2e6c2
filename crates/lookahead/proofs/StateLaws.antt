-- Laws of states: which belong to a slice, and what loading, peeking, consuming, refilling and reading give.
use Prim.Native.Nat.{ℕ, ◌+◌, ◌-◌, ◌*◌, ◌/◌, ◌%◌, ◌^◌, ◌<◌, ◌≤◌}
use mathlib.Core.Path.{◌≡◌, refl, sym, ap, ap₂, ◌∙◌, subst}
use mathlib.Core.List.{List}
use mathlib.Core.Bool.{true}
use lib.ListN.{length, get_or}
use lib.Dec.{ltb, eqb}
use native.Mathlib.Omega.{arith}
use borrow.Author.Tests.{leb-true, eqb-true, le-leb, le-ltb, eq-eqb}
use Rattle.bits.specs.declared.Order.{Order}
use Rattle.bits.specs.Refusals.{longest, done}
use Rattle.bits.proofs.TestLaws.{both}
use Rattle.bits.proofs.RefusalLaws.{passed, all_pass, test_held, at_most}
use Rattle.bits.specs.Field.{field, join}
use Rattle.bits.specs.Word.{first, rest, held, skipped}
use Rattle.bits.proofs.FieldLaws.{field_split, field_byte, byte_rest}
use Rattle.bits.proofs.WordLaws.{first-held, skipped-held, skipped-field, last_held}
use Rattle.counts.specs.declared.Counts.{Counts}
use Rattle.counts.specs.Counts.{place, Within, after_refill, after_take, refill_if}
use Rattle.counts.proofs.CountLaws.{if_place, short_counts}
use Rattle.lookahead.specs.declared.State.{State}
use Rattle.lookahead.specs.declared.Taken.{Taken}
use Rattle.lookahead.specs.State.{register_of, counts_of, state_of, belongs, Belongs, state_refusal, taken_of, inside}

-- ---- states that belong to a slice

module _ (o : Order) (s : List ℕ) (c : State) where
  pub belongs-true : length s ≤ longest → belongs o s c ≡ true → Belongs o s c
  unfolding belongs
  belongs-true h e =
      let (fetched, e₁) = both e in
      let (small, e₂) = both e₁ in
      let (behind, same) = both e₂ in
      record {
        short = h;
        within = record { fetched = leb-true _ _ fetched; small = leb-true _ _ small; behind = leb-true _ _ behind };
        holds = eqb-true _ _ same;
      }

  -- counts within the slice leave only the register to compare
  pub belongs_register : Within (length s) (counts_of c) → eqb c.register (register_of o s (counts_of c)) ≡ belongs o s c
  unfolding belongs
  belongs_register h = rw (le-leb _ _ h.fetched, le-leb _ _ h.small, le-leb _ _ h.behind)

  -- a state that is not refused belongs to the slice
  pub refusal_belongs : state_refusal o s c ≡ done → Belongs o s c
  unfolding state_refusal
  refusal_belongs z = let (short, of) = passed _ z in belongs-true (at_most _ _ _ short) (test_held _ _ of)

  -- and the other way
  pub belongs_refusal : Belongs o s c → state_refusal o s c ≡ done
  unfolding state_refusal
  belongs_refusal h = all_pass _ (rw (le-ltb _ _ h.short), rw (← belongs_register h.within, eq-eqb _ _ h.holds))

-- a state that belongs is the one with its counts
pub belongs_is : {o : Order} {s : List ℕ} {c : State} → Belongs o s c → c ≡ state_of o s (counts_of c)
belongs_is {c} h = λ i. record { offset = c.offset; lookahead = c.lookahead; register = h.holds i }

-- what taking n bits from the state with counts k gives
abbrev pub Took : Order → List ℕ → Counts → ℕ → Taken → Type 0
Took o s k n r = (r.value ≡ field o s (place k) n) × (r.state ≡ state_of o s (after_take n k))

module _ (o : Order) (s : List ℕ) {k : Counts} where
  pub state_belongs : length s ≤ longest → Within (length s) k → Belongs o s (state_of o s k)
  state_belongs short h = record { short = short; within = h; holds = refl }

  -- for a state that is the one with counts k
  module _ {c : State} (e : c ≡ state_of o s k) where
    pub is_belongs : length s ≤ longest → Within (length s) k → Belongs o s c
    is_belongs short h = subst (Belongs o s) (sym e) (state_belongs short h)

    pub is_counts : counts_of c ≡ k
    is_counts = ap counts_of e

    -- n bits may be taken
    pub is_ready : length s ≤ longest → Within (length s) k → {n : ℕ} → n ≤ k.lookahead → Belongs o s c × (n ≤ c.lookahead)
    is_ready short h {n} a = (is_belongs short h, subst (λ (j : Counts). n ≤ j.lookahead) (sym is_counts) a)

    -- they were taken
    pub is_took : (n : ℕ) (r : Taken) → Took o s (counts_of c) n r → Took o s k n r
    is_took n r t = subst (λ (j : Counts). Took o s j n r) is_counts t

-- ---- registers as the code computes them

-- the last n bits of byte i
pub last_bits : (o : Order) (s : List ℕ) (i n : ℕ) → get_or s i 0 < 2 ^ 8 → n ≤ 8 → rest o (8 - n) n (get_or s i 0) ≡ field o s (8 * (i + 1) - n) n
last_bits o s i n b h =
    let l : 8 - n ≤ 8 = omega arith in
    let e : n ≡ 8 - (8 - n) = omega arith in
    let q : 8 * i + (8 - n) ≡ 8 * (i + 1) - n = omega arith in
    ap (λ (k : ℕ). rest o (8 - n) k (get_or s i 0)) e ∙ byte_rest o s i (8 - n) b l ∙ ap₂ (field o s) q (sym e)

-- the bits before byte i, and the byte
pub byte_behind : (o : Order) (s : List ℕ) (i n : ℕ) → get_or s i 0 < 2 ^ 8 → n ≤ 8 * i →
    join o n 8 (field o s (8 * i - n) n) (get_or s i 0) ≡ field o s (8 * (i + 1) - (n + 8)) (n + 8)
byte_behind o s i n b h =
    let e : 8 * i - n + n ≡ 8 * i = omega arith in
    let q : 8 * i - n ≡ 8 * (i + 1) - (n + 8) = omega arith in
    ap (join o n 8 (field o s (8 * i - n) n)) (sym (field_byte o s i b) ∙ ap (λ (p : ℕ). field o s p 8) (sym e))
    ∙ sym (field_split o s (8 * i - n) n 8)
    ∙ ap (λ (p : ℕ). field o s p (n + 8)) q

module _ (o : Order) (s : List ℕ) {k : Counts} (h : Within (length s) k) where
  -- the last bits of the eight bytes before the offset
  pub far_register : 8 ≤ k.offset → skipped o (63 - k.lookahead) (skipped o 1 (field o s (8 * (k.offset - 8)) 64)) ≡ register_of o s k
  unfolding register_of
  far_register a =
      let e : 8 * (k.offset - 8) + (64 - k.lookahead) ≡ place k = omega arith in
      last_held o s (8 * (k.offset - 8)) k.lookahead h.small ∙ ap (λ (p : ℕ). held o k.lookahead (field o s p k.lookahead)) e

  -- the same by one move, where some bits are held
  pub full_register : 8 ≤ k.offset → 1 ≤ k.lookahead → skipped o (64 - k.lookahead) (field o s (8 * (k.offset - 8)) 64) ≡ register_of o s k
  unfolding register_of
  full_register a b =
      let l : 64 - (64 - k.lookahead) ≡ k.lookahead = omega (arith, h.small) in
      let e : 8 * (k.offset - 8) + (64 - k.lookahead) ≡ place k = omega (arith, h.small, h.behind) in
      skipped-field o s (8 * (k.offset - 8)) (64 - k.lookahead) (omega arith)
      ∙ ap₂ (λ (p n : ℕ). held o n (field o s p n)) e l

-- what it says of counts that they are inside
pub inside_is : (len : ℕ) (k : Counts) → inside len k ≡ true → (len ≤ longest) × (k.offset + 8 ≤ len) × (8 ≤ k.offset) × (k.lookahead ≤ 63)
unfolding inside
inside_is len k e =
    let (short, e₁) = both e in
    let (more, e₂) = both e₁ in
    let (less, small) = both e₂ in
    (leb-true _ _ short, leb-true _ _ more, leb-true _ _ less, leb-true _ _ small)

-- a refill with eight bytes to fetch from
pub inside_counts : (len : ℕ) (k : Counts) → k.offset + 8 ≤ len → k.lookahead ≤ 63 →
    record { offset = k.offset + (63 - k.lookahead) / 8; lookahead = 56 + k.lookahead % 8 } ≡ after_refill len k
inside_counts len k a b =
    let e : k.offset + (63 - k.lookahead) / 8 ≡ (after_refill len k).offset = omega arith in
    let f : 56 + k.lookahead % 8 ≡ (after_refill len k).lookahead = omega arith in
    λ i. record { offset = e i; lookahead = f i }

module _ {o : Order} {s : List ℕ} {c : State} (h : Belongs o s c) (n : ℕ) (a : n ≤ c.lookahead) where
  pub peeked : first o n (64 - n) c.register ≡ field o s (place (counts_of c)) n
  unfolding register_of
  peeked = ap (first o n (64 - n)) h.holds ∙ first-held o s (place (counts_of c)) n c.lookahead a (omega arith)

  pub consumed : skipped o n c.register ≡ register_of o s (after_take n (counts_of c))
  unfolding register_of
  consumed =
      let l : ℕ = c.lookahead - n in
      let e : place (counts_of c) + n ≡ place (after_take n (counts_of c)) = omega arith in
      ap (skipped o n) h.holds ∙ skipped-held o s (place (counts_of c)) n c.lookahead a (omega arith)
      ∙ ap (λ (p : ℕ). held o l (field o s p l)) e

-- ---- reads

module _ (o : Order) (s : List ℕ) {k : Counts} (h : Within (length s) k) (w : ℕ) where
  -- up to 56 bits, taken after a refill if there is one
  pub short_read : w ≤ 56 → (r : Taken) → Took o s (refill_if (ltb k.lookahead w) (length s) k) w r → r ≡ taken_of o s k w
  short_read a r t =
      let v = t.0 ∙ ap (λ (p : ℕ). field o s p w) (if_place h (ltb k.lookahead w)) in
      let d = t.1 ∙ ap (state_of o s) (short_counts (length s) w k a) in
      λ i. record { value = v i; state = d i }
