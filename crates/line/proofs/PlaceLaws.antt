-- Laws of a line's numbers at places of a text.
use Rattle.std.proofs.Common.{◌≡◌, ℕ, ◌+◌, ◌-◌, ◌*◌, ◌%◌, ◌^◌, ◌<◌, ◌≤◌, Bool, true, false, cond, leb, List, length, drop, sym, refl, ap, ◌∙◌, subst, arith, drop-drop, leb-true}
use Rattle.bits.proofs.TestLaws.{by_test}
use Rattle.record.specs.Record.{depth}
use Rattle.digits.specs.declared.inner.PartAt.{PartAt}
use Rattle.digits.specs.Digits.{comma, point, minus, newline}
use Rattle.digits.specs.Reading.{Part, most, starts, whole_at, decimals_at, Stands}
use Rattle.digits.proofs.PartLaws.{whole_small, decimals_few}
use Rattle.line.specs.Date.{units_of}
use Rattle.line.specs.Reading.{date_at, thousandths_at, complement, magnitude_at, from_least, six_at}

-- a part that stands behind another one, as the text behind it has it
stands_behind : {s : List ℕ} {q r : PartAt} {p : Part} (f : List ℕ → Part) → Stands s q p → Stands s r (f (drop q.next s)) → Stands s r (f p.rest)
stands_behind {s} {q} {r} f a b = subst (λ (x : List ℕ). Stands s r (f x)) a.rest b

-- a value in place of the part's own, with no count
stands_valued : {s : List ℕ} {r : PartAt} {p : Part} (v w : ℕ) → Stands s r p → v ≡ w
    → Stands s (record { value = v; count = 0; next = r.next }) (record { value = w; count = 0; rest = p.rest })
stands_valued v w a e = record { value = e; count = refl; rest = a.rest; within = a.within }

module _ (s : List ℕ) (at : ℕ) (w d : PartAt) (p : Stands s w (whole_at point (drop at s))) where
  pub date_stands : (v : ℕ) → Stands s d (decimals_at 5 12 comma (drop w.next s)) → v ≡ units_of w.value d.value d.count
      → Stands s (record { value = v; count = 0; next = d.next }) (date_at (drop at s))
  unfolding date_at
  date_stands v q e =
      let r = stands_behind (decimals_at 5 12 comma) p q in
      stands_valued v _ r (e ∙ (λ i. units_of (p.value i) (r.value i) (r.count i)))

  pub thousandths_stands : Stands s d (decimals_at 3 3 comma (drop w.next s))
      → Stands s (record { value = 1000 * w.value + d.value; count = 0; next = d.next }) (thousandths_at (drop at s))
  unfolding thousandths_at
  thousandths_stands q =
      let r = stands_behind (decimals_at 3 3 comma) p q in
      stands_valued _ _ r (λ i. 1000 * p.value i + r.value i)

pub thousandths_small : (s : List ℕ) → (thousandths_at s).value ≤ 1001 * most
unfolding thousandths_at
thousandths_small s =
    let a = whole_small point s in
    let b = (decimals_few 3 3 comma (whole_at point s).rest).value in
    omega arith

module _ (s : List ℕ) (at : ℕ) (m : PartAt) where
  pub minus_stands : (v : ℕ) → starts minus (drop at s) ≡ true → Stands s m (thousandths_at (drop (at + 1) s)) → v ≡ (complement true m.value + depth) % 2 ^ 64
      → Stands s (record { value = v; count = 0; next = m.next }) (from_least (magnitude_at (drop at s)))
  unfolding magnitude_at
  minus_stands v e p f =
      let r = subst (λ (x : List ℕ). Stands s m (thousandths_at x)) (sym (drop-drop 1 at s)) p in
      rw e (stands_valued v _ r (f ∙ ap (λ (n : ℕ). (complement true n + depth) % 2 ^ 64) r.value))

  pub plus_stands : starts minus (drop at s) ≡ false → Stands s m (thousandths_at (drop at s))
      → Stands s (record { value = depth + m.value; count = 0; next = m.next }) (from_least (magnitude_at (drop at s)))
  unfolding magnitude_at complement
  plus_stands e p =
      let l : depth + m.value ≡ ((thousandths_at (drop at s)).value + depth) % 2 ^ 64 = omega (arith, thousandths_small (drop at s), p.value) in
      rw e (stands_valued _ _ p l)

-- a magnitude in two's complement has 64 bits
complement-lt : (b : Bool) (n : ℕ) → n ≤ 1001 * most → complement b n < 2 ^ 64
unfolding complement
complement-lt false n h = omega arith
complement-lt true n h =
    by_test (leb 1 n)
    (λ p. by_test (leb n depth) (λ q. let l = leb-true 1 n p in rw (p, q) (omega arith)) (λ q. rw (p, q) (omega arith)))
    (λ p. rw p (omega arith))

-- so it is found again from its distance
pub distance_stands : (s : List ℕ) (at : ℕ) (d : PartAt) (v : ℕ) → Stands s d (from_least (magnitude_at (drop at s))) → v ≡ (d.value + (2 ^ 64 - depth)) % 2 ^ 64
    → Stands s (record { value = v; count = 0; next = d.next }) (magnitude_at (drop at s))
unfolding magnitude_at
distance_stands s at d v p e =
    let t = drop at s in
    let b = starts minus t in
    let l = complement-lt b (thousandths_at (cond b (drop 1 t) t)).value (thousandths_small _) in
    let same : v ≡ (magnitude_at t).value = omega (arith, e, p.value, l) in
    record { value = same; count = refl; rest = p.rest; within = p.within }

-- ---- the six numbers

-- six parts by place are the six numbers from a place on
pub record SixStand (s : List ℕ) (at : ℕ) (a b c d e f : PartAt) : Type 0 where
  pub star : a.value ≡ (six_at (drop at s)).star
  pub date : b.value ≡ (six_at (drop at s)).date
  pub limit : c.value ≡ (six_at (drop at s)).limit
  pub magnitude : d.value ≡ (six_at (drop at s)).magnitude
  pub error : e.value ≡ (six_at (drop at s)).error
  pub filter : f.value ≡ (six_at (drop at s)).filter
  pub rest : drop f.next s ≡ (six_at (drop at s)).rest
  pub within : f.next ≤ length s

pub six_stand : {s : List ℕ} {at : ℕ} {a b c d e f : PartAt} → Stands s a (whole_at comma (drop at s)) → Stands s b (date_at (drop a.next s))
    → Stands s c (whole_at comma (drop b.next s)) → Stands s d (magnitude_at (drop c.next s)) → Stands s e (thousandths_at (drop d.next s))
    → Stands s f (whole_at newline (drop e.next s)) → SixStand s at a b c d e f
unfolding six_at
six_stand p₁ q₂ q₃ q₄ q₅ q₆ =
    let p₂ = stands_behind date_at p₁ q₂ in
    let p₃ = stands_behind (whole_at comma) p₂ q₃ in
    let p₄ = stands_behind magnitude_at p₃ q₄ in
    let p₅ = stands_behind thousandths_at p₄ q₅ in
    let p₆ = stands_behind (whole_at newline) p₅ q₆ in
    record {
      star = p₁.value;
      date = p₂.value;
      limit = p₃.value;
      magnitude = p₄.value;
      error = p₅.value;
      filter = p₆.value;
      rest = p₆.rest;
      within = p₆.within;
    }
