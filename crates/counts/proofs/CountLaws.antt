-- Laws of refilling, taking and reading: the counts stay within the slice, and the place moves by the bits taken.
use Prim.Native.Nat.{ℕ, ◌+◌, ◌-◌, ◌*◌, ◌<◌, ◌≤◌}
use mathlib.Core.Path.{◌≡◌, refl, sym, ap, ◌∙◌, subst}
use mathlib.Core.Bool.{Bool, true, false, ◌||◌}
use lib.Dec.{leb, ltb}
use native.Mathlib.Omega.{arith}
use borrow.Author.Tests.{ltb-true, ltb-false, leb-true, leb-false, lt-ltb, le-ltb, le-leb, lt-leb}
use Rattle.counts.specs.declared.Counts.{Counts}
use Rattle.counts.specs.Counts.{place, unfetched, bits_left, Within, after_refill, after_take, refill_if, after_read}

-- the bits before the place and the bits left are all the bits
pub left_place : {len : ℕ} {k : Counts} → Within len k → place k + bits_left len k ≡ 8 * len
left_place h = omega arith

-- counts j are within the slice, n bits after counts k
pub record Moved (len n : ℕ) (k j : Counts) : Type 0 where
  pub within : Within len j
  pub ahead : place j ≡ place k + n

module _ {len n : ℕ} {k j : Counts} (x : Moved len n k j) where
  pub moved_left : Within len k → bits_left len j ≡ bits_left len k - n
  moved_left h = omega arith

  -- the bits left behind the n
  pub moved_room : Within len k → {m : ℕ} → n + m ≤ bits_left len k → m ≤ bits_left len j
  moved_room h b = omega (arith, moved_left h)

  -- n bits and then m are t bits
  pub moved_then : {m t : ℕ} {i : Counts} → Moved len m j i → n + m ≡ t → Moved len t k i
  moved_then y e = record { within = y.within; ahead = omega arith }

-- ---- one refill, one take

pub take_none : (k : Counts) → after_take 0 k ≡ k
take_none k =
    let e : k.lookahead - 0 ≡ k.lookahead = omega arith in
    ap (λ (r : ℕ). record { offset = k.offset; lookahead = r }) e

module _ {len : ℕ} {k : Counts} (h : Within len k) where
  pub refill-within : Within len (after_refill len k)
  refill-within = record { fetched = omega arith; small = omega arith; behind = omega arith }

  pub refill-place : place (after_refill len k) ≡ place k
  refill-place = omega arith

  pub refill_left : bits_left len (after_refill len k) ≡ bits_left len k
  refill_left = omega arith

  -- a refill gives 56 bits, or all
  pub refill-enough : (w : ℕ) → w ≤ 56 → w ≤ bits_left len k → w ≤ (after_refill len k).lookahead
  refill-enough w a b = omega arith

  pub take_within : (n : ℕ) → Within len (after_take n k)
  take_within n = record { fetched = omega arith; small = omega arith; behind = omega arith }

  pub take-place : (n : ℕ) → n ≤ k.lookahead → place (after_take n k) ≡ place k + n
  take-place n a = omega arith

  pub take_left : (n : ℕ) → n ≤ k.lookahead → bits_left len (after_take n k) ≡ bits_left len k - n
  take_left n a = omega arith

  pub if_within : (b : Bool) → Within len (refill_if b len k)
  if_within true = refill-within
  if_within false = h

  pub if_place : (b : Bool) → place (refill_if b len k) ≡ place k
  if_place true = refill-place
  if_place false = refl

  pub if_left : (b : Bool) → bits_left len (refill_if b len k) ≡ bits_left len k
  if_left true = refill_left
  if_left false = refl

  pub if_moved : (b : Bool) → Moved len 0 k (refill_if b len k)
  if_moved b = let e = if_place b in record { within = if_within b; ahead = omega arith }

  pub refill-moved : Moved len 0 k (after_refill len k)
  refill-moved = if_moved true

  pub take-moved : (n : ℕ) → n ≤ k.lookahead → Moved len n k (after_take n k)
  take-moved n a = record { within = take_within n; ahead = take-place n a }

  -- enough to take w bits
  pub short_enough : (w : ℕ) → w ≤ 56 → w ≤ bits_left len k → w ≤ (refill_if (ltb k.lookahead w) len k).lookahead
  short_enough w a b = go (ltb k.lookahead w) refl
    where
      go : (t : Bool) → ltb k.lookahead w ≡ t → w ≤ (refill_if t len k).lookahead
      go true e = refill-enough w a b
      go false e = ltb-false _ _ e

  -- enough to take the first 56 bits of a wide field
  pub wide_enough :
      (w : ℕ) → 57 ≤ w → w ≤ bits_left len k →
      56 ≤ (refill_if (ltb k.lookahead w || ltb (unfetched len k) 8) len k).lookahead
  wide_enough w a b = go (ltb k.lookahead w) (ltb (unfetched len k) 8) refl
    where
      go : (t u : Bool) → ltb k.lookahead w ≡ t → 56 ≤ (refill_if (t || u) len k).lookahead
      go true u e = refill-enough 56 (omega arith) (omega arith)
      go false true e = refill-enough 56 (omega arith) (omega arith)
      go false false e = omega (arith, ltb-false k.lookahead w e)

-- ---- wide reads

-- the counts of a wide read when its first 56 bits are taken, and when the rest is
abbrev pub wide₁ : ℕ → ℕ → Counts → Counts
wide₁ len w k = refill_if (ltb k.lookahead w || ltb (unfetched len k) 8) len k

abbrev pub wide₂ : ℕ → ℕ → Counts → Counts
wide₂ len w k = after_refill len (after_take 56 (wide₁ len w k))

module _ {len : ℕ} {k : Counts} (h : Within len k) (w : ℕ) where
  pub wide-within₁ : Within len (wide₁ len w k)
  wide-within₁ = if_within h (ltb k.lookahead w || ltb (unfetched len k) 8)

  pub wide-within₂ : Within len (after_take 56 (wide₁ len w k))
  wide-within₂ = take_within wide-within₁ 56

  pub wide-within₃ : Within len (wide₂ len w k)
  wide-within₃ = refill-within wide-within₂

module _ {len : ℕ} {k : Counts} (h : Within len k) (w : ℕ) (a : 57 ≤ w) (b : w ≤ 64) (d : w ≤ bits_left len k) where
  pub wide-rest : w - 56 ≤ (wide₂ len w k).lookahead
  wide-rest =
      let e = take_left (wide-within₁ h w) 56 (wide_enough h w a d) in
      let f = if_left h (ltb k.lookahead w || ltb (unfetched len k) 8) in
      refill-enough (wide-within₂ h w) (w - 56) (omega arith) (omega arith)

  pub wide-place : place (wide₂ len w k) ≡ place k + 56
  wide-place =
      refill-place (wide-within₂ h w) ∙ take-place (wide-within₁ h w) 56 (wide_enough h w a d)
      ∙ ap (λ (p : ℕ). p + 56) (if_place h (ltb k.lookahead w || ltb (unfetched len k) 8))

pub wide_counts : (len w : ℕ) (k : Counts) → 57 ≤ w → after_take (w - 56) (wide₂ len w k) ≡ after_read len w k
unfolding after_read
wide_counts len w k a = rw (lt-leb w 56 a)

-- ---- reads

pub short_counts : (len w : ℕ) (k : Counts) → w ≤ 56 → after_take w (refill_if (ltb k.lookahead w) len k) ≡ after_read len w k
unfolding after_read
short_counts len w k a = rw (le-leb w 56 a)

-- a read of up to 56 bits that the lookahead has, and one that it has not
pub read_held : (len w : ℕ) (k : Counts) → w ≤ 56 → w ≤ k.lookahead → after_take w k ≡ after_read len w k
unfolding after_read
read_held len w k a b = rw (le-leb w 56 a, le-ltb k.lookahead w b)

pub read_refilled : (len w : ℕ) (k : Counts) → w ≤ 56 → k.lookahead < w → after_take w (after_refill len k) ≡ after_read len w k
unfolding after_read
read_refilled len w k a b = rw (le-leb w 56 a, lt-ltb k.lookahead w b)

-- a refill of 56 bits or more fetches nothing
refill-full : {len : ℕ} {k : Counts} → Within len k → 56 ≤ k.lookahead → after_refill len k ≡ k
refill-full {len} {k} h a =
    let e : (after_refill len k).offset ≡ k.offset = omega arith in
    let f : (after_refill len k).lookahead ≡ k.lookahead = omega arith in
    λ i. record { offset = e i; lookahead = f i }

-- so a wide read starts as a read of 56 bits does
wide_start : {len : ℕ} {k : Counts} → Within len k → (w : ℕ) → 57 ≤ w → refill_if (ltb k.lookahead 56) len k ≡ wide₁ len w k
wide_start {len} {k} h w a = by (ltb k.lookahead 56) (ltb k.lookahead w) (ltb (unfetched len k) 8) refl refl
  where
    by : (t u v : Bool) → ltb k.lookahead 56 ≡ t → ltb k.lookahead w ≡ u → refill_if t len k ≡ refill_if (u || v) len k
    by true true v p q = refl
    by true false v p q = absurd (omega (arith, ltb-true k.lookahead 56 p, ltb-false k.lookahead w q))
    by false true v p q = sym (refill-full h (ltb-false _ _ p))
    by false false true p q = sym (refill-full h (ltb-false _ _ p))
    by false false false p q = refl

-- and it is one, a refill, and a read of the rest
pub wide_again :
    {len : ℕ} {k : Counts} → Within len k → (w : ℕ) → 57 ≤ w → w ≤ 64 → w ≤ bits_left len k →
    after_read len (w - 56) (after_refill len (after_read len 56 k)) ≡ after_read len w k
wide_again {len} {k} h w a b d =
    let e : after_refill len (after_read len 56 k) ≡ wide₂ len w k =
    ap (after_refill len) (sym (short_counts len 56 k (omega arith)) ∙ ap (after_take 56) (wide_start h w a)) in
    ap (after_read len (w - 56)) e ∙ sym (read_held len (w - 56) (wide₂ len w k) (omega arith) (wide-rest h w a b d)) ∙ wide_counts len w k a

module _ {len : ℕ} {k : Counts} (h : Within len k) (w : ℕ) (a : w ≤ 64) (b : w ≤ bits_left len k) where
  pub read_moved : Moved len w k (after_read len w k)
  read_moved = go (leb w 56) refl
    where
      go : (t : Bool) → leb w 56 ≡ t → Moved len w k (after_read len w k)
      go true e =
          let c = leb-true w 56 e in
          let t = ltb k.lookahead w in
          let x = take-moved (if_within h t) w (short_enough h w c b) in
          subst (Moved len w k) (short_counts len w k c) (moved_then (if_moved h t) x (omega arith))
      go false e =
          let c = leb-false w 56 e in
          let x : Moved len 56 k (wide₂ len w k) = record { within = wide-within₃ h w; ahead = wide-place h w c a b } in
          subst (Moved len w k) (wide_counts len w k c) (moved_then x (take-moved x.within (w - 56) (wide-rest h w c a b)) (omega arith))
