-- Laws of reading bytes: the counts stay within the slice, the place moves by eight bits a byte, and the way that the code goes.
use Prim.Native.Nat.{ℕ, zero, suc, ◌+◌, ◌-◌, ◌*◌, ◌/◌, ◌%◌, ◌<◌, ◌≤◌}
use mathlib.Core.Path.{◌≡◌, refl, sym, ap, ◌∙◌}
use mathlib.Core.Bool.{Bool, true, false, cond}
use lib.Dec.{leb, eqb}
use native.Mathlib.Omega.{arith}
use borrow.Author.Tests.{leb-true, leb-false, le-leb, lt-leb}
use Rattle.counts.specs.declared.Counts.{Counts}
use Rattle.counts.specs.Counts.{bits_left, bytes_left, Within, after_refill, after_take, after_read, after_pass, after_eights, passed_over, after_beyond, after_bytes}
use Rattle.counts.proofs.CountLaws.{Moved, moved_left, moved_room, moved_then, refill-moved, take-moved, take_none, read_moved}

-- ---- reads of eight bits

pub eights_next : (len n : ℕ) (k : Counts) → 0 < n → after_eights len n k ≡ after_eights len (n - 1) (after_read len 8 k)
unfolding after_eights
eights_next len zero k h = absurd (omega arith)
eights_next len (suc n) k h = let e : n ≡ suc n - 1 = omega arith in ap (λ (m : ℕ). after_eights len m (after_read len 8 k)) e

pub eights_moved : {len : ℕ} (n : ℕ) {k : Counts} → Within len k → 8 * n ≤ bits_left len k → Moved len (8 * n) k (after_eights len n k)
unfolding after_eights
eights_moved zero h g = record { within = h; ahead = omega arith }
eights_moved (suc n) h g =
    let x = read_moved h 8 (omega arith) (omega arith) in
    moved_then x (eights_moved n x.within (moved_room x h (omega arith))) (omega arith)

-- ---- bytes beyond the lookahead

pub passed_le : (q m : ℕ) → 1 ≤ m → passed_over q m ≤ m
unfolding passed_over
passed_le q m h = go (eqb q 0)
  where
    go : (b : Bool) → cond {A = ℕ} b m (1 + 16 * ((m - 1) / 16)) ≤ m
    go true = omega arith
    go false = omega arith

pub pass_moved : {len : ℕ} {k : Counts} → Within len k → (n : ℕ) → k.offset + n ≤ len → Moved len (8 * n) k (after_pass n k)
pass_moved h n g = record { within = record { fetched = g; small = h.small; behind = omega arith }; ahead = omega arith }

pub beyond_moved :
    {len : ℕ} {k : Counts} → Within len k → (m : ℕ) → 1 ≤ m → k.offset + m ≤ len →
    Moved len (8 * m) k (after_beyond len m k)
unfolding after_beyond
beyond_moved {len} {k} h m one g =
    let v = passed_over k.lookahead m in
    let a = passed_le k.lookahead m one in
    let d : 8 * v + 8 * (m - v) ≤ bits_left len k = omega arith in
    let x = pass_moved h v (omega arith) in
    let y : Moved len (8 * v) k (after_refill len (after_pass v k)) = moved_then x (refill-moved x.within) (omega arith) in
    moved_then y (eights_moved (m - v) y.within (moved_room y h d)) (omega arith)

-- ---- n bytes

-- whole bytes left are bits left
pub bytes_bits : (len n : ℕ) (k : Counts) → n ≤ bytes_left len k → 8 * n ≤ bits_left len k
bytes_bits len n k g = omega arith

module _ {len : ℕ} {k : Counts} (h : Within len k) (n : ℕ) (g : n ≤ bytes_left len k) where
  -- the whole bytes of the lookahead
  abbrev held : ℕ
  held = k.lookahead / 8

  pub bytes_moved : Moved len (8 * n) k (after_bytes len n k)
  unfolding after_bytes
  bytes_moved = go (leb n held) refl
    where
      go :
          (b : Bool) → leb n held ≡ b →
          Moved len (8 * n) k (cond b (after_take (8 * n) k) (after_beyond len (n - held) (after_take (8 * held) k)))
      go true e = let a = leb-true n held e in take-moved h (8 * n) (omega arith)
      go false e =
          let a = leb-false n held e in
          let x = take-moved h (8 * held) (omega arith) in
          moved_then x (beyond_moved x.within (n - held) (omega arith) (omega arith)) (omega arith)

  pub bytes_within : Within len (after_bytes len n k)
  bytes_within = bytes_moved.within

  pub bytes_left_lem : bits_left len (after_bytes len n k) ≡ bits_left len k - 8 * n
  bytes_left_lem = moved_left bytes_moved h

-- a read of bytes that the lookahead has
pub bytes_held : (len n : ℕ) (k : Counts) → n ≤ k.lookahead / 8 → after_take (8 * n) k ≡ after_bytes len n k
unfolding after_bytes
bytes_held len n k h = rw (le-leb n (k.lookahead / 8) h)

-- a read of no bytes changes nothing
pub bytes_none : (len : ℕ) (k : Counts) → after_bytes len 0 k ≡ k
bytes_none len k = sym (bytes_held len 0 k (omega arith)) ∙ take_none k

-- a read of bytes that the lookahead has not, as the code goes: v bytes are passed over with the partial byte held
pub bytes_beyond :
    (len n v : ℕ) (k : Counts) → k.lookahead / 8 < n → v ≡ passed_over (k.lookahead % 8) (n - k.lookahead / 8) →
    after_eights len (n - k.lookahead / 8 - v) (after_refill len (record { offset = k.offset + v; lookahead = k.lookahead % 8 })) ≡ after_bytes len n k
unfolding after_bytes after_beyond
bytes_beyond len n v k more e =
    let p : k.lookahead % 8 ≡ k.lookahead - 8 * (k.lookahead / 8) = omega arith in
    rw (lt-leb n (k.lookahead / 8) more, ← p, ← e)
