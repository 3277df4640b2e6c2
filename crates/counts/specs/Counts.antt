-- What the two counts of a cursor say, and how refilling, taking and reading move them. A slice has len bytes.
use Rattle.std.specs.Prelude.{ℕ, zero, suc, ◌+◌, ◌-◌, ◌*◌, ◌/◌, ◌≤◌, min, Bool, cond, ◌||◌, leb, ltb, eqb}
use Rattle.counts.specs.declared.Counts.{Counts}

-- the bit place at which reading goes on
abbrev pub place : Counts → ℕ
place k = 8 * k.offset - k.lookahead

-- U: the bytes not yet fetched
abbrev pub unfetched : ℕ → Counts → ℕ
unfetched len k = len - k.offset

-- the bits left
abbrev pub bits_left : ℕ → Counts → ℕ
bits_left len k = 8 * unfetched len k + k.lookahead

-- the whole bytes left: those not yet fetched, and those of the lookahead without the partial one
abbrev pub bytes_left : ℕ → Counts → ℕ
bytes_left len k = unfetched len k + k.lookahead / 8

-- counts that a cursor of a slice of len bytes can have
pub record Within (len : ℕ) (k : Counts) : Type 0 where
  pub fetched : k.offset ≤ len
  pub small : k.lookahead ≤ 63
  pub behind : k.lookahead ≤ 8 * k.offset

-- how many bytes a refill fetches, with U unfetched bytes and a lookahead of r
abbrev pub fetch : ℕ → ℕ → ℕ
fetch U r = min U (7 - r / 8)

-- after n more bytes were fetched into the lookahead
abbrev pub after_fetch : ℕ → Counts → Counts
after_fetch n k = record { offset = k.offset + n; lookahead = k.lookahead + 8 * n }

-- after a refill
abbrev pub after_refill : ℕ → Counts → Counts
after_refill len k = after_fetch (fetch (unfetched len k) k.lookahead) k

-- after n bits of the lookahead were taken
abbrev pub after_take : ℕ → Counts → Counts
after_take n k = record { offset = k.offset; lookahead = k.lookahead - n }

-- after a refill, if there is one
abbrev pub refill_if : Bool → ℕ → Counts → Counts
refill_if b len k = cond b (after_refill len k) k

-- after a read of w bits: one of w ≤ 56 refills exactly if w is above the lookahead; a wider one refills first if w is above the
-- lookahead or under 8 bytes are unfetched, takes 56, refills, takes the rest
unfoldable pub after_read : ℕ → ℕ → Counts → Counts
after_read len w k =
    cond (leb w 56) (after_take w (refill_if (ltb k.lookahead w) len k))
    (after_take (w - 56)
    (after_refill len (after_take 56 (refill_if (ltb k.lookahead w || ltb (unfetched len k) 8) len k))))

-- after n bytes were passed over, outside the register
abbrev pub after_pass : ℕ → Counts → Counts
after_pass n k = record { offset = k.offset + n; lookahead = k.lookahead }

-- after n reads of eight bits
unfoldable pub after_eights : ℕ → ℕ → Counts → Counts
after_eights len zero k = k
after_eights len (suc n) k = after_eights len n (after_read len 8 k)

-- of m bytes beyond the lookahead, with q bits of a byte held, those that are passed over: all, or the first and then sixteens
unfoldable pub passed_over : ℕ → ℕ → ℕ
passed_over q m = cond (eqb q 0) m (1 + 16 * ((m - 1) / 16))

-- after m bytes beyond a lookahead that has no whole byte: some are passed over, a refill, the others are read
unfoldable pub after_beyond : ℕ → ℕ → Counts → Counts
after_beyond len m k =
    after_eights len (m - passed_over k.lookahead m) (after_refill len (after_pass (passed_over k.lookahead m) k))

-- after a read of n bytes: out of the lookahead as far as it has whole bytes, and then beyond it
unfoldable pub after_bytes : ℕ → ℕ → Counts → Counts
after_bytes len n k =
    cond (leb n (k.lookahead / 8)) (after_take (8 * n) k)
    (after_beyond len (n - k.lookahead / 8) (after_take (8 * (k.lookahead / 8)) k))

-- the counts of the cursor at place p with the fewest bits held: fewer than eight
abbrev pub counts_at : ℕ → Counts
counts_at p = record { offset = (p + 7) / 8; lookahead = 8 * ((p + 7) / 8) - p }
