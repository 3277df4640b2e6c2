-- The end of a cursor: what moves it, what goes by it, and that reading up to it is reading the slice cut there. Each sentence is closed in
-- proofs/EndsClosed.antt.
use Rattle.std.specs.Prelude.{ℕ, ◌*◌, ◌/◌, ◌%◌, ◌≤◌, ◌≡◌, ◌↔◌, List, [], ◌∷◌, length, take, drop, ltb}
use Rattle.bits.specs.declared.Order.{Order}
use Rattle.bits.specs.declared.Order.TheVariants.{Big}
use Rattle.bits.specs.Refusals.{longest, done, too_long, too_wide, too_few, past_lookahead, bad_end, ◌⟶◌, first_refusal}
use Rattle.counts.specs.Counts as C
use Rattle.lookahead.specs.State.{state_refusal}
use Rattle.reader.specs.declared.Cursor.{Cursor}
use Rattle.reader.specs.Answers.{Moved}
use Rattle.reader.specs.Cursor.{state_in, counts_in, ending_at, place, stop, bits_left, bytes_left, unfetched, ahead_in, cursor_refusal, Alike}
use Rattle.reader.specs.Answers as R
use Rattle.reader.specs.Answers.{moved}
use Rattle.typed.specs.declared.Kind.{Kind}
use Rattle.typed.specs.Answers.{TypedRead}
use Rattle.typed.specs.Answers.{Done, Refused}
use Rattle.typed.specs.Answers as T
use Rattle.plan.specs.Run.{run_of, run_out}
use Rattle.strip.specs.Answers as S
use Rattle.claims.specs.Reached.{Called}

-- ---- what moves it

-- no call but `lower_end` moves the end; from a cursor that belongs, as one does whose call is done, a call leaves one that belongs, with its
-- place at the end or before
abbrev pub EndsStay : Type 0
EndsStay =
    (o : Order) (s : List ℕ) (c d : Cursor) → Called s c o d →
    (stop s d ≡ stop s c) × (cursor_refusal o s c ≡ done → (cursor_refusal o s d ≡ done) × (place d ≤ stop s d))

-- `lower_end` is done exactly for an end from the place to the end that there is, and moves the end alone; else it is refused with 13
abbrev pub EndsLower : Type 0
EndsLower =
    (o : Order) (s : List ℕ) (c : Cursor) (e : ℕ) → cursor_refusal o s c ≡ done →
    let r = R.lower_of o s c e in
    ((r.refusal ≡ done) ↔ ((place c ≤ e) × (e ≤ stop s c)))
    × (r.refusal ≡ done → (r ≡ moved done (ending_at c e)) × (stop s (ending_at c e) ≡ e) × (cursor_refusal o s (ending_at c e) ≡ done))
    × ((r.refusal ≡ done → ⊥) → r ≡ moved bad_end c)

-- ---- what goes by it

-- where the end is the slice's, refusals and counts are those of the state and of the slice's own bytes, as they were without an end
abbrev pub SliceEnd : Type 0
SliceEnd =
    (o : Order) (s : List ℕ) (c : Cursor) → stop s c ≡ 8 * length s →
    let own = state_refusal o s (state_in c) in
    let k = counts_in c in
    (cursor_refusal o s c ≡ own)
    × (R.remainder_refusal o s c ≡ own)
    × ((w : ℕ) → R.read_refusal o s c w ≡ first_refusal (own ∷ ltb 64 w ⟶ too_wide ∷ ltb (C.bits_left (length s) k) w ⟶ too_few ∷ []))
    × ((n : ℕ) → R.bytes_refusal o s c n ≡ first_refusal (ltb longest n ⟶ too_long ∷ own ∷ ltb (C.bytes_left (length s) k) n ⟶ too_few ∷ []))
    × ((n : ℕ) → R.manual_refusal o s c n ≡ first_refusal (own ∷ ltb k.lookahead n ⟶ past_lookahead ∷ []))
    × (own ≡ done →
    (bits_left s c ≡ C.bits_left (length s) k)
    × (bytes_left s c ≡ C.bytes_left (length s) k)
    × (unfetched s c ≡ C.unfetched (length s) k)
    × (ahead_in s c ≡ k.lookahead)
    × (R.remainder_of o s c ≡ drop (R.start_of o s c) s))

-- and whatever the end, it decides alone whether a call is done: done with two ends, a call answers the same, and leaves the same but for them
abbrev pub EndsDecide : Type 0
EndsDecide =
    (o : Order) (s : List ℕ) (c : Cursor) (e : ℕ) →
    let d = ending_at c e in
    ((w : ℕ) → (R.read_of o s c w).refusal ≡ done → (R.read_of o s d w).refusal ≡ done →
    ((R.read_of o s d w).value ≡ (R.read_of o s c w).value) × ((R.read_of o s d w).cursor ≡ ending_at (R.read_of o s c w).cursor e))
    × ((out : List ℕ) → (R.bytes_of o s c (length out)).refusal ≡ done → (R.bytes_of o s d (length out)).refusal ≡ done →
    (R.bytes_out o s d out ≡ R.bytes_out o s c out) × ((R.bytes_of o s d (length out)).cursor ≡ ending_at (R.bytes_of o s c (length out)).cursor e))
    × ((n : ℕ) → (R.peek_of o s c n).refusal ≡ done → (R.peek_of o s d n).refusal ≡ done →
    (R.peek_of o s d n ≡ R.peek_of o s c n) × ((R.consume_of o s d n).cursor ≡ ending_at (R.consume_of o s c n).cursor e))
    × ((R.refill_of o s c).refusal ≡ done → (R.refill_of o s d).refusal ≡ done → (R.refill_of o s d).cursor ≡ ending_at (R.refill_of o s c).cursor e)

-- ---- nothing behind it is read

-- two calls with one refusal, their cursors at one place
abbrev pub SameMove : Moved → Moved → Type 0
SameMove x y = (x.refusal ≡ y.refusal) × (place x.cursor ≡ place y.cursor)

-- two typed reads of one value, or refused by one number, their cursors at one place
abbrev pub SameTyped : TypedRead → TypedRead → Type 0
SameTyped (Done v c) (Done w d) = (v ≡ w) × (place c ≡ place d)
SameTyped (Refused e c) (Refused f d) = SameMove (moved e c) (moved f d)
SameTyped (Done v c) (Refused f d) = ⊥
SameTyped (Refused e c) (Done w d) = ⊥

-- cursors that are alike answer alike, by every call: refusals, values, lent memory and places. What is held may differ: a refill makes the
-- lookahead one, and where it is, `peek`, `consume` and the unfetched bytes are
abbrev pub AnswersAlike : Type 0
AnswersAlike =
    (o : Order) (s : List ℕ) (c : Cursor) (t : List ℕ) (d : Cursor) → Alike o s c t d →
    ((w : ℕ) →
    let x = R.read_of o s c w in
    let y = R.read_of o t d w in
    (x.value ≡ y.value) × SameMove (moved x.refusal x.cursor) (moved y.refusal y.cursor))
    × ((k : Kind) (w : ℕ) → SameTyped (T.read_of o s c k w) (T.read_of o t d k w))
    × ((out : List ℕ) → (R.bytes_out o s c out ≡ R.bytes_out o t d out) × SameMove (R.bytes_of o s c (length out)) (R.bytes_of o t d (length out)))
    × ((p out : List ℕ) → (run_out o s c p out ≡ run_out o t d p out) × SameMove (run_of o s c p (length out)) (run_of o t d p (length out)))
    × (o ≡ Big →
    let x = S.read_of s c in
    let y = S.read_of t d in
    (x.value ≡ y.value) × SameMove (moved x.refusal x.cursor) (moved y.refusal y.cursor))
    × ((e : ℕ) → SameMove (R.lower_of o s c e) (R.lower_of o t d e))
    × (bits_left s c ≡ bits_left t d)
    × (bytes_left s c ≡ bytes_left t d)
    × ((R.start_of o s c ≡ R.start_of o t d) × (R.remainder_of o s c ≡ R.remainder_of o t d) × (R.partial_of o s c ≡ R.partial_of o t d))
    × (SameMove (R.refill_of o s c) (R.refill_of o t d) × (ahead_in s (R.refill_of o s c).cursor ≡ ahead_in t (R.refill_of o t d).cursor))
    × (ahead_in s c ≡ ahead_in t d →
    (unfetched s c ≡ unfetched t d)
    × ((n : ℕ) → (R.peek_of o s c n ≡ R.peek_of o t d n) × SameMove (R.consume_of o s c n) (R.consume_of o t d n) × (ahead_in s (R.consume_of o s c n).cursor ≡ ahead_in t (R.consume_of o t d n).cursor)))

-- reading with a lowered end is reading the slice cut there: where the end is a multiple of 8, every cursor at the same place on the slice cut
-- to so many bytes, with that slice's end, is alike; and there is one
abbrev pub CutThere : Type 0
CutThere =
    (o : Order) (s : List ℕ) (c : Cursor) → cursor_refusal o s c ≡ done → stop s c % 8 ≡ 0 →
    let t = take (stop s c / 8) s in
    ((d : Cursor) → cursor_refusal o t d ≡ done → place d ≡ place c → stop t d ≡ 8 * length t → Alike o s c t d)
    × ((d : Cursor) × (cursor_refusal o t d ≡ done) × (place d ≡ place c) × (stop t d ≡ 8 * length t))
