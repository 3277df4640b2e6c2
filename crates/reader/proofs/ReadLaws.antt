-- Laws of reading for other crates: what is read, where the cursor then is, and that it still belongs.
use Prim.Native.Nat.{ℕ, ◌+◌, ◌-◌, ◌*◌, ◌/◌, ◌<◌, ◌≤◌}
use mathlib.Core.Path.{◌≡◌, refl, sym, ap, ◌∙◌, subst}
use mathlib.Core.Bool.{true, ◌&&◌}
use mathlib.Core.List.{List}
use native.Mathlib.Nat.{le_trans}
use native.Mathlib.Omega.{arith}
use lib.ListN.{length, get_or}
use lib.Dec.{leb, eqb}
use borrow.Author.Tests.{leb-true, le-leb, lt-ltb, le-ltb, eqb-true}
use Rattle.bits.specs.declared.Order.{Order}
use Rattle.bits.specs.Refusals.{longest, done, too_few, or_else, first_refusal}
use Rattle.bits.proofs.TestLaws.{both}
use Rattle.bits.proofs.RefusalLaws.{all_pass, if_refused, if_done_lem}
use Rattle.bits.specs.Field.{join, field}
use Rattle.bits.proofs.FieldLaws.{field_cut}
use Rattle.bits.proofs.JoinLaws.{join_zeros}
use Rattle.bits.specs.Word.{held}
use Rattle.counts.specs.declared.Counts.{Counts}
use Rattle.counts.specs.Counts.{after_refill, after_read}
use Rattle.counts.specs.Counts as C
use Rattle.counts.proofs.CountLaws.{Moved, moved_then, refill-moved, take-moved, read_moved, wide_again}
use Rattle.counts.proofs.BytesLaws.{bytes_moved}
use Rattle.lookahead.specs.State.{register_of, Belongs, state_of, inside}
use Rattle.lookahead.proofs.StateLaws.{state_belongs, inside_is}
use Rattle.octets.specs.Octets.{octets}
use Rattle.octets.proofs.OctetsLaws.{get_d_octets}
use Rattle.reader.specs.declared.Cursor.{Cursor}
use Rattle.reader.specs.Cursor.{counts_in, cursor_at, place, stop, bits_left, cursor_refusal, inside_end, is_inside, Own}
use Rattle.reader.proofs.CursorLaws.{left_stop, left_le, bytes_bits, bytes_le, ahead_left, ahead-held, refusal_own, own_done, at_place, at_stop, at_own}
use Rattle.reader.specs.Answers.{ReadTold, new_of, read_refusal, read_of, bytes_refusal, bytes_of, bytes_out, manual_refusal, peek_of, consume_of, refill_of}
use Rattle.reader.proofs.AnswerLaws.{read_granted, manual_granted, bytes_granted}

-- ---- cursors that go on

-- cursor d belongs to the slice, n bits after cursor c
pub record Advanced (o : Order) (s : List ℕ) (n : ℕ) (c d : Cursor) : Type 0 where
  pub belongs : cursor_refusal o s d ≡ done
  pub ahead : place d ≡ place c + n
  pub left : bits_left s d ≡ bits_left s c - n

-- so does the cursor gone on to counts n bits after those of c
advance :
    {o : Order} {s : List ℕ} {n : ℕ} {c d : Cursor} {j : Counts} → Own o s c → Moved (length s) n (counts_in c) j → n ≤ bits_left s c →
    d ≡ cursor_at o s c j → Advanced o s n c d
advance {o} {s} {n} {c} {d} {j} h m a e =
    let l = left_stop h.fits in
    let own = at_own o s c h m.within (omega (arith, m.ahead, l, a)) in
    let p : place (cursor_at o s c j) ≡ place c + n = at_place o s c j ∙ m.ahead in
    subst (Advanced o s n c) (sym e)
    (record {
      belongs = own_done own;
      ahead = p;
      left = omega (arith, left_stop own.fits, at_stop o s c j, l, p, a);
    })

-- ---- a fresh cursor

module _ (s : List ℕ) (short : length s ≤ longest) where
  pub fresh_done : (new_of s).refusal ≡ done
  unfolding new_of
  fresh_done = rw (le-ltb _ _ short)

  pub fresh_belongs : (o : Order) → cursor_refusal o s (new_of s).cursor ≡ done
  unfolding new_of register_of held field
  fresh_belongs o =
      rw (le-ltb longest (length s) short)
      (own_done
      (record {
        fits =
            record {
              short = short;
              within = record { fetched = omega arith; small = omega arith; behind = omega arith };
              reached = omega arith;
              stops = omega arith;
            };
        holds = sym (join_zeros o 0 64);
      }))

pub fresh_place : (s : List ℕ) → place (new_of s).cursor ≡ 0
unfolding new_of
fresh_place s = refl

pub fresh_stop : (s : List ℕ) → length s ≤ longest → stop s (new_of s).cursor ≡ 8 * length s
unfolding new_of stop
fresh_stop s short = rw (le-ltb longest (length s) short) refl

pub fresh_left : (s : List ℕ) → length s ≤ longest → bits_left s (new_of s).cursor ≡ 8 * length s
unfolding new_of bits_left
fresh_left s short = rw (le-ltb longest (length s) short) (omega arith)

-- ---- fields

module _ (o : Order) (s : List ℕ) (c : Cursor) (w : ℕ) where
  pub read_refused : (read_refusal o s c w ≡ done → ⊥) → read_of o s c w ≡ record { refusal = read_refusal o s c w; value = 0; cursor = c }
  unfolding read_of
  read_refused h = sym (if_refused refl _ _ h)

  -- a read from a cursor that belongs is refused only for its width, or by 9 for too few bits
  module _ (h : cursor_refusal o s c ≡ done) where
    pub read_enough : w ≤ 64 → w ≤ bits_left s c → read_refusal o s c w ≡ done
    unfolding read_refusal
    read_enough a b = all_pass _ (h, (rw (le-ltb _ _ a), rw (le-ltb _ _ b)))

    pub read_short : w ≤ 64 → bits_left s c < w → read_refusal o s c w ≡ too_few
    unfolding read_refusal first_refusal or_else
    read_short a b = rw (h, le-ltb _ _ a, lt-ltb _ _ b)

  module _ (e : read_refusal o s c w ≡ done) where
    pub read_done :
        read_of o s c w
        ≡ record { refusal = done; value = field o s (place c) w; cursor = cursor_at o s c (after_read (length s) w (counts_in c)) }
    unfolding read_of
    read_done = sym (if_done_lem refl _ _ e)

    pub read_value : (read_of o s c w).value ≡ field o s (place c) w
    read_value = ap (λ (r : ReadTold ℕ). r.value) read_done

    pub read_advanced : Advanced o s w c (read_of o s c w).cursor
    read_advanced =
        let (h, a, b) = read_granted o s c w e in
        advance h (read_moved h.fits.within w a (le_trans b (left_le h.fits))) b (ap (λ (r : ReadTold ℕ). r.cursor) read_done)

    pub read_belongs : cursor_refusal o s (read_of o s c w).cursor ≡ done
    read_belongs = read_advanced.belongs

    pub read_place : place (read_of o s c w).cursor ≡ place c + w
    read_place = read_advanced.ahead

    pub read_left : bits_left s (read_of o s c w).cursor ≡ bits_left s c - w
    read_left = read_advanced.left

-- what it says of counts that they are inside an end
pub end_is : (len end : ℕ) (k : Counts) → inside_end len end k ≡ true →
    (inside len k ≡ true) × (8 * (k.offset + 8) ≤ end) × (end ≤ 8 * len)
unfolding inside_end inside
end_is len end k e =
    let (short, e₁) = both {a = leb len longest} {b = leb end (8 * len) && inside (end / 8) k} e in
    let (stops, before) = both {a = leb end (8 * len)} {b = inside (end / 8) k} e₁ in
    let (_, more, less, small) = inside_is (end / 8) k before in
    let l : end ≤ 8 * len = leb-true _ _ stops in
    let within : k.offset + 8 ≤ len = omega (arith, more, l) in
    (rw (short, le-leb _ _ within, le-leb _ _ less, le-leb _ _ small), omega (arith, more), l)

-- a read that needs no other test is done
pub inside-done : (o : Order) (s : List ℕ) (c : Cursor) (w : ℕ) → is_inside o s c w ≡ true →
    Own o s c × (inside (length s) (counts_in c) ≡ true) × (w ≤ 56) × (read_refusal o s c w ≡ done)
unfolding is_inside bits_left
inside-done o s c w e =
    let k = counts_in c in
    let own = eqb c.register (register_of o s k) in
    let (narrow, e₁) = both {a = leb w 56} {b = inside_end (length s) c.end k && own} e in
    let (room, same) = both {a = inside_end (length s) c.end k} {b = own} e₁ in
    let (within, more, stops) = end_is (length s) c.end (counts_in c) room in
    let (short, _, less, small) = inside_is (length s) (counts_in c) within in
    let h : Own o s c =
    record {
      fits =
          record {
            short = short;
            within = record { fetched = omega (arith, more, stops); small = small; behind = omega (arith, less, small) };
            reached = omega (arith, more);
            stops = stops;
          };
      holds = eqb-true _ _ same;
    } in
    let a = leb-true _ _ narrow in
    (h, within, a, read_enough o s c w (own_done h) (omega (arith, a)) (omega (arith, a, more)))

-- a wide read is a read of 56 bits, a refill, and a read of the rest
module _ (o : Order) (s : List ℕ) (c : Cursor) (w : ℕ) (a : 57 ≤ w) (e : read_refusal o s c w ≡ done) where
  granted : Own o s c × (w ≤ 64) × (w ≤ bits_left s c)
  granted = read_granted o s c w e

  pub low_done : read_refusal o s c 56 ≡ done
  low_done = let (h, b, d) = granted in read_enough o s c 56 (own_done h) (omega arith) (omega arith)

  abbrev middle : Counts
  middle = after_read (length s) 56 (counts_in c)

  -- where the rest is read from
  abbrev pub rest_at : Cursor
  rest_at = cursor_at o s c (after_refill (length s) middle)

  -- the slice's own bits are as many at least
  enough : w ≤ C.bits_left (length s) (counts_in c)
  enough = let (h, b, d) = granted in le_trans d (left_le h.fits)

  middle_moved : Moved (length s) 56 (counts_in c) middle
  middle_moved = let (h, b, d) = granted in read_moved h.fits.within 56 (omega arith) (omega (arith, a, enough))

  pub middle_belongs : Belongs o s (state_of o s middle)
  middle_belongs = let (h, b, d) = granted in state_belongs o s h.fits.short middle_moved.within

  rest-moved : Moved (length s) 56 (counts_in c) (after_refill (length s) middle)
  rest-moved = moved_then middle_moved (refill-moved middle_moved.within) refl

  rest_advanced : Advanced o s 56 c rest_at
  rest_advanced = let (h, b, d) = granted in advance h rest-moved (omega (arith, a, d)) refl

  pub rest-done : read_refusal o s rest_at (w - 56) ≡ done
  rest-done =
      let (h, b, d) = granted in
      read_enough o s rest_at (w - 56) rest_advanced.belongs (omega (arith, b)) (omega (arith, d, rest_advanced.left))

  pub wide_by_parts :
      record {
        refusal = done;
        value = join o 56 (w - 56) (field o s (place c) 56) (field o s (place rest_at) (w - 56));
        cursor = cursor_at o s c (after_read (length s) (w - 56) (after_refill (length s) middle));
      }
      ≡ read_of o s c w
  wide_by_parts =
      let (h, b, d) = granted in
      let v = ap (λ (q : ℕ). join o 56 (w - 56) (field o s (place c) 56) (field o s q (w - 56))) rest_advanced.ahead ∙ sym (field_cut o s (place c) 56 w (omega arith)) in
      let k = wide_again h.fits.within w a b enough in
      (λ i. record { refusal = done; value = v i; cursor = cursor_at o s c (k i) }) ∙ sym (read_done o s c w e)

-- ---- manual mode

module _ (o : Order) (s : List ℕ) (c : Cursor) (n : ℕ) (e : manual_refusal o s c n ≡ done) where
  pub peek_value : (peek_of o s c n).value ≡ field o s (place c) n
  unfolding peek_of
  peek_value = sym (if_done_lem refl _ _ e)

  pub consume_advanced : Advanced o s n c (consume_of o s c n).cursor
  unfolding consume_of
  consume_advanced =
      let (h, a) = manual_granted o s c n e in
      advance h (take-moved h.fits.within n (le_trans a (ahead-held h.fits))) (le_trans a (ahead_left h.fits)) (sym (if_done_lem refl _ _ e))

-- a refill takes no bits
pub refill_advanced : (o : Order) (s : List ℕ) (c : Cursor) → cursor_refusal o s c ≡ done → Advanced o s 0 c (refill_of o s c).cursor
unfolding refill_of
refill_advanced o s c e =
    let h = refusal_own e in
    advance h (refill-moved h.fits.within) (omega arith) (sym (if_done_lem refl _ _ e))

-- ---- bytes

pub bytes_advanced : (o : Order) (s : List ℕ) (c : Cursor) (n : ℕ) → bytes_refusal o s c n ≡ done → Advanced o s (8 * n) c (bytes_of o s c n).cursor
unfolding bytes_of
bytes_advanced o s c n e =
    let (h, a) = bytes_granted o s c n e in
    advance h (bytes_moved h.fits.within n (le_trans a (bytes_le h.fits))) (bytes_bits h.fits a) (sym (if_done_lem refl _ _ e))

module _ (o : Order) (s : List ℕ) (c : Cursor) (out : List ℕ) (e : bytes_refusal o s c (length out) ≡ done) where
  pub bytes_octets : bytes_out o s c out ≡ octets o s (place c) (length out)
  unfolding bytes_out
  bytes_octets = sym (if_done_lem refl _ _ e)

  -- each byte is a field of eight bits
  pub bytes_field : (i : ℕ) → i < length out → get_or (bytes_out o s c out) i 0 ≡ field o s (place c + 8 * i) 8
  bytes_field i h = ap (λ (b : List ℕ). get_or b i 0) bytes_octets ∙ get_d_octets o s (place c) (length out) i h
