-- Laws of one item: its bits are one number, writing it stores that number, and its request, where that number stands, gives it back.
use Prim.Native.Nat.{ℕ, zero, suc, ◌+◌, ◌-◌, ◌*◌, ◌%◌, ◌^◌, ◌<◌, ◌≤◌}
use mathlib.Core.Path.{◌≡◌, sym, ap, ◌∙◌, subst}
use mathlib.Core.List.{List}
use lib.IntN.{ℤ}
use lib.ListN.{length, get_or}
use lib.Seq.{ext_get_or}
use lib.Pow.{pow_pos}
use native.Mathlib.Nat.{zero-add, mod-eq_of_lt}
use native.Mathlib.Omega.{arith}
use borrow.Author.Tests.{le-ltb}
use Rattle.bits.specs.declared.Order.{Order}
use Rattle.bits.specs.Refusals.{longest, done}
use Rattle.bits.proofs.RefusalLaws.{all_pass}
use Rattle.bits.specs.Field.{field}
use Rattle.bits.specs.Signed as S
use Rattle.bits.specs.Signed.{pattern}
use Rattle.bits.proofs.FieldLaws.{field_lt, field_split, field_byte, head_is, tail_is}
use Rattle.sign.proofs.SignedLaws.{pattern_lt, signed-pattern}
use Rattle.octets.proofs.OctetsLaws.{length-octets}
use Rattle.packing.proofs.BelongsLaws.{belongs_refusal}
use Rattle.reader.specs.declared.Cursor.{Cursor}
use Rattle.reader.specs.Cursor.{place, bits_left, bytes_left, cursor_refusal}
use Rattle.reader.proofs.CursorLaws.{refusal_own, bits_bytes}
use Rattle.reader.specs.Answers as R
use Rattle.reader.specs.Answers.{read_of}
use Rattle.reader.proofs.AnswerLaws.{read_refusal_lem}
use Rattle.reader.proofs.ReadLaws.{Advanced, read_enough, read_value, read_advanced, bytes_advanced, bytes_octets, bytes_field}
use Rattle.writer.specs.declared.Writer.{Writer}
use Rattle.writer.specs.Writer.{state_in, bits_written, signed_refusal, bytes_refusal, padding}
use Rattle.writer.specs.Answers.{write_of, write_out, flush_of, flush_out}
use Rattle.writer.proofs.AnswerLaws.{Room, write_accepted}
use Rattle.writer.proofs.WriteLaws.{Stored, write_stored, signed_stored, bytes_stored, flush_stored}
use Rattle.roundtrip.specs.Mixed.{Item, unsigned, signed, bytes, flush, InRange, Fits, unsigned_fits, signed-fits, bytes_fit, flush_fits, bits, item_of, item_out, request_of, number, integer, list, value_of, Answer, answer_of}

-- ---- the bits of an item

-- as one number
unfoldable pub worth : Order → Item → ℕ
worth o (unsigned w v) = v
worth o (signed w z) = pattern w z
worth o (bytes bs buffer) = field o bs 0 (8 * length bs)
worth o flush = 0

pub worth_lt : (o : Order) (n : ℕ) {e : Item} → Fits e → worth o e < 2 ^ bits n e
unfolding worth bits
worth_lt o n (unsigned_fits a b) = b
worth_lt o n (signed-fits {w} {z} a b) = pattern_lt w z
worth_lt o n (bytes_fit {bs} h l) = field_lt o bs 0 (8 * length bs)
worth_lt o n flush_fits = pow_pos (bits n flush)

-- ---- written

module _ (len : ℕ) (w : Writer) where
  -- with room, every signed number is written
  signed_accepted : (n : ℕ) (z : ℤ) → n ≤ 64 → Room len w n → signed_refusal len w n z ≡ done
  unfolding signed_refusal
  signed_accepted n z h r =
      all_pass _ (belongs_refusal len (state_in w) r.belongs, (rw (le-ltb 64 n h), rw (le-ltb (8 * len) (bits_written w + n) r.enough)))

  -- and so are bytes: an output within the limit has no room for more of them
  bytes_accepted : (n : ℕ) → Room len w (8 * n) → bytes_refusal len w n ≡ done
  unfolding bytes_refusal
  bytes_accepted n r =
      let short : n ≤ longest = omega (arith, r.enough, r.belongs.short) in
      all_pass _ (rw (le-ltb longest n short), (belongs_refusal len (state_in w) r.belongs, rw (le-ltb (8 * len) (bits_written w + 8 * n) r.enough)))

pub item_stored : (o : Order) (s : List ℕ) (w : Writer) {n : ℕ} {e : Item} → bits_written w ≡ n → Fits e → Room (length s) w (bits n e)
    → Stored o s w (bits n e) (worth o e) (item_out o s w e) (item_of o (length s) w e)
unfolding worth bits item_of item_out
item_stored o s w at (unsigned_fits {w = k} {v} a b) r =
    subst (λ (x : ℕ). Stored o s w k x (write_out o s w k v) (write_of o (length s) w k v)) (mod-eq_of_lt b)
    (write_stored o s w k v (write_accepted (length s) w k v a b r))
item_stored o s w at (signed-fits {w = k} {z} a b) r = signed_stored o s w k z (signed_accepted (length s) w k z a r)
item_stored o s w at (bytes_fit {bs} h l) r = bytes_stored o s w bs h (bytes_accepted (length s) w (length bs) r)
item_stored o s w {n} at flush_fits r =
    let few = r.belongs.few in
    let e : padding w ≡ (8 - n % 8) % 8 = omega arith in
    subst (λ (k : ℕ). Stored o s w k 0 (flush_out o s w) (flush_of o (length s) w)) e (flush_stored o s w (belongs_refusal (length s) (state_in w) r.belongs))

-- ---- read

-- a byte of bytes whose field stands in a slice
byte_is : (o : Order) (s : List ℕ) (p : ℕ) (bs : List ℕ) → ((i : ℕ) → get_or bs i 0 < 256) → field o s p (8 * length bs) ≡ field o bs 0 (8 * length bs)
    → (i : ℕ) → i < length bs → field o s (p + 8 * i) 8 ≡ get_or bs i 0
byte_is o s p bs h e i l =
    let a : ℕ = 8 * i in
    let b : ℕ = 8 * length bs - (8 * i + 8) in
    let c : 8 * length bs ≡ 8 * i + (8 + (8 * length bs - (8 * i + 8))) = omega arith in
    let all : field o s p (a + (8 + b)) ≡ field o bs 0 (a + (8 + b)) = subst (λ (n : ℕ). field o s p n ≡ field o bs 0 n) c e in
    let more : field o s (p + a) (8 + b) ≡ field o bs (0 + a) (8 + b) =
    tail_is o s p a (8 + b) (field_lt o bs 0 a) (field_lt o bs (0 + a) (8 + b)) (all ∙ field_split o bs 0 a (8 + b)) in
    head_is o s (p + a) 8 b (field_lt o bs (0 + a) 8) (field_lt o bs (0 + a + 8) b) (more ∙ field_split o bs (0 + a) 8 b)
    ∙ ap (λ (k : ℕ). field o bs k 8) (zero-add a) ∙ field_byte o bs i (h i)

-- a number within the range of its width comes back from its bits
pub in_range_lem : (w : ℕ) (z : ℤ) → InRange w z → S.signed w (pattern w z) ≡ z
unfolding InRange S.signed
in_range_lem zero z h = sym h
in_range_lem (suc j) z h = signed-pattern j z h

-- the answer r gives the item, and its cursor is n bits after c
pub record Given (o : Order) (s : List ℕ) (c : Cursor) (n : ℕ) (e : Item) (r : Answer) : Type 0 where
  pub accepted : r.refusal ≡ done
  pub same : r.value ≡ value_of e
  pub ahead : Advanced o s n c r.cursor

module _ (o : Order) (s : List ℕ) (c : Cursor) (h : cursor_refusal o s c ≡ done) where
  bytes_enough : (n : ℕ) → n ≤ longest → 8 * n ≤ bits_left s c → R.bytes_refusal o s c n ≡ done
  unfolding R.bytes_refusal
  bytes_enough n short enough =
      let l : n ≤ bytes_left s c = bits_bytes (refusal_own h).fits enough in
      all_pass _ (rw (le-ltb longest n short), (h, rw (le-ltb (bytes_left s c) n l)))

  -- n bits before the cursor
  pub item_given : (n : ℕ) {e : Item} → length s ≤ longest → n + bits_left s c ≡ 8 * length s → Fits e → bits n e ≤ bits_left s c
      → field o s (place c) (bits n e) ≡ worth o e → Given o s c (bits n e) e (answer_of o s c (request_of e))
  unfolding worth bits answer_of request_of value_of R.bytes_of
  item_given n short at (unsigned_fits {w} {v} a b) enough f =
      let z = read_enough o s c w h a enough in
      record { accepted = read_refusal_lem o s c w ∙ z; same = ap number (read_value o s c w z ∙ f); ahead = read_advanced o s c w z }
  item_given n short at (signed-fits {w} {z = x} a b) enough f =
      let z = read_enough o s c w h a enough in
      record {
        accepted = read_refusal_lem o s c w ∙ z;
        same = ap integer (ap (S.signed w) (read_value o s c w z ∙ f) ∙ in_range_lem w x b);
        ahead = read_advanced o s c w z;
      }
  item_given n short at (bytes_fit {bs} {buffer} b l) enough f =
      let m : length buffer ≤ longest = omega arith in
      let enough' : 8 * length buffer ≤ bits_left s c = omega arith in
      let z = bytes_enough (length buffer) m enough' in
      let sized : length (R.bytes_out o s c buffer) ≡ length bs = ap length (bytes_octets o s c buffer z) ∙ length-octets o s (place c) (length buffer) ∙ l in
      let each : (i : ℕ) → i < length (R.bytes_out o s c buffer) → get_or (R.bytes_out o s c buffer) i 0 ≡ get_or bs i 0 =
      λ i k. bytes_field o s c buffer z i (omega arith) ∙ byte_is o s (place c) bs b f i (omega arith) in
      record {
        accepted = z;
        same = ap list (ext_get_or 0 (R.bytes_out o s c buffer) bs sized each);
        ahead = subst (λ (k : ℕ). Advanced o s (8 * k) c (R.bytes_of o s c (length buffer)).cursor) l (bytes_advanced o s c (length buffer) z);
      }
  item_given n short at flush_fits enough f =
      let w : ℕ = bits_left s c % 8 in
      let same_bits : (8 - n % 8) % 8 ≡ bits_left s c % 8 = omega arith in
      let z = read_enough o s c w h (omega arith) (omega arith) in
      record {
        accepted = read_refusal_lem o s c w ∙ z;
        same = ap number (read_value o s c w z ∙ ap (field o s (place c)) (sym same_bits) ∙ f);
        ahead = subst (λ (k : ℕ). Advanced o s k c (read_of o s c w).cursor) (sym same_bits) (read_advanced o s c w z);
      }
