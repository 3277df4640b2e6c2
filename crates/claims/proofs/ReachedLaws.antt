-- Every writer and every cursor that calls make belongs, and a call leaves the end where it is, by one induction each: a refused call answers what came, and of each call that is
-- done its crate has a law that what it answers belongs. Assumes nothing.
use Prim.Native.Nat.{ℕ, ◌+◌, ◌≤◌}
use mathlib.Core.Path.{◌≡◌, refl, sym, ap, ◌∙◌, subst}
use mathlib.Core.List.{List}
use native.Mathlib.Omega.{arith}
use lib.ListN.{length, replicate, length-replicate}
use lib.Dec.{eqb}
use lib.IntN.{ℤ}
use Rattle.record.specs.declared.Record.{Record}
use Rattle.bits.specs.declared.Order.{Order}
use Rattle.bits.specs.declared.Order.TheVariants.{Big}
use Rattle.bits.specs.Refusals.{longest, done}
use Rattle.bits.proofs.RefusalLaws.{if_holds}
use Rattle.bits.proofs.TestLaws.{by_test}
use Rattle.floats.specs.Floats.{double_bits}
use Rattle.floats.proofs.FloatLaws.{cond_either}
use Rattle.packing.specs.Packing.{Belongs}
use Rattle.packing.proofs.BelongsLaws.{belongs_refusal}
use Rattle.reader.specs.declared.Cursor.{Cursor}
use Rattle.reader.specs.Answers.{ReadTold}
use Rattle.reader.specs.Cursor.{place, stop, gone_to, cursor_refusal}
use Rattle.reader.specs.Answers as R
use Rattle.reader.proofs.CursorLaws.{refusal_own, gone_stop}
use Rattle.reader.proofs.EndLaws.{stop_stays, read_stop, bytes_stop, consume_stop, refill-stop, lower_belongs}
use Rattle.reader.proofs.ReadLaws.{fresh_belongs, read_belongs, bytes_advanced, consume_advanced, refill_advanced}
use Rattle.writer.specs.declared.Writer.{Writer}
use Rattle.writer.specs.Writer.{state_in, writer_refusal}
use Rattle.writer.specs.Answers as W
use Rattle.writer.proofs.WriteLaws.{new_belongs, write_stored, signed_stored, bytes_stored, flush_stored}
use Rattle.typed.specs.declared.Typed.{Typed}
use Rattle.typed.specs.declared.Typed.TheVariants as Case
use Rattle.typed.specs.Typed.{width_of}
use Rattle.typed.specs.Answers as T
use Rattle.layout.specs.Layout.{bits_of}
use Rattle.plan.specs.Run.{fields_of, run_refusal, run_of}
use Rattle.plan.proofs.Theorems.{run-belongs}
use Rattle.record.specs.Record.{record_bits}
use Rattle.strip.specs.Answers as S
use Rattle.strip.proofs.AnswerLaws.{pack_stored, record_belongs}
use Rattle.claims.specs.Reached as Made
use Rattle.claims.specs.Reached.{Reached, Only, Called, ReachedCursor, cursor_of}

-- ---- writers

-- at most seven bits are held, and within the limit the writer belongs
abbrev Kept : ℕ → Writer → Type 0
Kept len w = (w.held ≤ 7) × (len ≤ longest → writer_refusal len w ≡ done)

belongs_kept : {len : ℕ} {w : Writer} → Belongs len (state_in w) → Kept len w
belongs_kept {len} {w} h = (h.few, λ short. belongs_refusal len (state_in w) h)

-- what a writer answers goes by the length of its output, so it is said of any output s of that length
module _ (s : List ℕ) where
  write_kept : (w : Writer) → Kept (length s) w → (o : Order) (n v : ℕ) → Kept (length s) (W.write_of o (length s) w n v).writer
  unfolding W.write_of
  write_kept w k o n v = if_holds (Kept (length s)) _ _ _ k (λ z. belongs_kept (write_stored o s w n v z).belongs)

  signed_kept : (w : Writer) → Kept (length s) w → (o : Order) (n : ℕ) (x : ℤ) → Kept (length s) (W.signed_of o (length s) w n x).writer
  unfolding W.signed_of
  signed_kept w k o n x = if_holds (Kept (length s)) _ _ _ k (λ z. belongs_kept (signed_stored o s w n x z).belongs)

  -- typed writes are these, and a single leaves the writer that came
  typed_kept : (w : Writer) → Kept (length s) w → (o : Order) (v : Typed) (n : ℕ) → Kept (length s) (T.write_of o (length s) w v n).writer
  unfolding T.write_of W.retired_of
  typed_kept w k o (Case.Unsigned v) n = write_kept w k o n v
  typed_kept w k o (Case.Signed x) n = signed_kept w k o n x
  typed_kept w k o (Case.Single x) n = k
  typed_kept w k o (Case.Double x) n = write_kept w k o 64 (double_bits x)

  all_kept : {w : Writer} → Reached (length s) w → Kept (length s) w
  unfolding W.new_of W.retired_of W.bytes_of W.flush_of S.pack_of
  all_kept Made.new = (omega arith, λ short. belongs_refusal _ _ (new_belongs (length s) short))
  all_kept (Made.write_bits {w} r o n v) = write_kept w (all_kept r) o n v
  all_kept (Made.write_signed_bits {w} r o n x) = signed_kept w (all_kept r) o n x
  all_kept (Made.write_f32 r) = all_kept r
  all_kept (Made.write_bytes {w} r o bs small) = if_holds (Kept (length s)) _ _ _ (all_kept r) (λ z. belongs_kept (bytes_stored o s w bs small z).belongs)
  all_kept (Made.flush {w} r o) = if_holds (Kept (length s)) _ _ _ (all_kept r) (λ z. belongs_kept (flush_stored o s w z).belongs)
  all_kept (Made.write_typed {w} r o v n) = typed_kept w (all_kept r) o v n
  all_kept (Made.pack_record {w} r x) = if_holds (Kept (length s)) _ _ _ (all_kept r) (λ z. belongs_kept (pack_stored s w x z).belongs)

pub writer_kept : {len : ℕ} {w : Writer} → Reached len w → Kept len w
writer_kept {len} {w} = subst (λ (n : ℕ). Reached n w → Kept n w) (length-replicate len 0) (all_kept (replicate len 0))

-- ---- cursors

-- the cursor of a typed read is that of the read beneath it
typed_cursor : (e : ℕ) (v : Typed) (c : Cursor) → cursor_of (T.answered e v c) ≡ c
unfolding cursor_of T.answered
typed_cursor e v c = by_test (eqb e done) (λ t. rw t refl) (λ t. rw t refl)

-- of a slice within the limit, by calls in some orders, the order p among them
module _ (In : Order → Type 0) (s : List ℕ) (short : length s ≤ longest) (p : Order) (some : In p) where
  -- in one of these orders the cursor belongs
  abbrev Owned : Cursor → Type 0
  Owned c = (o : Order) × In o × (cursor_refusal o s c ≡ done)

  read_owned : (c : Cursor) → Owned c → (o : Order) → In o → (w : ℕ) → Owned (R.read_of o s c w).cursor
  unfolding R.read_of
  read_owned c k o a w = if_holds (λ (r : ReadTold ℕ). Owned r.cursor) _ _ _ k (λ z. (o, a, read_belongs o s c w z))

  called_owned : {c : Cursor} {o : Order} {d : Cursor} → Owned c → In o → Called s c o d → Owned d
  unfolding R.bytes_of R.consume_of R.refill_of T.read_of run_of S.read_of
  called_owned {c} {o = o} k a (Made.read_bits w) = read_owned c k o a w
  called_owned {c} {o = o} k a (Made.read_bytes n) = if_holds Owned _ _ _ k (λ z. (o, a, (bytes_advanced o s c n z).belongs))
  called_owned {c} {o = o} k a (Made.consume n) = if_holds Owned _ _ _ k (λ z. (o, a, (consume_advanced o s c n z).belongs))
  called_owned {c} {o = o} k a Made.refill_lookahead = if_holds Owned _ _ _ k (λ z. (o, a, (refill_advanced o s c z).belongs))
  called_owned {c} {o = o} k a (Made.read_typed kind w) = subst Owned (sym (typed_cursor _ _ _)) (read_owned c k o a (width_of kind w))
  called_owned {c} {o = o} k a (Made.run q room) = if_holds Owned _ _ _ k (λ z. (o, a, run-belongs o s c q room z))
  called_owned {c} k a Made.read_record = if_holds (λ (x : ReadTold Record). Owned x.cursor) _ _ _ k (λ z. (Big, a, record_belongs s c z))

  pub cursor_owned : {c : Cursor} → ReachedCursor In s c → Owned c
  unfolding R.lower_of
  cursor_owned Made.new = (p, some, fresh_belongs s short p)
  cursor_owned (Made.next r a x) = called_owned (cursor_owned r) a x
  cursor_owned (Made.lower_end {c} {o} r a e) = if_holds Owned _ _ _ (cursor_owned r) (λ z. (o, a, lower_belongs o s c e z))

-- a call in one order from a cursor that belongs leaves one that belongs
pub called_belongs : {s : List ℕ} {c d : Cursor} {o : Order} → cursor_refusal o s c ≡ done → Called s c o d → cursor_refusal o s d ≡ done
called_belongs {s} {c} {d} {o} own x =
    let (q, same, belongs) = called_owned (Only o) s (refusal_own own).fits.short o refl (o, refl, own) refl x in
    subst (λ (r : Order). cursor_refusal r s d ≡ done) same belongs

-- and in any order the end stays
pub called_stop : {s : List ℕ} {c : Cursor} {o : Order} {d : Cursor} → Called s c o d → stop s d ≡ stop s c
unfolding T.read_of run_of S.read_of
called_stop {s} {c} {o = o} (Made.read_bits w) = read_stop o s c w
called_stop {s} {c} {o = o} (Made.read_bytes n) = bytes_stop o s c n
called_stop {s} {c} {o = o} (Made.consume n) = consume_stop o s c n
called_stop {s} {c} {o = o} Made.refill_lookahead = refill-stop o s c
called_stop {s} {c} {o = o} (Made.read_typed k w) = ap (stop s) (typed_cursor _ _ _) ∙ read_stop o s c (width_of k w)
called_stop {s} {c} {o = o} (Made.run q room) = let p = place c + bits_of (fields_of q) in stop_stays o s c (run_refusal o s c q room) (gone_to o s c p) (gone_stop o s c p)
called_stop {s} {c} Made.read_record = cond_either (λ (x : ReadTold Record). stop s x.cursor ≡ stop s c) (eqb (S.read_refusal s c) done) (λ z. gone_stop Big s c (place c + record_bits)) (λ z. refl)
