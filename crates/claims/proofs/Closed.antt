-- Each statement of specs/Claims.antt, by the theorems of its crate.
use Prim.Native.Nat.{ℕ, ◌+◌, ◌*◌, ◌%◌, ◌≤◌}
use mathlib.Core.Path.{◌≡◌, refl, sym, ap, ◌∙◌, subst}
use mathlib.Core.Bool.{true, false}
use mathlib.Core.List.{List, [], ◌∷◌, map}
use native.Mathlib.Nat.{add-zero}
use native.Mathlib.Omega.{arith}
use lib.ListN.{length}
use lib.Seq.{sets}
use lib.Dec.{eqb, ltb}
use borrow.Author.Tests.{ltb-true, ltb-false, le-ltb, lt-leb, eqb-true}
use Rattle.record.specs.declared.Record.{Record}
use Rattle.bits.specs.declared.Order.{Order}
use Rattle.bits.specs.declared.Order.TheVariants.{Big}
use Rattle.bits.specs.Refusals.{longest, done, or_else, first_refusal, if_done, Told}
use Rattle.bits.proofs.RefusalLaws.{passed, test_held, if_refused, if_done_lem, number_of}
use Rattle.bits.proofs.TestLaws.{both, by_test}
use Rattle.sign.specs.Extend.{extend_refusal, extend_of}
use Rattle.sign.proofs.SignedLaws.{pattern-signed}
use Rattle.reader.specs.Answers.{Moved}
use Rattle.reader.specs.Answers.{ReadTold}
use Rattle.reader.specs.declared.Cursor.{Cursor}
use Rattle.reader.specs.Cursor.{bits_left, cursor_refusal}
use Rattle.reader.specs.Answers as R
use Rattle.reader.proofs.CursorLaws.{refusal_own, left_stop, stop-inside}
use Rattle.reader.proofs.AnswerLaws.{read_refusal_lem, bytes_none, none_out}
use Rattle.reader.proofs.ReadLaws.{fresh_done, fresh_belongs, fresh_place, fresh_stop, fresh_left, read_refused, read_enough, read_short, read_value, read_place, read_left, read_belongs, peek_value, consume_advanced, refill_advanced, bytes_advanced, bytes_field}
use Rattle.reader.proofs.RemainderLaws.{remainder_where, remainder_none}
use Rattle.packing.specs.Packing.{Belongs, state_refusal}
use Rattle.writer.specs.declared.Writer.{Writer}
use Rattle.writer.specs.Answers.{Wrote}
use Rattle.writer.specs.Writer.{state_in}
use Rattle.writer.specs.Answers as W
use Rattle.writer.proofs.WriteLaws.{Stored, write_stored, signed_stored, bytes_stored, flush_stored}
use Rattle.packing.proofs.BelongsLaws.{belongs_refusal, refusal_belongs, many_held}
use Rattle.writer.proofs.AnswerLaws.{single_refused, write_accepted}
use Rattle.inplace.proofs.Theorems.{consume_refused, refill_refused, lower_refused}
use Rattle.floats.proofs.FloatLaws.{single_same, double_same, single_plain, double_plain}
use Rattle.floats.proofs.WideningLaws.{exact, signs_kept, nan_widened}
use Rattle.floats.proofs.WideningNumbers.{exact_numbers}
use Rattle.typed.specs.Typed.{widened_typed}
use Rattle.typed.specs.Answers as T
use Rattle.typed.proofs.Theorems.{bits_kept, kind_kept, read_done, read_refused as typed-refused, typed_back, others_kept, wide-lt, wide_back}
use Rattle.typed.proofs.SameLaws.{same_exactly}
use Rattle.layout.specs.Layout.{Item, items_of, are_layout, is_layout, bits_of}
use Rattle.layout.specs.Plan.{compile, decode}
use Rattle.layout.specs.Check.{is_plan}
use Rattle.layout.specs.Answers.{compile_of, compile_out, check_of}
use Rattle.layout.proofs.LayoutLaws.{layout_of}
use Rattle.layout.proofs.Theorems.{compiled_passes, plan_accepted, check_exactly, compiled_left, decode_compiled, compiled_same, plan_layout, plan_length, bytes_items, items_bytes, bytes_layout}
use Rattle.plan.specs.Run.{run_of, run_out}
use Rattle.plan.proofs.Theorems as P
use Rattle.line.specs.Grammar.{Line}
use Rattle.line.proofs.Theorems.{accepted, acceptable, refusable, nearest_date, five_exact, sixth_decides, date_bound}
use Rattle.listing.specs.Listing.{write_line, write_out}
use Rattle.listing.proofs.Theorems.{round_trip, five_decimals, line_room}
use Rattle.strip.specs.Answers.{StripTold}
use Rattle.strip.specs.Strip.{all_numbers, count_of, records_of, tail_good}
use Rattle.strip.specs.Answers as S
use Rattle.strip.proofs.Theorems.{bits_record, record_bits_lem, record_there, strip_there_and_back, fields_where, packed_out_lem, each_packed, each_read, calls_there_and_back}
use Rattle.strip.proofs.StripLaws.{length_strip, strip_same}
use Rattle.roundtrip.specs.Mixed as Trip
use Rattle.roundtrip.proofs.MixedTrip.{mixed_round_trip}
use Rattle.text.specs.Answers.{Packed}
use Rattle.text.specs.Text.{body_of}
use Rattle.vetting.proofs.Theorems.{accepted_exactly, bad_tail_exactly, fault_exactly, fault_one, told_exactly}
use Rattle.rows.specs.Answers as F
use Rattle.rows.proofs.AnswerLaws.{rows_number, packed_number}
use Rattle.rows.proofs.Theorems.{there_and_back, row_says, back_and_there, refused_exactly, strip_there_and_back as rows-of-strip-back, rows_there_and_back, bad_row_exactly, bad_row_told, tails_told}
use Rattle.text.specs.Answers as X
use Rattle.text.proofs.AnswerLaws.{pack_tests}
use Rattle.text.proofs.BadLineLaws.{bad_line_exactly, bad_or_good}
use Rattle.text.proofs.Theorems.{good_text, text_packs, text_again, packed_back}
use Rattle.jobs.specs.Answers.{answered_of, answered_out}
use Rattle.jobs.proofs.ApartLaws.{too_long_apart, bad_tail_apart, bad_line_apart, bad_row_apart, rows_too_long_apart, rows_bad_tail_apart}
use Rattle.jobs.proofs.Theorems.{list_is, pack_is, list_room, pack_room, few_back, many_lost, rows_is, pack_rows_is, rows_room, pack_rows_room, rows_back, rows_lost, check_is, check_room, packed_fine, lines_fine, packed_ok}
use Rattle.host.specs.Host.{host_value}
use Rattle.host.proofs.HostLaws.{not_refused, done-within}
use Rattle.claims.proofs.ReachedLaws.{writer_kept, cursor_owned}
use Rattle.claims.specs.Reached.{Only, Either}
use Rattle.claims.specs.Claims as C
use Rattle.claims.specs.Claims.{Entry, Fit, none, more, size, written, Stands}

-- ---- what a refusal leaves

kept : {X : Type 0} (e : ℕ) (x y : X) → (e ≡ done → ⊥) → if_done e x y ≡ y
kept e x y h = sym (if_refused refl x y h)

pub refused_reads : C.RefusedReads
unfolding R.bytes_of R.bytes_out R.consume_of R.refill_of R.lower_of
refused_reads o s c = (
  λ w h.
      let e = read_refused o s c w (λ z. h (read_refusal_lem o s c w ∙ z)) in
      (ap (λ (r : ReadTold ℕ). r.value) e, ap (λ (r : ReadTold ℕ). r.cursor) e),
  λ out h. (kept _ _ _ h, kept _ _ _ h),
  λ n h. kept _ _ _ h,
  λ h. kept _ _ _ h,
  λ e h. kept _ _ _ h,
)

pub refused_writes : C.RefusedWrites
unfolding W.write_of W.write_out W.signed_of W.signed_out W.bytes_of W.bytes_out W.flush_of W.flush_out
refused_writes o s w = (
  λ n v h. (kept _ _ _ h, kept _ _ _ h),
  λ n z h. (kept _ _ _ h, kept _ _ _ h),
  λ bs h. (kept _ _ _ h, kept _ _ _ h),
  λ h. (kept _ _ _ h, kept _ _ _ h),
)

pub refused_runs : C.RefusedRuns
unfolding run_of run_out
refused_runs o s c p out h = (kept _ _ _ h, kept _ _ _ h)

pub refused_outputs : C.RefusedOutputs
unfolding compile_of compile_out S.pack_of S.pack_out S.strip_of S.packed_out S.list_of S.list_out write_line write_out X.list_of X.list_out X.pack_of X.pack_out F.row_out F.rows_out F.packed_out answered_of answered_out
refused_outputs s out = (
  λ h. kept _ _ _ h,
  λ w r h. (kept _ _ _ h, kept _ _ _ h),
  λ n h. kept _ _ _ h,
  λ h.
      let e = S.list_refusal s (length out) in
      let none : StripTold = record { refusal = e; count = 0; tail_good = false } in
      let all : StripTold = record { refusal = done; count = count_of s; tail_good = tail_good s } in
      kept e (sets out 0 (all_numbers (records_of s))) out (λ z. h (number_of (λ (r : StripTold). r.refusal) e all none refl refl ∙ z)),
  λ r h. kept _ _ _ h,
  λ h. kept _ _ _ h,
  λ h. kept _ _ _ h,
  λ r h. kept _ _ _ h,
  λ h. kept _ _ _ (λ z. h (rows_number s (length out) ∙ z)),
  λ h. kept _ _ _ (λ z. h (packed_number s (length out) ∙ z)),
  λ h. kept _ _ _ h,
)

pub refused_in_place : C.RefusedInPlace
refused_in_place o s c d r h = (λ n p. consume_refused h o s c n p, λ p. refill_refused h o s c p, λ e p. lower_refused h o s c e p)

-- ---- the writers and cursors that calls make

pub writers_reached : C.WritersReached
writers_reached len w r = let (few, belongs) = writer_kept r in (belongs, few, λ some e. omega arith)

pub writers_made_up : C.WritersMadeUp
unfolding W.flush_of state_refusal first_refusal or_else
writers_made_up o len w short many = rw (le-ltb longest len short, many_held len (state_in w) many) (refl, refl)

pub cursors_reached : C.CursorsReached
cursors_reached s c short = (
  λ o r. let (_, same, own) = cursor_owned (Only o) s short o refl r in subst (λ (p : Order). cursor_refusal p s c ≡ done) same own,
  λ r. let (o, _, own) = cursor_owned Either s short Big tt r in (o, own),
)

-- ---- reads

pub fields_read : C.FieldsRead
fields_read o s c w own wide = (
  (
    λ e. by_test (ltb (bits_left s c) w) (λ t. ltb-true _ _ t) (λ t. absurd (let z = sym (read_refusal_lem o s c w) ∙ e in omega (arith, z, read_enough o s c w own wide (ltb-false _ _ t)))),
    λ few. read_refusal_lem o s c w ∙ read_short o s c w own wide few,
  ),
  λ enough.
      let e = read_enough o s c w own wide enough in
      (read_refusal_lem o s c w ∙ e, read_value o s c w e, read_place o s c w e, read_left o s c w e, read_belongs o s c w e),
)

pub left_is_inside : C.LeftInside
left_is_inside o s c own = (left_stop (refusal_own own).fits, stop-inside (refusal_own own).fits)

pub fresh_cursor : C.FreshCursor
fresh_cursor o s short = (fresh_done s short, fresh_belongs s short o, fresh_place s, fresh_stop s short, fresh_left s short)

pub bytes_read : C.BytesRead
unfolding R.bytes_of
bytes_read o s c out e = (bytes_field o s c out e, (bytes_advanced o s c (length out) e).ahead)

pub no_bytes_read : C.NoBytesRead
no_bytes_read o s c = (bytes_none o s c, none_out o s c)

pub manual_reads : C.ManualReads
unfolding R.peek_of R.refill_of
manual_reads o s c = (λ n e. (peek_value o s c n e, (consume_advanced o s c n e).ahead), λ e. (refill_advanced o s c e).ahead ∙ add-zero _)

pub remainder_is_where : C.RemainderWhere
remainder_is_where o s c own = (remainder_where o s c own, remainder_none o s c own)

pub sign_extends : C.SignExtends
unfolding extend_of extend_refusal first_refusal or_else
sign_extends v w wide small = (rw (le-ltb 64 w wide, lt-leb _ _ small), pattern-signed w v small)

pub host_exactly : C.HostExactly
unfolding host_value
host_exactly order p w s = (
  (λ e. let (wide, within, short) = done-within p w (length s) e in (short, wide, within), λ h. not_refused p w (length s) h.0 h.1 h.2),
  λ e. sym (if_done_lem refl _ _ e),
)

-- ---- writes

-- what a call stored stands
stand : (o : Order) (s : List ℕ) (w : Writer) {n v : ℕ} {t : List ℕ} {r : Wrote} → Stored o s w n v t r → Stands o s w n v t r.writer
stand o s w {n} {v} {t} {r} x =
    record {
      written = x.written;
      behind = x.stands;
      memory = x.memory;
      belongs = belongs_refusal (length t) (state_in r.writer) (subst (λ (k : ℕ). Belongs k (state_in r.writer)) (sym x.same_length) x.belongs);
    }

pub writes_stand : C.WritesStand
unfolding W.write_of W.signed_of W.bytes_of W.flush_of
writes_stand o s w = (
  λ n v z. stand o s w (write_stored o s w n v z),
  λ n x z. stand o s w (signed_stored o s w n x z),
  λ bs small z. stand o s w (bytes_stored o s w bs small z),
  λ z. stand o s w (flush_stored o s w z),
)

-- ---- what is written is read back

pub all_read_back : C.AllReadBack
all_read_back = mixed_round_trip

fit_written : {es : List Entry} → Fit es → Trip.Fit (map written es)
fit_written none = Trip.none
fit_written (more a b r) = Trip.more (Trip.unsigned_fits a b) (fit_written r)

size-written : (n : ℕ) (es : List Entry) → Trip.size n (map written es) ≡ size es
unfolding size Trip.size Trip.bits
size-written n [] = refl
size-written n (e ∷ es) = ap (λ (k : ℕ). e.width + k) (size-written (n + e.width) es)

pub fields_read_back : C.FieldsReadBack
fields_read_back o s es short fit room =
    all_read_back o s (map written es) short (fit_written fit) (subst (λ (k : ℕ). k ≤ 8 * length s) (sym (size-written 0 es)) room)

-- ---- typed values

pub bits_are_kept : C.BitsKept
bits_are_kept k b h = (bits_kept k b h, kind_kept k b)

pub floats_same : C.FloatsSame
floats_same = (single_same, double_same, λ b n. (single_plain b n, double_plain b n))

pub typed_reads : C.TypedReads
typed_reads o s c k w = (read_done o s c k w, typed-refused o s c k w)

pub typed_same : C.TypedSame
typed_same = same_exactly

pub typed_read_back : C.TypedBack
typed_read_back = typed_back

-- ---- singles

pub singles_retired : C.SinglesRetired
unfolding W.retired_of W.write_of T.write_of T.write_out
singles_retired o s w x n v h = (ap (λ (e : ℕ). record { refusal = e; writer = w }) (single_refused (length s) w v h), refl, refl)

pub widened_exact : C.WidenedExact
widened_exact = exact

pub widened_numbers : C.WidenedNumbers
widened_numbers = exact_numbers

pub widened_others : C.WidenedOthers
widened_others x = let (plus, minus, up, down) = signs_kept x in (plus, minus, up, down, nan_widened x)

pub widened_read_back : C.WidenedBack
unfolding W.write_of
widened_read_back o s w x = (
  wide-lt x,
  λ own room. write_accepted (length s) w 64 _ (omega arith) (wide-lt x) (record { belongs = refusal_belongs (length s) (state_in w) own; enough = room }),
  wide_back o s w x,
)

pub typed_widened : C.TypedWidened
unfolding widened_typed
typed_widened = (λ x. refl, others_kept)

-- ---- plans

runs : (o : Order) (s : List ℕ) (c : Cursor) (fs : List Item) (out : List ℕ) → are_layout fs ≡ true → cursor_refusal o s c ≡ done
    → length fs ≤ length out → C.Runs o s c (compile fs) fs out
runs o s c fs out layout own room = (
  (
    λ e. by_test (ltb (bits_left s c) (bits_of fs)) (λ t. ltb-true _ _ t) (λ t. absurd (omega (arith, e, (P.compile-run o s c fs out layout own room (ltb-false _ _ t)).0))),
    λ few. ap (λ (m : Moved). m.refusal) (P.compile-run_short o s c fs out layout own room few).0,
  ),
  P.compile-run_short o s c fs out layout own room,
  λ enough. (
    (P.compile-run o s c fs out layout own room enough).0,
    P.field_value o s c fs out layout own room enough,
    P.others_kept o s c fs out layout own room enough,
    (P.compile-run o s c fs out layout own room enough).2,
    P.compile-run-belongs o s c fs out layout own room enough,
  ),
  P.run_reads_refusal o s c fs out layout own room,
  P.run_reads o s c fs out layout own room,
)

pub plans_left : C.PlansLeft
plans_left = compiled_left

pub plan_runs : C.PlanRuns
plan_runs o s c l m out z own room =
    let (left, layout) = compiled_left l m z in
    subst (λ (p : List ℕ). C.Runs o s c p (items_of l) out) (sym left) (runs o s c (items_of l) out layout own room)

pub plans_refused : C.PlansRefused
plans_refused = check_exactly

pub plans_exactly : C.PlansExactly
unfolding check_of
plans_exactly p = (
  λ e. let plan = test_held (is_plan p) _ (passed _ e).1 in (decode 0 p, (plan_layout p plan).0, (plan_layout p plan).1),
  λ l. plan_accepted p (subst (λ (x : List ℕ). is_plan x ≡ true) l.2 (compiled_passes l.0 l.1)),
)

pub plans_decode : C.PlansDecode
unfolding check_of
plans_decode = (
  λ fs e. decode_compiled fs (layout_of fs e).1,
  λ p e. plan_layout p (test_held (is_plan p) _ (passed _ e).1),
)

pub one_layout : C.OneLayout
one_layout fs gs e f = (compiled_same fs gs (layout_of fs e).1 (layout_of gs f).1, plan_length (compile fs) (compiled_passes fs e))

pub layout_bytes : C.LayoutBytes
unfolding is_layout
layout_bytes = (
  λ fs e. (bytes_layout fs ∙ e, bytes_items fs),
  λ s e. items_bytes s (eqb-true _ _ (both {a = eqb (length s % 2) 0} e).0),
)

-- ---- lines

pub lines_exactly : C.LinesExactly
lines_exactly s r short = (
  λ e. subst (Line s) (ap (λ (a : Told Record). a.value) e) (accepted s (ap (λ (a : Told Record). a.refusal) e)),
  λ l. acceptable short l,
)

pub lines_else : C.LinesElse
lines_else = refusable

pub lines_back : C.LinesBack
lines_back r fit = let (size, few) = line_room r fit in (round_trip r fit, five_decimals r, omega (arith, size, few))

pub dates_nearest : C.DatesNearest
dates_nearest s r l = (nearest_date l, five_exact l)

pub sixth_decides_date : C.SixthDecides
sixth_decides_date s r l = sixth_decides l

pub dates_bounded : C.DatesBounded
dates_bounded = date_bound

-- ---- records and strips

pub record_bits_are : C.RecordBits
record_bits_are s p = (record_bits_lem s p, bits_record s p)

pub record_back : C.RecordBack
record_back = record_there

pub strip_back : C.StripBack
strip_back rs fit = let (records, tail) = strip_there_and_back rs fit in (length_strip rs, records, tail, fields_where rs fit)

pub strip_is_same : C.StripSame
strip_is_same = strip_same

pub strip_packed : C.StripPacked
unfolding S.strip_of
strip_packed ns n s z =
    let (packs, flushes, size, memory) = each_packed ns n s z in
    (packed_out_lem ns n s z, packs, flushes, size, memory)

pub each_is_read : C.EachRead
each_is_read = each_read

pub numbers_back : C.NumbersBack
numbers_back = calls_there_and_back

-- ---- texts

pub texts_pack : C.TextsPack
texts_pack t out rs short short-out good room = text_packs out good short short-out room

pub texts_exactly : C.TextsExactly
unfolding X.pack_of
texts_exactly t out short short-out = (
  λ z. ((body_of t).records, good_text t (length out) z, (pack_tests t (length out) z).4),
  λ g. ap (λ (a : Packed). a.refusal) (texts_pack t out g.0 short short-out g.1 g.2).0,
)

pub bad_line_is : C.BadLineExactly
bad_line_is = bad_line_exactly

pub bad_line_there : C.BadLineThere
bad_line_there = bad_or_good

pub texts_again : C.TextsAgain
texts_again t out rs g decimals short short-out room = text_again out g decimals short short-out room

pub texts_back : C.TextsBack
texts_back = packed_back

-- ---- FITS rows

pub row_back : C.RowBack
row_back out r z = (row_says out r z, there_and_back out r z)

pub row_same : C.RowSame
row_same = back_and_there

pub rows_refused : C.RowsRefused
rows_refused = refused_exactly

pub strips_rows_back : C.StripsRowsBack
strips_rows_back = rows-of-strip-back

pub rows_strips_back : C.RowsStripsBack
rows_strips_back = rows_there_and_back

pub bad_row_is : C.BadRowExactly
bad_row_is s len i short short-out room =
    let (first, last) = bad_row_told s len i short short-out room in
    let (from, to) = bad_row_exactly s i in
    (λ told. from (first told), λ (there, bad, before). last (to there bad before))

pub tails_are_told : C.TailsTold
tails_are_told = tails_told

-- ---- strips from other apps

pub accepted_is : C.Accepted
accepted_is = accepted_exactly

pub faults_exactly : C.FaultsExactly
faults_exactly = (λ s n r short. fault_exactly s short n r, fault_one)

pub tails_last : C.TailsLast
tails_last = bad_tail_exactly

pub verdicts_told : C.VerdictsTold
verdicts_told = told_exactly

pub packed_accepted : C.PackedAccepted
packed_accepted = packed_fine

pub lines_accepted : C.LinesAccepted
lines_accepted = lines_fine

-- ---- programs

pub answers_are : C.AnswersAre
answers_are = (list_is, pack_is)

pub row_answers_are : C.RowAnswersAre
row_answers_are = (rows_is, pack_rows_is)

pub check_answers_are : C.CheckAnswersAre
check_answers_are = (check_is, packed_ok)

pub messages_apart : C.MessagesApart
messages_apart rs = (
  λ fit. (too_long_apart rs, bad_tail_apart rs, λ n small. (bad_line_apart rs n fit small, bad_row_apart rs n fit small)),
  rows_too_long_apart rs,
  rows_bad_tail_apart rs,
)

pub answers_fit : C.AnswersFit
answers_fit = (
  λ s. (omega (arith, list_room s), omega (arith, rows_room s), omega (arith, check_room s)),
  λ t. (omega (arith, pack_room t), omega (arith, pack_rows_room t)),
)

pub answers_back : C.AnswersBack
answers_back = (few_back, many_lost)

pub row_answers_back : C.RowAnswersBack
row_answers_back = (rows_back, rows_lost)
