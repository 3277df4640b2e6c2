-- Laws of answers: what a refusal number says, and what is answered and left with it.
use Prim.Native.Nat.{ℕ, ◌*◌, ◌/◌, ◌<◌, ◌≤◌}
use mathlib.Core.Path.{◌≡◌, sym, ap, ◌∙◌}
use mathlib.Core.Bool.{true, false}
use mathlib.Core.List.{List}
use lib.ListN.{length}
use lib.Seq.{sets}
use native.Mathlib.Omega.{arith}
use borrow.Author.Tests.{lt-ltb, le-ltb, ne_eqb}
use Rattle.std.specs.Prelude.{Result, Err}
use Rattle.std.specs.Result.{IsErrAnd}
use Rattle.std.proofs.lemmas.Result.{err_from_is_err_and}
use Rattle.bits.specs.Refusals.{longest, done, too_long, bad_line, no_room, or_else, first_refusal, LengthTold}
use Rattle.bits.proofs.RefusalLaws.{passed, test_held, at_most, number_ne}
use Rattle.record.specs.declared.Record.{Record}
use Rattle.record.specs.Record.{record_bits}
use Rattle.strip.specs.Strip.{strip_length, strip_bytes}
use Rattle.text.specs.declared.PackError.{PackError}
use Rattle.text.specs.declared.PackError.TheVariants.{Refused, BadLine}
use Rattle.text.specs.Text.{header, text_of, headed, Lines, body_of, bad_line_of}
use Rattle.text.specs.Answers.{Packed, Found, found_told, found_of, packed_told, list_refusal, pack_refusal, pack_of, pack_out}
use Rattle.text.proofs.HeaderLaws.{headed_long}
use Rattle.text.proofs.LinesLaws.{all_read_lem}

-- ---- listing

-- an answer of two parts
abbrev pub listed : ℕ → ℕ → LengthTold
listed e n = record { refusal = e; length = n }

pub list_passed : (s : List ℕ) (len : ℕ) → list_refusal s len ≡ done → (length s ≤ longest) × (length (text_of s) ≤ len)
unfolding list_refusal
list_passed s len z = let (short, (_, room)) = passed _ z in (at_most _ _ _ short, at_most _ _ _ room)

-- ---- packing

-- a refusal with a line
abbrev pub found : ℕ → ℕ → Found
found e n = record { refusal = e; line = n }

module _ (t : List ℕ) (len : ℕ) where
  pub long_text : longest < length t → found too_long 0 ≡ found_of t len
  unfolding pack_refusal first_refusal or_else
  long_text h = rw (lt-ltb longest (length t) h)

  module _ (short : length t ≤ longest) where
    pub long_out : longest < len → found too_long 0 ≡ found_of t len
    unfolding pack_refusal first_refusal or_else
    long_out h = rw (le-ltb longest (length t) short, lt-ltb longest len h)

    module _ (short-out : len ≤ longest) where
      pub other_header : headed header t ≡ false → found bad_line 1 ≡ found_of t len
      unfolding pack_refusal first_refusal or_else
      other_header e = rw (le-ltb longest (length t) short, le-ltb longest len short-out, e)

      pub bad_line_lem : (n : ℕ) → headed header t ≡ true → (body_of t).good ≡ false → n ≡ bad_line_of t → found bad_line n ≡ found_of t len
      unfolding pack_refusal first_refusal or_else
      bad_line_lem n e f k =
          rw (le-ltb longest (length t) short, le-ltb longest len short-out, e, f) (ap (found bad_line) (rw e at k))

      module _ (e : headed header t ≡ true) (n : ℕ) (count : n ≡ length (body_of t).records) where
        pub no_room_lem : (body_of t).good ≡ true → 8 * len / record_bits < n → found no_room 0 ≡ found_of t len
        unfolding pack_refusal first_refusal or_else
        no_room_lem f h =
            let k : len < strip_length (length (body_of t).records) = omega arith in
            rw (le-ltb longest (length t) short, le-ltb longest len short-out, e, f, lt-ltb _ _ k)

        pub has_room : (body_of t).good ≡ true → n ≤ 8 * len / record_bits → found done 0 ≡ found_of t len
        unfolding pack_refusal first_refusal or_else
        has_room f h =
            let k : strip_length (length (body_of t).records) ≤ len = omega arith in
            rw (le-ltb longest (length t) short, le-ltb longest len short-out, e, f, le-ltb _ _ k)

-- what a text that packs has passed
pub pack_tests : (t : List ℕ) (len : ℕ) → pack_refusal t len ≡ done
    → (length t ≤ longest) × (len ≤ longest) × (headed header t ≡ true) × ((body_of t).good ≡ true) × (strip_length (length (body_of t).records) ≤ len)
unfolding pack_refusal
pack_tests t len z =
    let (short, (short-out, (head, (good, room)))) = passed _ z in
    (at_most _ _ _ short, at_most _ _ _ short-out, test_held _ _ head, test_held _ _ good, at_most _ _ _ room)

pub pack_passed : (t : List ℕ) (len : ℕ) → pack_refusal t len ≡ done
    → (length header ≤ length t) × (length t ≤ longest) × (len ≤ longest) × ((body_of t).good ≡ true) × (strip_length (length (body_of t).records) ≤ len)
pack_passed t len z =
    let (short, short-out, head, good, room) = pack_tests t len z in
    (headed_long header t head, short, short-out, good, room)

-- an answer of three parts
abbrev pub packed : ℕ → ℕ → ℕ → Packed
packed e n line = record { refusal = e; length = n; line = line }

module _ (t out : List ℕ) {f : Found} (g : f ≡ found_of t (length out)) where
  refusal_is : f.refusal ≡ pack_refusal t (length out)
  refusal_is = ap (λ (x : Found). x.refusal) g

  pub pack_refused : (f.refusal ≡ done → ⊥) → (packed f.refusal 0 f.line ≡ pack_of t (length out)) × (out ≡ pack_out t out)
  unfolding pack_of pack_out
  pack_refused h =
      let k = ne_eqb _ _ h in
      (ap (λ (x : Found). packed x.refusal 0 x.line) g ∙ rw (← refusal_is, k), rw (← refusal_is, k))

  pub pack_done : {n : ℕ} {last : List ℕ} → f.refusal ≡ done → n ≡ strip_length (length (body_of t).records) → last ≡ sets out 0 (strip_bytes (body_of t).records)
      → (packed done n 0 ≡ pack_of t (length out)) × (last ≡ pack_out t out)
  unfolding pack_of pack_out
  pack_done h e k = rw (← refusal_is, h) (ap (λ (n : ℕ). packed done n 0) e, k)

-- a `?` hands the error on as it is
pub told_on : {A : Type 0} (r : Result A PackError) (e : PackError) → IsErrAnd r (λ x. x ≡ e) → r ≡ Err e
told_on r e h = let (x, same, is) = err_from_is_err_and r h in same ∙ ap Err is

-- what the tests refuse, packing refuses
pub pack_error : (t out : List ℕ) (e : PackError) → found_told {A = ℕ} (Err e) ≡ found_of t (length out)
    → (packed_told (Err e) ≡ pack_of t (length out)) × (out ≡ pack_out t out)
pack_error t out (Refused e) g = pack_refused t out g (number_ne e)
pack_error t out (BadLine n) g = pack_refused t out g (λ z. absurd (omega arith))

-- a text whose lines are read as records, all good
module _ (t out : List ℕ) (short : length t ≤ longest) (short-out : length out ≤ longest) (head : headed header t ≡ true) where
  pub pack_read : (rs : List Record) → body_of t ≡ all_read_lem rs → strip_length (length rs) ≤ length out
      → (pack_of t (length out) ≡ packed done (strip_length (length rs)) 0) × (pack_out t out ≡ sets out 0 (strip_bytes rs))
  unfolding pack_of pack_out
  pack_read rs read room =
      let good = ap (λ (l : Lines). l.good) read in
      let count = ap (λ (l : Lines). length l.records) (sym read) in
      let fine = has_room t (length out) short short-out head (length rs) count good (omega arith) in
      let z : pack_refusal t (length out) ≡ done = ap (λ (f : Found). f.refusal) (sym fine) in
      rw z (ap (λ (l : Lines). packed done (strip_length (length l.records)) 0) read, ap (λ (l : Lines). sets out 0 (strip_bytes l.records)) read)
