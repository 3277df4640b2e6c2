-- What is promised of whole texts, in words of the definitions.
use mathlib.Core.Path.{◌≡◌, sym, ap, ap₂, ◌∙◌}
use mathlib.Core.Bool.{Bool, true, cond}
use mathlib.Core.List.{List, [], ◌++◌, append-nil}
use Prim.Native.Nat.{ℕ, ◌^◌, ◌<◌, ◌≤◌}
use native.Mathlib.Omega.{arith}
use lib.ListN.{length, get_or, take, drop}
use lib.Seq.{sets}
use Rattle.bits.specs.Refusals.{longest, done}
use Rattle.bits.proofs.StoreLaws.{front_take}
use Rattle.record.specs.declared.Record.{Record}
use Rattle.strip.specs.Strip.{all_fit, strip_length, strip_bytes, count_of, records_of, tail_good}
use Rattle.strip.proofs.PackedLaws.{records_fit}
use Rattle.strip.proofs.StripLaws.{length_strip, strip_same}
use Rattle.strip.proofs.Theorems.{strip_there_and_back}
use Rattle.text.specs.Text.{header, bad_tail, listed, text_of, headed, Lines, lines_of, body_of}
use Rattle.text.specs.Answers.{Packed, pack_refusal, pack_of, pack_out}
use Rattle.text.specs.Grammar.{AllFive, GoodText}
use Rattle.text.proofs.LinesLaws.{all_read_lem, body_fits}
use Rattle.text.proofs.AnswerLaws.{packed, pack_tests, pack_read}
use Rattle.text.proofs.GrammarLaws.{headed-append, headed_is, body_append, listed_lines, spelled_lines, good_many, text_same}

-- ---- which texts pack

-- good-text: a text that packs is the header and lines of the grammar, one a record
pub good_text : (t : List ℕ) (len : ℕ) → pack_refusal t len ≡ done → GoodText t (body_of t).records
good_text t len z =
    let (_, _, head, good, _) = pack_tests t len z in
    record { body = drop (length header) t; text = headed_is header t head; lines = good_many _ _ good }

-- it begins with the header, and its lines are read as those records
pub good_head : {t : List ℕ} {rs : List Record} → GoodText t rs → headed header t ≡ true
good_head g = ap (headed header) g.text ∙ headed-append header g.body

pub good_body : {t : List ℕ} {rs : List Record} → GoodText t rs → body_of t ≡ all_read_lem rs
good_body g =
    let l = g.lines in
    ap body_of g.text ∙ body_append g.body ∙ ap lines_of l.text ∙ spelled_lines l.parts l.good ∙ ap all_read_lem (sym l.names)

-- which fit
pub good_fits : {t : List ℕ} {rs : List Record} → GoodText t rs → all_fit rs ≡ true
good_fits {t} g = ap (λ (l : Lines). all_fit l.records) (sym (good_body g)) ∙ body_fits t

-- text-packs: such a text within the limit packs wherever there is room, into the strip of its records
pub text_packs : {t : List ℕ} {rs : List Record} (out : List ℕ) → GoodText t rs → length t ≤ longest → length out ≤ longest → strip_length (length rs) ≤ length out
    → (pack_of t (length out) ≡ packed done (strip_length (length rs)) 0) × (pack_out t out ≡ sets out 0 (strip_bytes rs))
text_packs {t} {rs} out g short short-out room =
    pack_read t out short short-out (good_head g) rs (good_body g) room

-- so what it packs to is that strip
pub packed_strip : {t : List ℕ} {rs : List Record} (out : List ℕ) → GoodText t rs → length t ≤ longest → length out ≤ longest → strip_length (length rs) ≤ length out
    → take (pack_of t (length out)).length (pack_out t out) ≡ strip_bytes rs
packed_strip {t} {rs} out g short short-out room =
    let (answer, memory) = text_packs out g short short-out room in
    ap₂ (λ (n : ℕ) (l : List ℕ). take n l) (ap (λ (a : Packed). a.length) answer ∙ sym (length_strip rs)) memory
    ∙ front_take (strip_bytes rs) out (omega (arith, length_strip rs, room))

-- ---- there and back

-- the text of a strip with a good tail
good_text_of : (s : List ℕ) → tail_good s ≡ true → text_of s ≡ header ++ listed (records_of s)
good_text_of s e =
    ap (λ (b : Bool). header ++ (listed (records_of s) ++ cond b [] bad_tail)) e
    ∙ ap (λ (l : List ℕ). header ++ l) (append-nil (listed (records_of s)))

-- text-again: a text whose dates all have five decimals is the text of the strip that it packs to
pub text_again : {t : List ℕ} {rs : List Record} (out : List ℕ) (g : GoodText t rs) → AllFive g.lines.parts → length t ≤ longest → length out ≤ longest
    → strip_length (length rs) ≤ length out → text_of (take (pack_of t (length out)).length (pack_out t out)) ≡ t
text_again {t} {rs} out g decimals short short-out room =
    let (records, tail) = strip_there_and_back rs (good_fits g) in
    ap text_of (packed_strip out g short short-out room)
    ∙ good_text_of (strip_bytes rs) tail
    ∙ ap (λ (l : List Record). header ++ listed l) records
    ∙ text_same g decimals

-- listed-read: reading the lines that records were listed as gives the records back
pub listed_read : (rs : List Record) → all_fit rs ≡ true → body_of (header ++ listed rs) ≡ all_read_lem rs
listed_read rs h = body_append (listed rs) ∙ listed_lines rs h

-- text-there-and-back: reading the text of a strip with a good tail gives the strip's records back
pub text_there_and_back : (s : List ℕ) → tail_good s ≡ true → body_of (text_of s) ≡ all_read_lem (records_of s)
text_there_and_back s e = ap body_of (good_text_of s e) ∙ listed_read (records_of s) (records_fit s 0 (count_of s))

-- packed-back: packing the text of a strip with a good tail gives that strip again, byte for byte
pub packed_back : (s out : List ℕ) → ((i : ℕ) → get_or s i 0 < 2 ^ 8) → tail_good s ≡ true → length (text_of s) ≤ longest → length out ≤ longest → length s ≤ length out
    → (pack_of (text_of s) (length out) ≡ packed done (length s) 0) × (pack_out (text_of s) out ≡ sets out 0 s)
packed_back s out bytes e short short-out room =
    let rs = records_of s in
    let same : strip_bytes rs ≡ s = strip_same s bytes e in
    let size : strip_length (length rs) ≡ length s = sym (length_strip rs) ∙ ap length same in
    let (answer, memory) = pack_read (text_of s) out short short-out (headed-append header _) rs (text_there_and_back s e) (omega (arith, size, room)) in
    (answer ∙ ap (λ (n : ℕ). packed done n 0) size, memory ∙ ap (sets out 0) same)
