-- What listing and packing whole texts answer, and what the output holds afterwards, on every input.
use Rattle.std.specs.Prelude.{ℕ, cond, not, List, [], ◌∷◌, ◌++◌, length, eqb, ltb, Result, Ok, Err, codes, decimal}
use Rattle.std.proofs.lemmas.List.Edits.{sets}
use Rattle.bits.specs.declared.Refusal.{Refusal}
use Rattle.bits.specs.Refusals.{number, refusal_said, longest, done, too_long, bad_line, no_room, ◌⟶◌, first_refusal, if_done, LengthTold}
use Rattle.strip.specs.Strip.{strip_length, strip_bytes}
use Rattle.text.specs.declared.PackError.{PackError}
use Rattle.text.specs.declared.PackError.TheVariants.{Refused, BadLine}
use Rattle.text.specs.Text.{header, text_of, headed, body_of, bad_line_of}

-- ---- what is told: the number of a refusal or done, and what there is with it

-- of packing: the strip's length, 0 where there is none, and with 7 the number of the first bad line, else 0
pub record Packed : Type 0 where
  pub refusal : ℕ
  pub length : ℕ
  pub line : ℕ

-- of the tests before packing: with 7 the number of the first bad line, else 0
pub record Found : Type 0 where
  pub refusal : ℕ
  pub line : ℕ

-- the outcome of packing
abbrev pub packed_told : Result ℕ PackError → Packed
packed_told (Ok n) = record { refusal = done; length = n; line = 0 }
packed_told (Err (Refused e)) = record { refusal = number e; length = 0; line = 0 }
packed_told (Err (BadLine n)) = record { refusal = bad_line; length = 0; line = n }

-- the outcome of the tests before packing
abbrev pub found_told : {A : Type 0} → Result A PackError → Found
found_told (Ok x) = record { refusal = done; line = 0 }
found_told (Err (Refused e)) = record { refusal = number e; line = 0 }
found_told (Err (BadLine n)) = record { refusal = bad_line; line = n }

-- what an error says of itself
abbrev pub error_said : PackError → List ℕ
error_said (Refused e) = refusal_said e
error_said (BadLine n) = codes "line " ++ (decimal n ++ codes " breaks the line rules")

-- ---- listing

-- 1 for a strip or an output past the limit, 8 for an output shorter than the text
unfoldable pub list_refusal : List ℕ → ℕ → ℕ
list_refusal s len =
    first_refusal
    (ltb longest (length s) ⟶ too_long
    ∷ ltb longest len ⟶ too_long
    ∷ ltb len (length (text_of s)) ⟶ no_room
    ∷ [])

unfoldable pub list_of : List ℕ → ℕ → LengthTold
list_of s len = record { refusal = list_refusal s len; length = if_done (list_refusal s len) (length (text_of s)) 0 }

-- the text at the front of the output, the rest untouched
unfoldable pub list_out : List ℕ → List ℕ → List ℕ
list_out s out = if_done (list_refusal s (length out)) (sets out 0 (text_of s)) out

-- ---- packing

-- 1 for a text or an output past the limit, 7 for another header or a bad line, 8 for no room for the strip
unfoldable pub pack_refusal : List ℕ → ℕ → ℕ
pack_refusal t len =
    first_refusal
    (ltb longest (length t) ⟶ too_long
    ∷ ltb longest len ⟶ too_long
    ∷ not (headed header t) ⟶ bad_line
    ∷ not (body_of t).good ⟶ bad_line
    ∷ ltb len (strip_length (length (body_of t).records)) ⟶ no_room
    ∷ [])

-- the refusal, and with 7 the number of the first bad line
abbrev pub found_of : List ℕ → ℕ → Found
found_of t len = record { refusal = pack_refusal t len; line = cond (eqb (pack_refusal t len) bad_line) (bad_line_of t) 0 }

-- the refusal, the strip's length, and with 7 the number of the first bad line
unfoldable pub pack_of : List ℕ → ℕ → Packed
pack_of t len =
    record {
      refusal = pack_refusal t len;
      length = if_done (pack_refusal t len) (strip_length (length (body_of t).records)) 0;
      line = cond (eqb (pack_refusal t len) bad_line) (bad_line_of t) 0;
    }

-- the strip of the lines' records at the front of the output, the rest untouched
unfoldable pub pack_out : List ℕ → List ℕ → List ℕ
pack_out t out = if_done (pack_refusal t (length out)) (sets out 0 (strip_bytes (body_of t).records)) out
