-- Whole jobs: all that a program reads to all that it writes.
use Rattle.std.specs.Prelude.{ℕ, cond, ◌&&◌, List, [], ◌∷◌, ◌++◌, length, eqb, ltb}
use Rattle.digits.specs.Digits.{ascii, newline}
use Rattle.print.specs.Print.{whole_of}
use Rattle.strip.specs.Strip.{strip_bytes, records_of, tail_good}
use Rattle.vetting.specs.Verdicts.{Verdict, Fine, Broken, BadTail, Refused, verdict_of}
use Rattle.rows.specs.Rows.{rows_bytes, rows_whole, records_of_rows, first_bad}
use Rattle.text.specs.Text.{header, bad_tail, text_of, headed, body_of, bad_line_of}

-- the most bytes that a program takes
abbrev pub most_taken : ℕ
most_taken = 65536

-- the message for more
unfoldable pub too_long_said : List ℕ
too_long_said = ascii "too long" ++ newline ∷ []

-- the message for a text whose line n is the first bad one
unfoldable pub bad_line_said : ℕ → List ℕ
bad_line_said n = ascii "bad line " ++ (whole_of n ++ newline ∷ [])

-- the message for a table whose row n is the first bad one
unfoldable pub bad_row_said : ℕ → List ℕ
bad_row_said n = ascii "bad row " ++ (whole_of n ++ newline ∷ [])

-- the line for a strip that is accepted
unfoldable pub ok_said : List ℕ
ok_said = ascii "ok" ++ newline ∷ []

-- the line for a strip whose record n is the first at fault, by rule r
unfoldable pub fault_said : ℕ → ℕ → List ℕ
fault_said n r = ascii "record " ++ (whole_of n ++ (ascii " rule " ++ (whole_of r ++ newline ∷ [])))

-- the line for a verdict
unfoldable pub verdict_said : Verdict → List ℕ
verdict_said Fine = ok_said
verdict_said (Broken n r) = fault_said n r
verdict_said BadTail = bad_tail
verdict_said (Refused e) = too_long_said

-- all that striplist writes: the text of the strip, or too long
unfoldable pub list_answer : List ℕ → List ℕ
list_answer s = cond (ltb most_taken (length s)) too_long_said (text_of s)

-- all that strippack writes: the strip of the text, the first bad line, or too long
unfoldable pub pack_answer : List ℕ → List ℕ
pack_answer t =
    cond (ltb most_taken (length t)) too_long_said
    (cond (headed header t && (body_of t).good) (strip_bytes (body_of t).records) (bad_line_said (bad_line_of t)))

-- all that striprows writes: the rows of the strip, bad tail, or too long
unfoldable pub rows_answer : List ℕ → List ℕ
rows_answer s = cond (ltb most_taken (length s)) too_long_said (cond (tail_good s) (rows_bytes (records_of s)) bad_tail)

-- all that rowspack writes: the strip of the rows, the first bad row, bad tail where the last row is cut, or too long
unfoldable pub pack_rows_answer : List ℕ → List ℕ
pack_rows_answer t =
    cond (ltb most_taken (length t)) too_long_said
    (cond (eqb (first_bad t) 0) (cond (rows_whole t) (strip_bytes (records_of_rows t)) bad_tail) (bad_row_said (first_bad t)))

-- all that stripcheck writes: the verdict on the strip, or too long
unfoldable pub check_answer : List ℕ → List ℕ
check_answer s = cond (ltb most_taken (length s)) too_long_said (verdict_said (verdict_of s))
