-- The grammar of a text: the header, and good lines one behind the other.
use Rattle.std.specs.Prelude.{◌≡◌, List, [], ◌∷◌, ◌++◌, ℕ, ◌+◌, length}
use Rattle.record.specs.declared.Record.{Record}
use Rattle.line.specs.Grammar.{Parts, spelled, meant, Good}
use Rattle.text.specs.Text.{header}

-- the lines that parts make, a text s behind them
unfoldable pub all_spelled : List Parts → List ℕ → List ℕ
all_spelled [] s = s
all_spelled (p ∷ ps) s = spelled p (all_spelled ps s)

-- the records that they name
unfoldable pub all_meant : List Parts → List Record
all_meant [] = []
all_meant (p ∷ ps) = meant p ∷ all_meant ps

-- all of them are good
pub data AllGood : List Parts → Type 0 where
  none : AllGood []
  and : {p : Parts} {ps : List Parts} → Good p → AllGood ps → AllGood (p ∷ ps)

-- every line's date has five decimals
pub data AllFive : List Parts → Type 0 where
  no_line : AllFive []
  five : {p : Parts} {ps : List Parts} → length p.day_decimals ≡ 5 → AllFive ps → AllFive (p ∷ ps)

-- a text is good lines that name records
pub record Many (s : List ℕ) (rs : List Record) : Type 0 where
  pub parts : List Parts
  pub good : AllGood parts
  pub text : s ≡ all_spelled parts []
  pub names : rs ≡ all_meant parts

-- a text is the header and good lines that name records
pub record GoodText (t : List ℕ) (rs : List Record) : Type 0 where
  pub body : List ℕ
  pub text : t ≡ header ++ body
  pub lines : Many body rs

-- n is the number of a text's first bad line: 1 where the text does not begin with the header; else behind the header and n - 2 good lines
-- stands something that begins with no good line
pub data FirstBad : List ℕ → ℕ → Type 0 where
  no_header : {t : List ℕ} → ((body : List ℕ) → t ≡ header ++ body → ⊥) → FirstBad t 1
  bad_behind : {t : List ℕ} (ps : List Parts) (rest : List ℕ) → AllGood ps → (rest ≡ [] → ⊥)
      → ((p : Parts) (s : List ℕ) → Good p → rest ≡ spelled p s → ⊥) → t ≡ header ++ all_spelled ps rest → FirstBad t (length ps + 2)
