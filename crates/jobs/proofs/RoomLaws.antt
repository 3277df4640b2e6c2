-- Laws of room: a line that is read has at least 26 bytes.
use Prim.Native.Nat.{ℕ, zero, suc, ◌+◌, ◌-◌, ◌*◌, ◌≤◌}
use mathlib.Core.Path.{◌≡◌, refl, ap}
use mathlib.Core.Bool.{Bool, true, false, cond}
use mathlib.Core.List.{List}
use lib.ListN.{length, drop, length-append, length-drop}
use native.Mathlib.Omega.{arith}
use Rattle.line.specs.Grammar.{Parts, Good, spelled}
use Rattle.line.specs.Reading.{begins, first_of, behind, is_nil}
use Rattle.line.proofs.GrammarLaws.{sign-length}
use Rattle.line.proofs.ReadLaws.{begins_good}
use Rattle.text.specs.Text.{header, more, stopped, lines_in, body_of}
use Rattle.text.proofs.HeaderLaws.{length-header}

spelled_long : (p : Parts) (s : List ℕ) → Good p → 26 + length s ≤ length (spelled p s)
unfolding spelled
spelled_long p s g =
    let a = g.star.some in
    let b = g.days.some in
    let c = g.day_decimals.enough in
    let d = g.limit.some in
    let e = g.magnitude.some in
    let f = g.magnitude_decimals.enough in
    let h = g.error.some in
    let i = g.error_decimals.enough in
    let j = g.filter.some in
    simp (length-append, sign-length) (omega arith)

begins_long : (s : List ℕ) → begins s ≡ true → 26 + length (behind s) ≤ length s
begins_long s e =
    let b = begins_good s e in
    let l = spelled_long b.parts (behind s) b.good in
    let t = ap length b.text in
    omega arith

lines_long : (n : ℕ) (s : List ℕ) → 26 * length (lines_in n s).records ≤ length s
unfolding lines_in
lines_long zero s = omega arith
lines_long (suc n) s = by (is_nil s) (begins s) refl (lines_long n (behind s))
  where
    by : (t u : Bool) → begins s ≡ u → 26 * length (lines_in n (behind s)).records ≤ length (behind s)
        → 26 * length (cond t (stopped true) (cond u (more (first_of s) (lines_in n (behind s))) (stopped false))).records ≤ length s
    by true u e h = omega arith
    by false true e h = let l = begins_long s e in omega arith
    by false false e h = omega arith

-- those behind the header
pub body_long : (t : List ℕ) → 26 * length (body_of t).records ≤ length t - 31
body_long t =
    let a = lines_long (length (drop (length header) t)) (drop (length header) t) in
    let b = length-drop (length header) t in
    let c = length-header in
    omega arith
