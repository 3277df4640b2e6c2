-- Laws of the text that parts make.
use Rattle.std.proofs.Common.{◌≡◌, ℕ, ◌+◌, ◌<◌, Bool, true, false, cond, List, [], ◌++◌, length, refl, append_assoc, arith, length-append}
use Rattle.line.specs.Grammar.{Parts, sign, spelled}

pub sign-append : (b : Bool) (s t : List ℕ) → sign b s ++ t ≡ sign b (s ++ t)
sign-append true s t = refl
sign-append false s t = refl

pub sign-length : (b : Bool) (s : List ℕ) → length (sign b s) ≡ cond b 1 0 + length s
sign-length true s = omega arith
sign-length false s = omega arith

-- a line, and a text behind it
pub spelled-append : (p : Parts) (s : List ℕ) → spelled p [] ++ s ≡ spelled p s
unfolding spelled
spelled-append p s = simp (append_assoc, sign-append)

-- a line takes at least a byte
pub spelled_longer : (p : Parts) (s : List ℕ) → length s < length (spelled p s)
unfolding spelled
spelled_longer p s = simp (length-append, sign-length) (omega arith)
