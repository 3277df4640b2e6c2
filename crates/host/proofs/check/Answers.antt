-- `check` meets its contract: each outcome by the tests that led there. The width is taken from the bits that there are,
-- and never added to the place, so nothing wraps. Assumes nothing.
use mathlib.Core.Path.{sym}
use native.Mathlib.Omega.{arith}
use Rattle.host.proofs.HostLaws.{refused_too_long, refused_too_wide, refused_too_few, not_refused}
use Rattle.host.proofs.check.Goals as goal

pub returns-then-src-gt-LONGEST : goal.returns-then-src-gt-LONGEST
returns-then-src-gt-LONGEST c = sym (refused_too_long _ _ _ (omega arith))

pub returns-then-width-gt64 : goal.returns-then-width-gt64
returns-then-width-gt64 c = sym (refused_too_wide _ _ _ (omega arith) (omega arith))

pub returns-then-bits-w : goal.returns-then-bits-w
returns-then-bits-w c = sym (refused_too_few _ _ _ (omega arith) (omega arith) (omega arith))

pub returns-then-bits-w-2 : goal.returns-then-bits-w-2
returns-then-bits-w-2 c = sym (refused_too_few _ _ _ (omega arith) (omega arith) (omega arith))

pub returns : goal.returns
returns c = sym (not_refused _ _ _ (omega arith) (omega arith) (omega arith))
