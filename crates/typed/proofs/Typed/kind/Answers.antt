-- `Typed::kind` meets its contract: the value's case is its kind. Assumes nothing.
use Rattle.typed.specs.Typed.{kind_of}
use Rattle.typed.proofs.Typed.kind.Goals as goal

pub returns-in-Unsigned : goal.returns-in-Unsigned
unfolding kind_of
returns-in-Unsigned c = rw c.in-Unsigned.is

pub returns-in-Signed : goal.returns-in-Signed
unfolding kind_of
returns-in-Signed c = rw c.in-Signed.is

pub returns-in-Single : goal.returns-in-Single
unfolding kind_of
returns-in-Single c = rw c.in-Single.is

pub returns-in-Double : goal.returns-in-Double
unfolding kind_of
returns-in-Double c = rw c.in-Double.is
