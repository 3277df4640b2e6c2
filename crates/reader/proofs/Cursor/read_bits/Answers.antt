-- `read_bits` meets its contract: whichever the order is, it is handed on. Assumes nothing.
use Rattle.reader.proofs.Cursor.read_bits.Goals as goal

pub returns-in-Little : goal.returns-in-Little
returns-in-Little c = rw c.in-Little.is c.read_bits.ensures

pub returns-in-Big : goal.returns-in-Big
returns-in-Big c = rw c.in-Big.is c.read_bits-in-Big.ensures
