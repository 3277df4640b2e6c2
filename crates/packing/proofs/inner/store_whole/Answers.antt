-- `store_whole` meets its contract: the eight bytes of the word are copied, in the order given. Assumes nothing.
use mathlib.Core.Path.{sym, ◌∙◌}
use Rattle.packing.proofs.BytesLaws.{length_bytes}
use Rattle.packing.proofs.EightBytesLaws.{bytes_little, bytes_big}
use Rattle.packing.proofs.StoredLaws.{part_sets}
use Rattle.packing.proofs.inner.store_whole.Goals as goal

pub returns-in-Little : goal.returns-in-Little
returns-in-Little c =
    let a = c.args in
    let all = c.copy_from_slice.ensures.after ∙ c.to_le_bytes.ensures ∙ sym (bytes_little a.word c.ranges.word.fits) in
    rw c.in-Little.is (part_sets a.out.now a.at 8 c.requires all (length_bytes _ 8 0 a.word))

pub returns-in-Big : goal.returns-in-Big
returns-in-Big c =
    let a = c.args in
    let all = c.copy_from_slice-in-Big.ensures.after ∙ c.to_be_bytes.ensures ∙ sym (bytes_big a.word c.ranges.word.fits) in
    rw c.in-Big.is (part_sets a.out.now a.at 8 c.requires all (length_bytes _ 8 0 a.word))
