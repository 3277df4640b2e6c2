-- `front` meets its contract: as the code computes it, the word is `front_word`, whose first bytes are those that are full (`front_bytes`);
-- in the big order they are the swapped word's low ones (`first-swapped`). Assumes nothing.
use mathlib.Core.Path.{sym, ap, ◌∙◌, subst}
use Prim.Native.Nat.{ℕ, ◌-◌, ◌*◌, ◌^◌, ◌<◌, ◌≤◌}
use native.Mathlib.Omega.{arith}
use Rattle.bits.specs.declared.Order.TheVariants.{Little, Big}
use Rattle.words.specs.Eight.{swapped}
use Rattle.packing.specs.Packing.{bytes_of, full}
use Rattle.packing.proofs.EightBytesLaws.{first-swapped}
use Rattle.packing.proofs.FrontLaws.{front_word, front_lt, front_bytes, front_little, front_big}
use Rattle.packing.proofs.inner.front.Goals as goal

pub overflow_add-result : goal.overflow_add-result
overflow_add-result c =
    let a = c.args in
    record {
      fits = subst (λ (k : ℕ). k < 2 ^ 64) (sym (front_little a.c c.requires.1 c.requires.0 a.n a.v c.ranges.v.fits))
          (front_lt Little a.c c.requires.1 c.requires.0 a.n c.requires.3 c.requires.4);
    }

pub overflow_add-c : goal.overflow_add-c
overflow_add-c c =
    let a = c.args in
    record {
      fits = subst (λ (k : ℕ). k < 2 ^ 64) (sym (front_big a.c c.requires.1 c.requires.0 a.n a.v c.requires.3 c.requires.4))
          (front_lt Big a.c c.requires.1 c.requires.0 a.n c.requires.3 c.requires.4);
    }

pub returns-in-Little : goal.returns-in-Little
returns-in-Little c =
    let a = c.args in
    let f : ℕ = full a.c a.n in
    rw c.in-Little.is
    (ap (bytes_of Little f (64 - 8 * f)) (front_little a.c c.requires.1 c.requires.0 a.n a.v c.ranges.v.fits)
    ∙ front_bytes Little a.c c.requires.1 c.requires.0 a.n c.requires.3 c.requires.4)

pub returns-in-Big : goal.returns-in-Big
returns-in-Big c =
    let a = c.args in
    let f : ℕ = full a.c a.n in
    let word = front_big a.c c.requires.1 c.requires.0 a.n a.v c.requires.3 c.requires.4 in
    let fits = front_lt Big a.c c.requires.1 c.requires.0 a.n c.requires.3 c.requires.4 in
    let most : f ≤ 8 = omega arith in
    rw c.in-Big.is
    (ap (bytes_of Little f (64 - 8 * f)) (c.swap8.ensures ∙ ap swapped word)
    ∙ first-swapped (front_word Big a.c a.n a.v) fits f most
    ∙ front_bytes Big a.c c.requires.1 c.requires.0 a.n c.requires.3 c.requires.4)
