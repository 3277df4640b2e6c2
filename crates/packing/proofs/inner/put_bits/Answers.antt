-- `put_bits` meets its contract: fewer than eight bits are held (`put-held`); of more, those that are full are stored (`front`), and the
-- bits over are the last of v (`front_over`). Assumes nothing.
use mathlib.Core.Path.{◌≡◌, sym, ap, ◌∙◌}
use Prim.Native.Nat.{◌+◌, ◌≤◌}
use native.Mathlib.Omega.{arith}
use lib.Seq.{sets}
use Rattle.packing.specs.Packing.{full, over, put, put_out}
use Rattle.packing.proofs.PutLaws.{put-held, put-held_out}
use Rattle.packing.proofs.FrontLaws.{front_over}
use Rattle.packing.proofs.inner.put_bits.Goals as goal

pub returns-then-bits-lt8 : goal.returns-then-bits-lt8
returns-then-bits-lt8 c =
    let s = c in
    let a = s.args in
    let l : a.c.held + a.n ≤ 7 = omega arith in record {
      answer = (λ i. record { written = a.c.written; held = a.c.held + a.n; number = c.join_bits.ensures i }) ∙ sym (put-held a.order a.c s.requires.0.small a.n l s.requires.2);
      memory = sym (put-held_out a.order a.c s.requires.0.small a.n l s.requires.2 a.out.now);
    }

pub returns : goal.returns
unfolding put put_out
returns c =
    let stored = c in
    let s = stored in
    let a = s.args in
    let number : c.tail.result ≡ (put a.order a.c a.n a.v).number =
    c.tail.ensures ∙ front_over a.order a.c s.requires.0.small s.requires.0.few a.n s.requires.1 s.requires.2 (omega arith) in record {
      answer = (λ i. record { written = a.c.written + full a.c a.n; held = over a.c a.n; number = number i });
      memory = stored.store.ensures ∙ ap (sets a.out.now a.c.written) stored.front.ensures;
    }
