-- `put_shifted` meets its contract: both loops put a stretch of the bytes, by eight and by one, and the two stretches are all bytes
-- (`stretch_join`, `stretch_all`). Assumes nothing.
use mathlib.Core.Path.{◌≡◌, sym, ap, ◌∙◌, subst}
use Prim.Native.Nat.{ℕ, ◌+◌, ◌*◌, ◌/◌, ◌^◌, ◌<◌, ◌≤◌}
use native.Mathlib.Omega.{arith}
use mathlib.Core.List.{List, []}
use lib.ListN.{get_or, length, drop}
use Rattle.std.proofs.lemmas.List.{get_or-drop}
use Rattle.bits.specs.Field.{field}
use Rattle.packing.proofs.StretchLaws.{Stretch, stretch_none, stretch_next, stretch_held, stretch_byte, stretch_word, stretch_join}
use Rattle.packing.proofs.ChunkLaws.{chunk_field}
use Rattle.packing.proofs.PutBytesLaws.{stretch_all}
use Rattle.packing.proofs.inner.put_shifted.Goals as goal

pub loop-word-init : goal.loop-word-init
loop-word-init c = let h = c.requires.0 in stretch_none c.args.order c.args.src.now 0 c.args.out.now c.args.c h.small h.few

pub put_word-next-requires : goal.put_word-next-requires
put_word-next-requires c =
    let a = c.args in
    let l = c.loop-word in
    let i : ℕ = 8 * l.word-index in
    let fit : i + 8 ≤ length a.src.now = omega (arith, c.as_chunks.ensures.front_len) in
    let (h, room) = stretch_next a.order a.src.now 0 a.out.now a.c i l.out l.next l.invariant (length a.src.now) c.requires.0 (omega arith) (omega arith) in
    let held = stretch_held a.order a.src.now 0 a.out.now a.c i l.out l.next l.invariant c.requires.0.few in
    (omega (arith, held), h.few, h.small, omega (arith, room))

pub loop-word-preserved : goal.loop-word-preserved
loop-word-preserved c =
    let a = c.args in
    let l = c.loop-word in
    let i : ℕ = 8 * l.word-index in
    let p = c.put_word-next.ensures in
    let e : i + 8 ≡ 8 * (l.word-index + 1) = omega arith in
    let chunks = c.as_chunks.ensures in
    let k : ℕ = length a.src.now / 8 in
    let inside : l.word-index < k = omega (arith, chunks.front_len) in
    let v =
    c.load_whole-v.ensures
    ∙ ap (λ (bs : List (List ℕ)). field a.order (get_or bs l.word-index []) 0 64) chunks.front
    ∙ chunk_field a.order a.src.now k l.word-index [] inside (omega arith) in
    subst (λ (k : ℕ). Stretch a.order a.src.now 0 k a.out.now a.c c.put_word-next.new.out c.put_word-next.result) e
    (stretch_join a.order a.src.now 0 a.out.now a.c i l.out l.next l.invariant c.requires.0.small (i + 8)
    (stretch_word a.order a.src.now i l.out l.next c.load_whole-v.result v p.answer p.memory))

-- a byte behind the chunks
behind : (n : ℕ) (src : List ℕ) (i : ℕ) {b : ℕ} {bytes : List ℕ} → b ≡ get_or bytes i 0 → bytes ≡ drop n src → b ≡ get_or src (n + i) 0
behind n src i p q = p ∙ ap (λ (bs : List ℕ). get_or bs i 0) q ∙ get_or-drop n src i 0

pub put_bits-next-requires : goal.put_bits-next-requires
put_bits-next-requires c =
    let a = c.args in
    let l = c.loop-b in
    let j : ℕ = length a.src.now / 8 * 8 + l.b-index in
    let fit : j + 1 ≤ length a.src.now = omega (arith, c.as_chunks.ensures.back_len) in
    let (h, room) = stretch_next a.order a.src.now 0 a.out.now a.c j l.out l.next l.invariant (length a.src.now) c.requires.0 (omega arith) (omega arith) in
    let b = behind (length a.src.now / 8 * 8) a.src.now l.b-index c.from.ensures c.as_chunks.ensures.back in
    (h, omega arith, subst (λ (k : ℕ). k < 2 ^ 8) (sym b) (c.type_inv.src j).fits, omega (arith, room))

pub loop-b-preserved : goal.loop-b-preserved
loop-b-preserved c =
    let a = c.args in
    let l = c.loop-b in
    let j : ℕ = length a.src.now / 8 * 8 + l.b-index in
    let p = c.put_bits-next.ensures in
    let b = behind (length a.src.now / 8 * 8) a.src.now l.b-index c.from.ensures c.as_chunks.ensures.back in
    let e : j + 1 ≡ length a.src.now / 8 * 8 + (l.b-index + 1) = omega arith in
    subst (λ (k : ℕ). Stretch a.order a.src.now 0 k a.out.now a.c c.put_bits-next.new.out c.put_bits-next.result) e
    (stretch_join a.order a.src.now 0 a.out.now a.c j l.out l.next l.invariant c.requires.0.small (j + 1)
    (stretch_byte a.order a.src.now j l.out l.next (c.type_inv.src j).fits c.from.result b p.answer p.memory))

pub returns : goal.returns
returns c =
    let a = c.args in
    let l = c.loop-b in
    let e : length a.src.now / 8 * 8 + l.b-index ≡ length a.src.now = omega (arith, c.as_chunks.ensures.back_len) in
    let all = subst (λ (k : ℕ). Stretch a.order a.src.now 0 k a.out.now a.c l.out l.next) e l.invariant in
    let both = stretch_all a.order a.src.now (λ i. (c.type_inv.src i).fits) a.c c.requires.0.small c.requires.0.few a.out.now l.out l.next all in
    record { answer = both.0; memory = both.1 }
