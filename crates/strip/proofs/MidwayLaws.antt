-- Packing records one after the other: what stands midway, over the records left, and its laws.
use mathlib.Core.Path.{◌≡◌, refl, sym, ap, ap₂, ◌∙◌}
use mathlib.Core.Bool.{true}
use mathlib.Core.List.{List, [], ◌∷◌}
use Prim.Native.Nat.{ℕ, ◌+◌, ◌*◌, ◌/◌, ◌^◌, ◌<◌, ◌≤◌}
use native.Mathlib.Omega.{arith}
use lib.ListN.{length}
use lib.Seq.{sets}
use lib.Pow.{pow_pos}
use Rattle.bits.specs.declared.Order.TheVariants.{Big}
use Rattle.bits.specs.Refusals.{longest}
use Rattle.bits.specs.Field.{join}
use Rattle.bits.proofs.JoinLaws.{join-lt, join_assoc, none_join}
use Rattle.packing.specs.declared.State.{State}
use Rattle.packing.specs.Packing.{bits_written, Belongs, bytes_of, put, put_out}
use Rattle.packing.proofs.PutLaws.{put-length, put_written, put_next, put_out_is, put-put_out}
use Rattle.writer.specs.declared.Writer.{Writer}
use Rattle.writer.specs.Writer.{state_in, writer_with, padding}
use Rattle.record.specs.declared.Record.{Record}
use Rattle.record.specs.Record.{Fits, record_bits}
use Rattle.strip.specs.Bits.{bits_of}
use Rattle.strip.specs.Strip.{all_fit, joined, strip_length, strip_padding, strip_bytes}
use Rattle.strip.proofs.BitsLaws.{bits-lt}
use Rattle.strip.proofs.FitLaws.{all_fit_parts}
use Rattle.strip.proofs.PackedLaws.{joined-lt}

-- a fresh writer's state
abbrev pub fresh : State
fresh = record { written = 0; held = 0; number = 0 }

-- the bits still to be put: those of the records left, and q zeros
abbrev rest_of : List Record → ℕ → ℕ
rest_of left q = join Big (record_bits * length left) q (joined left) 0

-- those left fit and are still to be put: put here at once, with the zeros behind them, they give the strip of all at the output's front
pub record Midway (rs : List Record) (out₀ out : List ℕ) (c : State) (left : List Record) : Type 0 where
  pub same : length out ≡ length out₀
  pub belongs : Belongs (length out) c
  pub written : bits_written c + record_bits * length left ≡ record_bits * length rs
  pub fit : all_fit left ≡ true
  pub memory : put_out Big out c (record_bits * length left + strip_padding (length rs)) (rest_of left (strip_padding (length rs))) ≡ sets out₀ 0 (strip_bytes rs)

module _ (rs : List Record) (out₀ : List ℕ) where
  -- the zeros behind all
  abbrev pad : ℕ
  pad = strip_padding (length rs)

  pub midway_start : length out₀ ≤ longest → all_fit rs ≡ true → Midway rs out₀ out₀ fresh rs
  unfolding strip_bytes
  midway_start short fit =
      let n : ℕ = record_bits * length rs in
      let all : 0 + (n + pad) ≡ 8 * strip_length (length rs) + 0 = omega arith in
      record {
        same = refl;
        belongs = record { short = short; within = omega arith; few = omega arith; small = pow_pos 0 };
        written = omega arith;
        fit = fit;
        memory =
            put_out_is Big fresh (n + pad) (rest_of rs pad) (strip_length (length rs)) 0 all (omega arith) out₀
            ∙ ap (λ (k : ℕ). sets out₀ 0 (bytes_of Big (strip_length (length rs)) 0 k)) (none_join Big (n + pad) (rest_of rs pad));
      }

  module _ (out : List ℕ) (c : State) where
    module _ (r : Record) (left : List Record) (g : Midway rs out₀ out c (r ∷ left)) where
      pub midway_fits : Fits r
      midway_fits = (all_fit_parts r left g.fit).0

      module _ (room : strip_length (length rs) ≤ length out₀) where
        pub midway_room : bits_written c + record_bits ≤ 8 * length out
        midway_room = omega (arith, g.written, g.same)

        pub midway_step : (t : List ℕ) (d : State) → t ≡ put_out Big out c record_bits (bits_of r) → d ≡ put Big c record_bits (bits_of r) → Midway rs out₀ t d left
        unfolding joined
        midway_step t d ht hd =
            let (one, others) = all_fit_parts r left g.fit in
            let m : ℕ = record_bits * length left in
            let v : ℕ = bits_of r in
            let lt : v < 2 ^ record_bits = bits-lt r one in
            let lts : rest_of left pad < 2 ^ (m + pad) = join-lt Big m pad (joined-lt left others) (pow_pos pad) in
            let e : record_bits * length (r ∷ left) ≡ record_bits + m = omega arith in
            let f : record_bits + (m + pad) ≡ record_bits * length (r ∷ left) + pad = omega arith in
            record {
              same = ap length ht ∙ put-length Big c record_bits v out ∙ g.same;
              belongs = (put_next Big out c g.belongs record_bits 0 lt (omega (arith, midway_room)) t d ht hd).0;
              written = omega (arith, ap bits_written hd, put_written Big c record_bits v, g.written);
              fit = others;
              memory =
                  ap₂ (λ (l : List ℕ) (x : State). put_out Big l x (m + pad) (rest_of left pad)) ht hd
                  ∙ put-put_out Big c g.belongs.small record_bits (m + pad) lt lts out
                  ∙ ap₂ (λ (k x : ℕ). put_out Big out c k x) f
                  (sym (join_assoc Big record_bits m pad v (joined left) 0) ∙ ap (λ (k : ℕ). join Big k pad (join Big record_bits m v (joined left)) 0) (sym e))
                  ∙ g.memory;
            }

    -- after the last, a flush gives the strip
    module _ (g : Midway rs out₀ out c []) where
      pub midway_length : (put Big c (padding (writer_with c)) 0).written ≡ strip_length (length rs)
      unfolding put
      midway_length = omega (arith, g.written, g.belongs.few)

      pub midway_out : put_out Big out c (padding (writer_with c)) 0 ≡ sets out₀ 0 (strip_bytes rs)
      unfolding joined
      midway_out =
          let p : ℕ = padding (writer_with c) in
          let full : 8 * ((c.held + p) / 8) ≡ c.held + p = omega (arith, g.belongs.few) in
          let size : c.written + (c.held + p) / 8 ≡ strip_length (length rs) = omega (arith, g.written, g.belongs.few) in
          let e : p ≡ record_bits * 0 + pad = omega (arith, full, size, g.written) in
          ap₂ (put_out Big out c) e (sym (none_join Big pad 0)) ∙ g.memory

-- a writer with the state c belongs as it does, and a flush of it puts the zeros up to a byte
module _ (out : List ℕ) {w : Writer} {c : State} (is : w ≡ writer_with c) where
  pub writer_belongs : Belongs (length out) c → Belongs (length out) (state_in w)
  writer_belongs h = rw is h

  pub writer_flushed : {t : List ℕ} → t ≡ put_out Big out (state_in w) (padding w) 0 → t ≡ put_out Big out c (padding (writer_with c)) 0
  writer_flushed p = p ∙ ap (λ (w : Writer). put_out Big out (state_in w) (padding w) 0) is
