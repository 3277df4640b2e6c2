-- Packing the records that a list of numbers names: what stands after i of n, and its laws.
use mathlib.Core.Path.{◌≡◌, ap, ◌∙◌, subst}
use mathlib.Core.Bool.{true}
use mathlib.Core.List.{List, [], ◌∷◌}
use Prim.Native.Nat.{ℕ, ◌+◌, ◌-◌, ◌*◌, ◌<◌, ◌≤◌}
use native.Mathlib.Nat.{sub-zero}
use native.Mathlib.Omega.{arith}
use lib.ListN.{length, drop}
use lib.Seq.{sets}
use Rattle.bits.specs.declared.Order.TheVariants.{Big}
use Rattle.bits.specs.Refusals.{longest}
use Rattle.packing.specs.declared.State.{State}
use Rattle.packing.specs.Packing.{bits_written, put, put_out}
use Rattle.writer.specs.Writer.{writer_with, padding}
use Rattle.record.specs.Record.{fits, record_bits}
use Rattle.record.proofs.FitLaws.{true-fits}
use Rattle.strip.specs.Bits.{bits_of}
use Rattle.strip.specs.Strip.{record_in, records_in, all_fit, strip_length, strip_bytes}
use Rattle.strip.proofs.ListLaws.{next_record, no_record_left, records_named}
use Rattle.strip.proofs.MidwayLaws.{fresh, Midway, midway_start, midway_fits, midway_room, midway_step, midway_length, midway_out}

-- the records left are n - i, and their numbers start at 6 i
pub record Underway (ns : List ℕ) (n : ℕ) (out₀ out : List ℕ) (c : State) (i : ℕ) : Type 0 where
  pub there : 6 * n ≤ length ns
  pub count : length (records_in n ns) ≡ n
  pub midway : Midway (records_in n ns) out₀ out c (records_in (n - i) (drop (6 * i) ns))

module _ (ns : List ℕ) (n : ℕ) (out₀ : List ℕ) where
  pub underway_start : length out₀ ≤ longest → 6 * n ≤ length ns → all_fit (records_in n ns) ≡ true → Underway ns n out₀ out₀ fresh 0
  underway_start short there fit =
      record {
        there = there;
        count = records_named n ns there;
        midway = rw sub-zero (midway_start (records_in n ns) out₀ short fit);
      }

  module _ (out : List ℕ) (c : State) (i : ℕ) (g : Underway ns n out₀ out c i) where
    module _ (more : i < n) where
      -- the next record, and those behind it
      next : records_in (n - i) (drop (6 * i) ns) ≡ record_in (drop (6 * i) ns) ∷ records_in (n - (i + 1)) (drop (6 * (i + 1)) ns)
      next =
          let e : 6 * (i + 1) ≡ 6 * i + 6 = omega arith in
          rw e (next_record ns n i (6 * i) more (omega (arith, g.there)))

      here : Midway (records_in n ns) out₀ out c (record_in (drop (6 * i) ns) ∷ records_in (n - (i + 1)) (drop (6 * (i + 1)) ns))
      here = subst (Midway (records_in n ns) out₀ out c) next g.midway

      pub underway_fits : fits (record_in (drop (6 * i) ns)) ≡ true
      underway_fits = true-fits _ (midway_fits (records_in n ns) out₀ out c _ _ here)

      module _ (room : strip_length n ≤ length out₀) where
        enough : strip_length (length (records_in n ns)) ≤ length out₀
        enough = rw g.count room

        pub underway_room : bits_written c + record_bits ≤ 8 * length out
        underway_room = midway_room (records_in n ns) out₀ out c _ _ here enough

        pub underway_step :
            (t : List ℕ) (d : State) →
            t ≡ put_out Big out c record_bits (bits_of (record_in (drop (6 * i) ns))) → d ≡ put Big c record_bits (bits_of (record_in (drop (6 * i) ns))) → Underway ns n out₀ t d (i + 1)
        underway_step t d ht hd =
            record {
              there = g.there;
              count = g.count;
              midway = midway_step (records_in n ns) out₀ out c _ _ here enough t d ht hd;
            }

    -- after the last, a flush gives the strip
    module _ (all : n ≤ i) where
      last : Midway (records_in n ns) out₀ out c []
      last = subst (Midway (records_in n ns) out₀ out c) (no_record_left (drop (6 * i) ns) n i all) g.midway

      pub underway_length : (put Big c (padding (writer_with c)) 0).written ≡ strip_length n
      underway_length = midway_length (records_in n ns) out₀ out c last ∙ ap strip_length g.count

      pub underway_out : put_out Big out c (padding (writer_with c)) 0 ≡ sets out₀ 0 (strip_bytes (records_in n ns))
      underway_out = midway_out (records_in n ns) out₀ out c last
