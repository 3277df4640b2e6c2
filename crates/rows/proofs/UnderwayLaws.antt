-- Packing the records that rows say: what stands after i of n, and its laws.
use mathlib.Core.Path.{◌≡◌, ap, ◌∙◌, subst}
use mathlib.Core.Bool.{true}
use mathlib.Core.List.{List, [], ◌∷◌}
use Prim.Native.Nat.{ℕ, ◌+◌, ◌-◌, ◌*◌, ◌<◌, ◌≤◌}
use native.Mathlib.Nat.{sub-zero}
use native.Mathlib.Omega.{arith}
use lib.ListN.{length}
use lib.Seq.{sets}
use Rattle.bits.specs.declared.Order.TheVariants.{Big}
use Rattle.bits.specs.Refusals.{longest}
use Rattle.packing.specs.declared.State.{State}
use Rattle.packing.specs.Packing.{bits_written, put, put_out}
use Rattle.writer.specs.Writer.{writer_with, padding}
use Rattle.record.specs.declared.Record.{Record}
use Rattle.record.specs.Record.{record_bits}
use Rattle.strip.specs.Bits.{bits_of}
use Rattle.strip.specs.Strip.{strip_length, strip_bytes}
use Rattle.strip.proofs.MidwayLaws.{fresh, Midway, midway_start, midway_room, midway_step, midway_length, midway_out}
use Rattle.rows.specs.Row.{columns_at, in_range, record_said, row_length}
use Rattle.rows.specs.Rows.{records_in_rows, bad_from}
use Rattle.rows.proofs.RowsLaws.{next_good, next_record, none_left, rows_fit, rows_count}

-- the records left are those of n - i rows, which start at byte 18 i, and none of them is bad
pub record Underway (s : List ℕ) (n : ℕ) (out₀ out : List ℕ) (c : State) (i : ℕ) : Type 0 where
  pub there : row_length * n ≤ length s
  pub good : bad_from s (8 * (row_length * i)) (i + 1) (n - i) ≡ 0
  pub midway : Midway (records_in_rows s 0 n) out₀ out c (records_in_rows s (8 * (row_length * i)) (n - i))

next_row : (i : ℕ) → row_length * (i + 1) ≡ row_length * i + 18
next_row i = omega arith

module _ (s : List ℕ) (n : ℕ) (out₀ : List ℕ) where
  -- the records of all rows
  abbrev all : List Record
  all = records_in_rows s 0 n

  pub underway_start : length out₀ ≤ longest → row_length * n ≤ length s → bad_from s 0 1 n ≡ 0 → Underway s n out₀ out₀ fresh 0
  underway_start short there good =
      record {
        there = there;
        good = rw sub-zero good;
        midway = rw sub-zero (midway_start all out₀ short (rows_fit n s 0 0 good));
      }

  module _ (out : List ℕ) (c : State) (i : ℕ) (g : Underway s n out₀ out c i) where
    module _ (more : i < n) where
      -- the next row says a record, and none behind it is bad
      pub underway_good : (in_range (columns_at s (8 * (row_length * i))) ≡ true) × (bad_from s (8 * (row_length * (i + 1))) (i + 1 + 1) (n - (i + 1)) ≡ 0)
      underway_good = rw (next_row i) (next_good s n i (row_length * i) more g.good)

      here : Midway all out₀ out c (record_said (columns_at s (8 * (row_length * i))) ∷ records_in_rows s (8 * (row_length * (i + 1))) (n - (i + 1)))
      here = rw (next_row i) (subst (Midway all out₀ out c) (next_record s n i (row_length * i) more) g.midway)

      module _ (room : strip_length n ≤ length out₀) where
        enough : strip_length (length all) ≤ length out₀
        enough = rw (rows_count n s 0) room

        pub underway_room : bits_written c + record_bits ≤ 8 * length out
        underway_room = midway_room all out₀ out c _ _ here enough

        pub underway_step :
            (r : Record) (t : List ℕ) (d : State) → r ≡ record_said (columns_at s (8 * (row_length * i))) →
            t ≡ put_out Big out c record_bits (bits_of r) → d ≡ put Big c record_bits (bits_of r) → Underway s n out₀ t d (i + 1)
        underway_step r t d e ht hd =
            let b : bits_of r ≡ bits_of (record_said (columns_at s (8 * (row_length * i)))) = ap bits_of e in
            record {
              there = g.there;
              good = underway_good.1;
              midway = midway_step all out₀ out c _ _ here enough t d (ht ∙ ap (put_out Big out c record_bits) b) (hd ∙ ap (put Big c record_bits) b);
            }

    -- after the last, a flush gives the strip
    module _ (done : n ≤ i) where
      last : Midway all out₀ out c []
      last = subst (Midway all out₀ out c) (none_left s n i (8 * (row_length * i)) done) g.midway

      pub underway_length : (put Big c (padding (writer_with c)) 0).written ≡ strip_length n
      underway_length = midway_length all out₀ out c last ∙ ap strip_length (rows_count n s 0)

      pub underway_out : put_out Big out c (padding (writer_with c)) 0 ≡ sets out₀ 0 (strip_bytes all)
      underway_out = midway_out all out₀ out c last
