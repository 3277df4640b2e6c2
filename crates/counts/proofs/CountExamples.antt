-- The counts that the Rust gives for reads of bytes on 40 bytes, at the start and after one bit.
use Prim.Native.Nat.{ℕ}
use mathlib.Core.Path.{◌≡◌, refl}
use mathlib.Core.List.{List, [], ◌∷◌, map}
use Rattle.counts.specs.declared.Counts.{Counts}
use Rattle.counts.specs.Counts.{after_read, after_eights, passed_over, after_beyond, after_bytes}

-- offset and lookahead
abbrev counts : ℕ → ℕ → Counts
counts o r = record { offset = o; lookahead = r }

abbrev start : Counts
start = counts 0 0

abbrev one_bit : Counts
one_bit = after_read 40 1 start

-- the counts before, how many bytes are read, the counts after
abbrev pub table : List (Counts × ℕ × Counts)
table =
    (start, 3, counts 10 56)
    ∷ (one_bit, 0, counts 7 55)
    ∷ (one_bit, 6, counts 7 7)
    ∷ (one_bit, 7, counts 15 63)
    ∷ (one_bit, 22, counts 29 55)
    ∷ (one_bit, 23, counts 31 63)
    ∷ (one_bit, 39, counts 40 7)
    ∷ []

pub rust_counts :
    map (λ (row : Counts × ℕ × Counts). after_bytes 40 row.1 row.0) table ≡ map (λ (row : Counts × ℕ × Counts). row.2) table
unfolding after_read after_eights passed_over after_beyond after_bytes
rust_counts = refl
