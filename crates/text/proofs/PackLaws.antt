-- Packing the records of lines one after the other: what stands at a line, and its laws.
use mathlib.Core.Path.{◌≡◌, sym, ap, ◌∙◌, subst}
use mathlib.Core.Bool.{true}
use mathlib.Core.List.{List, [], ◌∷◌}
use Prim.Native.Nat.{ℕ, ◌+◌, ◌*◌, ◌<◌, ◌≤◌}
use native.Mathlib.Omega.{arith}
use lib.ListN.{length, drop}
use Rattle.bits.specs.declared.Order.TheVariants.{Big}
use Rattle.bits.specs.Refusals.{longest}
use Rattle.packing.specs.declared.State.{State}
use Rattle.packing.specs.Packing.{bits_written, put, put_out}
use Rattle.record.specs.declared.Record.{Record}
use Rattle.record.specs.Record.{fits, record_bits}
use Rattle.strip.specs.Bits.{bits_of}
use Rattle.strip.specs.Strip.{strip_length}
use Rattle.strip.proofs.MidwayLaws.{fresh, Midway, midway_start, midway_room, midway_step}
use Rattle.line.specs.declared.inner.LineAt.{LineAt}
use Rattle.line.specs.Reading.{begins, first_of, LineStands}
use Rattle.std.specs.Prelude.{Some}
use Rattle.std.specs.Option.{IsSome}
use Rattle.line.proofs.AnswerLaws.{line_named}
use Rattle.text.specs.Text.{header, Lines, more, body_of}
use Rattle.text.proofs.HeaderLaws.{header_length, length-header}
use Rattle.text.proofs.LinesLaws.{line_there, lines_from, body_fits, body_from, from_next, from_good, from_end}

-- the lines from `at` on are good, and their records are left
pub record Underway (t out₀ out : List ℕ) (c : State) (at : ℕ) : Type 0 where
  pub within : at ≤ length t
  pub good : (lines_from t at).good ≡ true
  pub midway : Midway (body_of t).records out₀ out c (lines_from t at).records

module _ (t out₀ : List ℕ) where
  pub underway_start : length header ≤ length t → length out₀ ≤ longest → (body_of t).good ≡ true → Underway t out₀ out₀ fresh header_length
  underway_start h short e =
      record {
        within = omega (arith, h, length-header);
        good = ap (λ (l : Lines). l.good) (sym (body_from t)) ∙ e;
        midway = subst (λ (l : Lines). Midway (body_of t).records out₀ out₀ fresh l.records) (body_from t) (midway_start (body_of t).records out₀ short (body_fits t));
      }

  module _ (out : List ℕ) (c : State) (at : ℕ) (g : Underway t out₀ out c at) where
    module _ (some : at < length t) (r : LineAt) (x : LineStands t at r) where
      next_begins : begins (drop at t) ≡ true
      next_begins = from_good t at some g.good

      -- its record stands there
      pub underway_there : IsSome r.«record»
      underway_there = line_there x ∙ next_begins

      pub underway_further : at < r.next
      underway_further = x.further next_begins

      module _ {q : Record} (named : r.«record» ≡ Some q) where
        record_is : q ≡ first_of (drop at t)
        record_is = (line_named x named).1

        lines_are : lines_from t at ≡ more q (lines_from t r.next)
        lines_are = from_next t at r.next some next_begins x.rest ∙ ap (λ (p : Record). more p (lines_from t r.next)) (sym record_is)

        midway_here : Midway (body_of t).records out₀ out c (q ∷ (lines_from t r.next).records)
        midway_here = subst (λ (l : Lines). Midway (body_of t).records out₀ out c l.records) lines_are g.midway

        pub underway_fits : fits q ≡ true
        underway_fits = ap fits record_is ∙ next_begins

        module _ (room : strip_length (length (body_of t).records) ≤ length out₀) where
          pub underway_room : bits_written c + record_bits ≤ 8 * length out
          underway_room = midway_room (body_of t).records out₀ out c _ _ midway_here room

          pub underway_step : (u : List ℕ) (d : State) → u ≡ put_out Big out c record_bits (bits_of q) → d ≡ put Big c record_bits (bits_of q) → Underway t out₀ u d r.next
          underway_step u d hu hd =
              record {
                within = x.within;
                good = ap (λ (l : Lines). l.good) (sym lines_are) ∙ g.good;
                midway = midway_step (body_of t).records out₀ out c _ _ midway_here room u d hu hd;
              }

    pub underway_end : length t ≤ at → Midway (body_of t).records out₀ out c []
    underway_end h =
        let w = g.within in
        subst (λ (l : Lines). Midway (body_of t).records out₀ out c l.records) (from_end t at (omega arith)) g.midway
