-- Values that do not fit their width, as the code tests them.
use mathlib.Core.Path.{◌≡◌, sym, ap, ◌∙◌, subst}
use mathlib.Core.Bool.{false}
use Prim.Native.Nat.{ℕ, ◌+◌, ◌-◌, ◌/◌, ◌^◌, ◌<◌, ◌≤◌}
use native.Mathlib.Omega.{arith}
use lib.Dec.{leb, ltb}
use lib.Pow.{pow-add, shl-shr, shr_lt, shr_mono}
use borrow.Author.Tests.{leb-true, leb-false, le-leb, lt-leb, lt-ltb, le-ltb}
use Rattle.bits.proofs.TestLaws.{by_test}
use Rattle.writer.specs.Writer.{oversized}

module _ (n v : ℕ) (some : 1 ≤ n) (most : n ≤ 64) (hv : v < 2 ^ 64) where
  -- no value of 64 bits is too large at width 64
  oversized_is : oversized n v ≡ leb (2 ^ n) v
  unfolding oversized
  oversized_is =
      by_test (leb n 63) (λ e. simp (le-leb 1 n some, e))
      (λ e.
      let l : 63 < n = leb-false n 63 e in
      let f : 64 ≡ n = omega arith in
      simp (le-leb 1 n some, e, lt-leb (2 ^ n) v (subst (λ (k : ℕ). v < 2 ^ k) f hv)))

  half : n ≡ 1 + (n - 1)
  half = omega arith

  -- 1 < v >> (n - 1)
  pub large_test : ltb 1 (v / 2 ^ (n - 1)) ≡ oversized n v
  large_test =
      by_test (leb (2 ^ n) v)
      (λ e.
      let two : 2 ^ n / 2 ^ (n - 1) ≡ 2 = ap (λ (k : ℕ). 2 ^ k / 2 ^ (n - 1)) half ∙ ap (λ (k : ℕ). k / 2 ^ (n - 1)) (pow-add 2 1 (n - 1)) ∙ shl-shr 2 (n - 1) in
      let l : 1 < v / 2 ^ (n - 1) = omega (arith, two, shr_mono (n - 1) (leb-true (2 ^ n) v e)) in
      lt-ltb 1 (v / 2 ^ (n - 1)) l ∙ sym (oversized_is ∙ e))
      (λ e.
      let small : v < 2 ^ (1 + (n - 1)) = subst (λ (k : ℕ). v < 2 ^ k) half (leb-false (2 ^ n) v e) in
      let l : v / 2 ^ (n - 1) ≤ 1 = omega (arith, shr_lt 1 (n - 1) small) in
      le-ltb 1 (v / 2 ^ (n - 1)) l ∙ sym (oversized_is ∙ e))

  -- a value that is not too large
  pub fits_width : oversized n v ≡ false → v < 2 ^ n
  fits_width e = leb-false (2 ^ n) v (sym oversized_is ∙ e)
