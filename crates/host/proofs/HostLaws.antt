-- The host's refusal in each of its cases, and what holds where there is none.
use mathlib.Core.Path.{◌≡◌}
use Prim.Native.Nat.{ℕ, ◌+◌, ◌*◌, ◌<◌, ◌≤◌}
use borrow.Author.Tests.{lt-ltb, le-ltb}
use Rattle.bits.specs.Refusals.{longest, done, too_long, too_wide, too_few, or_else, first_refusal}
use Rattle.bits.proofs.RefusalLaws.{passed, at_most}
use Rattle.host.specs.Host.{host_refusal}

module _ (p w n : ℕ) where
  pub refused_too_long : longest < n → host_refusal p w n ≡ too_long
  unfolding host_refusal first_refusal or_else
  refused_too_long l = simp (lt-ltb _ _ l)

  pub refused_too_wide : n ≤ longest → 64 < w → host_refusal p w n ≡ too_wide
  unfolding host_refusal first_refusal or_else
  refused_too_wide l h = simp (le-ltb _ _ l, lt-ltb _ _ h)

  pub refused_too_few : n ≤ longest → w ≤ 64 → 8 * n < p + w → host_refusal p w n ≡ too_few
  unfolding host_refusal first_refusal or_else
  refused_too_few l h e = simp (le-ltb _ _ l, le-ltb _ _ h, lt-ltb _ _ e)

  pub not_refused : n ≤ longest → w ≤ 64 → p + w ≤ 8 * n → host_refusal p w n ≡ done
  unfolding host_refusal first_refusal or_else
  not_refused l h e = simp (le-ltb _ _ l, le-ltb _ _ h, le-ltb _ _ e)

  -- where nothing is refused, the field lies within the slice
  pub done-within : host_refusal p w n ≡ done → (w ≤ 64) × (p + w ≤ 8 * n) × (n ≤ longest)
  unfolding host_refusal
  done-within e = let (short, (few, within)) = passed _ e in (at_most _ _ _ few, at_most _ _ _ within, at_most _ _ _ short)
