-- What sign_extend answers.
use Rattle.std.specs.Prelude.{ℕ, ◌^◌, [], ◌∷◌, ℤ, pos, nat_le, nat_lt}
use Rattle.bits.specs.Refusals.{Told, too_wide, too_large, ◌⟶◌, first_refusal, if_done}
use Rattle.bits.specs.Signed.{signed}

-- 3 for a width above 64, 4 for a value at or above 2 to its width
unfoldable pub extend_refusal : ℕ → ℕ → ℕ
extend_refusal v w = first_refusal (nat_lt 64 w ⟶ too_wide ∷ nat_le (2 ^ w) v ⟶ too_large ∷ [])

-- the signed meaning, or 0 with a refusal
unfoldable pub extend_of : ℕ → ℕ → Told ℤ
extend_of v w = record { refusal = extend_refusal v w; value = if_done (extend_refusal v w) (signed w v) (pos 0) }
