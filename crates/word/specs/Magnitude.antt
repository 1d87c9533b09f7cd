-- Magnitude and sign of a word. Document 02, item 3: "take magnitudes, divide them, put the signs back" and "(2^31 for -2^31)".
use Rattle.std.specs.Prelude.{ℕ, Bool, not, pos, neg_ℤ, nat_abs, if◌then◌else◌}
use Rattle.std.specs.Int.Signed.{non_neg}
use Rattle.std.specs.Int.{w32}
use Rattle.std.proofs.Common.{to_z, of_z}

-- the magnitude of the signed reading: 7 for -7, 2^31 for -2^31
unfoldable pub magnitude : ℕ → ℕ
magnitude x = nat_abs (to_z w32 x)

-- whether the signed reading is below 0
unfoldable pub negative : ℕ → Bool
negative x = not (non_neg (to_z w32 x))

-- the word of a magnitude with its sign put back
unfoldable pub with_sign : Bool → ℕ → ℕ
with_sign minus m = of_z w32 (if minus then neg_ℤ (pos m) else pos m)
