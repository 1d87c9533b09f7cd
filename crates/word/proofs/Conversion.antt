-- A word's signed reading in a local of type i32, which holds bits. Document 01, "Opcodes".
use Prim.Native.Nat.{ℕ, ◌<◌}
use mathlib.Core.Path.{◌≡◌, refl, ◌∙◌}
use mathlib.Core.Bool.{not}
use native.Mathlib.Omega.{arith}
use borrow.Author.Tests.{le-ltb}
use lib.IntN.{ℤ, pos, negsuc}
use lib.Signed.{mag, lt_z, non_neg}
use mir.Syntax.{w32}
use mir.Val.{to_z, of_z}
use mir.Facts.{to_z-of_z}

-- the local of a word reads back as the word's signed reading
pub read_back : (x : ℕ) {z : ℤ} → mag z < 2147483648 → z ≡ to_z w32 x → to_z w32 (of_z w32 z) ≡ to_z w32 x
read_back x h e = to_z-of_z {w = w32} (record { sfits = h }) ∙ e

-- a number is below 0 where it has the sign
pub below_zero : (z : ℤ) → lt_z z (pos 0) ≡ not (non_neg z)
below_zero (pos n) = le-ltb n 0 (omega arith)
below_zero (negsuc n) = refl
