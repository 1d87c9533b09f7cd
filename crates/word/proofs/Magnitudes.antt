-- Division by magnitudes. Document 02, item 3: "take magnitudes, divide them, put the signs back", and "each answer's magnitude is the
-- magnitudes' quotient or remainder (2^31 for -2^31)".
use Rattle.std.proofs.Common.{if◌then◌else◌}
use Prim.Native.Nat.{ℕ, zero, suc, ◌/◌, ◌%◌, ◌^◌, ◌≤◌, ◌<◌}
use mathlib.Core.Path.{◌≡◌, refl, ap}
use mathlib.Core.Bool.{Bool, true, false, not, beq}
use mathlib.Core.Logic.{◌⊎◌, inl, inr}
use native.Mathlib.Nat.{div-le_self, mod-le, eq-or-lt_of_le, le_trans}
use lib.IntN.{ℤ, pos, negsuc, neg_ℤ, nat_abs}
use lib.Signed.{non_neg, quot_z, rem_z, nat_abs-le}
use mir.Syntax.{w32}
use mir.Val.{to_z, of_z}
use mir.Facts.{to_z_pos, to_z-neg, sfits_to_z}
use Rattle.word.specs.Word.{quotient, remainder}
use Rattle.word.specs.Magnitude.{magnitude, negative, with_sign}
use Rattle.word.proofs.Division.{not_zero}

-- ---- magnitudes divided, signs put back

-- the quotient's sign is minus where the signs differ
quot_z_signs : (z d : ℤ) → let q = nat_abs z / nat_abs d in
    (if not (beq (not (non_neg z)) (not (non_neg d))) then neg_ℤ (pos q) else pos q) ≡ quot_z z d
quot_z_signs (pos a) (pos b) = refl
quot_z_signs (pos a) (negsuc b) = refl
quot_z_signs (negsuc a) (pos b) = refl
quot_z_signs (negsuc a) (negsuc b) = refl

-- the remainder's sign is the dividend's
rem_z_signs : (z d : ℤ) → let r = nat_abs z % nat_abs d in (if not (non_neg z) then neg_ℤ (pos r) else pos r) ≡ rem_z z d
rem_z_signs (pos a) d = refl
rem_z_signs (negsuc a) d = refl

module _ (x y : ℕ) where
  pub quotient_signs : with_sign (not (beq (negative x) (negative y))) (magnitude x / magnitude y) ≡ quotient x y
  unfolding with_sign negative magnitude quotient
  quotient_signs = ap (of_z w32) (quot_z_signs (to_z w32 x) (to_z w32 y))

  pub remainder_signs : with_sign (negative x) (magnitude x % magnitude y) ≡ remainder x y
  unfolding with_sign negative magnitude remainder
  remainder_signs = ap (of_z w32) (rem_z_signs (to_z w32 x) (to_z w32 y))

-- ---- the magnitude of an answer

-- up to 2^31 the word of -m has the magnitude m
negative_kept : (m : ℕ) → m ≤ 2 ^ 31 → nat_abs (to_z w32 (of_z w32 (neg_ℤ (pos m)))) ≡ m
negative_kept zero h = refl
negative_kept (suc n) h = ap nat_abs (to_z-neg w32 n h)

-- and so has the word of m: that of 2^31 is that of -2^31
positive_kept : {m : ℕ} → (m ≡ 2 ^ 31) ⊎ (m < 2 ^ 31) → nat_abs (to_z w32 m) ≡ m
positive_kept (inl e) = rw e refl
positive_kept (inr l) = ap nat_abs (to_z_pos w32 l)

-- a sign put back keeps the magnitude
magnitude_kept : (minus : Bool) (m : ℕ) → m ≤ 2 ^ 31 → magnitude (with_sign minus m) ≡ m
unfolding magnitude with_sign
magnitude_kept true m h = negative_kept m h
magnitude_kept false m h = positive_kept (eq-or-lt_of_le h)

-- no magnitude is above 2^31
magnitude_bound : (x : ℕ) → x < 2 ^ 32 → magnitude x ≤ 2 ^ 31
unfolding magnitude
magnitude_bound x h = nat_abs-le (to_z w32 x) (sfits_to_z {w = w32} (record { fits = h })).sfits

-- for every dividend and every divisor, -2^31 by -1 no exception; by 0, which no run divides by, it is the logic's `/` and `%`
module _ (x y : ℕ) (h : x < 2 ^ 32) where
  pub quotient_magnitude : magnitude (quotient x y) ≡ magnitude x / magnitude y
  quotient_magnitude =
      rw (← quotient_signs x y)
      (magnitude_kept _ _ (le_trans (div-le_self (magnitude x) (magnitude y)) (magnitude_bound x h)))

  pub remainder_magnitude : magnitude (remainder x y) ≡ magnitude x % magnitude y
  remainder_magnitude =
      rw (← remainder_signs x y) (magnitude_kept _ _ (le_trans (mod-le (magnitude x) (magnitude y)) (magnitude_bound x h)))

-- a divisor that is not 0 has a magnitude that is not 0
pub magnitude_pos : (y : ℕ) → y < 2 ^ 32 → 0 < y → 0 < magnitude y
unfolding magnitude
magnitude_pos y h p = not_zero (record { fits = h }) p

-- "(2^31 for -2^31)"
pub magnitude_least : magnitude 0x80000000 ≡ 2 ^ 31
unfolding magnitude
magnitude_least = refl
