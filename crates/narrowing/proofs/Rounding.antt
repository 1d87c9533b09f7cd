-- Rounding to a single, as a pattern: a / 2 ^ j units of 2 ^ -149, times 2 ^ k, where a / 2 ^ j has 24 digits before the point, or fewer if k is 0.
use mathlib.Core.Path.{◌≡◌, sym, ap, ◌∙◌}
use mathlib.Core.Logic.{◌⊎◌, inl, inr}
use mathlib.Core.Bool.{Bool}
use Prim.Native.Nat.{ℕ, ◌+◌, ◌-◌, ◌*◌, ◌/◌, ◌^◌, ◌≤◌, ◌<◌, min}
use native.Mathlib.Nat.{le_trans, le_of_eq, lt_of_lt_of_le, mul_comm, mul_assoc, mul_left_comm, mul_right_comm, mul-pos}
use native.Mathlib.Nat.{mul-le-mul_right, mul-lt-mul_of_pos_right, div-lt_iff_lt-mul, le-div_iff_mul-le}
use native.Mathlib.Omega.{arith}
use lib.Pow.{pow-add, pow_pos}
use lib.Ieee.{binary32, size, units, round, to_bits}
use lib.Ieee.Digits.{size-le}
use lib.Ieee.Fits.{core, round_is}
use lib.Ieee.Nearest.{closest, closest_same, div_same}
use Rattle.narrowing.proofs.Closest.{closest_le, closest_ge}
use Rattle.narrowing.proofs.Patterns.{sign_bit, infinity, plain, size_exact, units_pattern}

module _ (a k j : ℕ) (small : a < 2 ^ 24 * 2 ^ j) (full : (k ≡ 0) ⊎ (2 ^ 23 * 2 ^ j ≤ a)) where
  -- the fraction in units, and its whole part
  whole : a * 2 ^ k * 2 ^ 149 / 2 ^ (149 + j) ≡ a * 2 ^ k / 2 ^ j
  whole = div_same (a * 2 ^ k * 2 ^ 149) (2 ^ (149 + j)) (a * 2 ^ k) (2 ^ j) (pow_pos (149 + j)) (pow_pos j) (rw (pow-add 2 149 j) (mul_assoc (a * 2 ^ k) (2 ^ 149) (2 ^ j)))

  -- k digits of it are dropped
  dropped : size (a * 2 ^ k * 2 ^ 149 / 2 ^ (149 + j)) - 24 ≡ k
  dropped = rw whole (go full)
    where
      at_most : a * 2 ^ k / 2 ^ j < 2 ^ (24 + k)
      at_most =
          (div-lt_iff_lt-mul (pow_pos j)).1
          (lt_of_lt_of_le (mul-lt-mul_of_pos_right small (pow_pos k)) (le_of_eq (mul_right_comm (2 ^ 24) (2 ^ j) (2 ^ k) ∙ ap (λ (x : ℕ). x * 2 ^ j) (sym (pow-add 2 24 k)))))

      go : (k ≡ 0) ⊎ (2 ^ 23 * 2 ^ j ≤ a) → size (a * 2 ^ k / 2 ^ j) - 24 ≡ k
      go (inl e) = let l = size-le (a * 2 ^ k / 2 ^ j) (24 + k) at_most in omega arith
      go (inr g) =
          let at_least : 2 ^ (23 + k) ≤ a * 2 ^ k / 2 ^ j =
          (le-div_iff_mul-le (pow_pos j)).1
          (le_trans (le_of_eq (ap (λ (x : ℕ). x * 2 ^ j) (pow-add 2 23 k) ∙ mul_right_comm (2 ^ 23) (2 ^ k) (2 ^ j))) (mul-le-mul_right (2 ^ k) g)) in
          let l = size_exact (a * 2 ^ k / 2 ^ j) (23 + k) (24 + k) (omega arith) at_least at_most in omega arith

  -- and a / 2 ^ j is rounded
  kept : closest (a * 2 ^ k * 2 ^ 149) (2 ^ (149 + j) * 2 ^ k) ≡ closest a (2 ^ j)
  kept =
      closest_same (a * 2 ^ k * 2 ^ 149) (2 ^ (149 + j) * 2 ^ k) a (2 ^ j) (mul-pos (pow_pos (149 + j)) (pow_pos k)) (pow_pos j)
      (rw (pow-add 2 149 j) (simp (mul_assoc, mul_comm, mul_left_comm)))

  full_kept : (k ≡ 0) ⊎ (2 ^ 23 * 2 ^ j ≤ a) → (k ≡ 0) ⊎ (2 ^ 23 ≤ closest a (2 ^ j))
  full_kept (inl e) = inl e
  full_kept (inr g) = inr (closest_ge a (2 ^ j) (2 ^ 23) (pow_pos j) g)

  pub rounded : (s : Bool) → to_bits binary32 (round binary32 s (a * 2 ^ k) (2 ^ (149 + j))) ≡ sign_bit s + min (plain (closest a (2 ^ j)) k) infinity
  rounded s =
      ap (to_bits binary32) (round_is binary32 s (a * 2 ^ k) (2 ^ (149 + j))
      ∙ ap (λ (d : ℕ). core binary32 s (a * 2 ^ k * 2 ^ 149) (2 ^ (149 + j)) d) dropped
      ∙ ap (λ (q : ℕ). units binary32 s q k) kept)
      ∙ units_pattern s (closest a (2 ^ j)) k (closest_le a (2 ^ j) (2 ^ 24) (pow_pos j) small) (full_kept full)
