-- The unit that the code divides by: 2 ^ k as a shift makes it, with the sum and the product that fit beside it.
use mathlib.Core.Path.{◌≡◌, ap, ◌∙◌}
use Prim.Native.Nat.{ℕ, ◌*◌, ◌/◌, ◌%◌, ◌^◌, ◌≤◌, ◌<◌}
use native.Mathlib.Nat.{one-mul, mod-eq_of_lt, mod-lt, div-add-mod', le-mul_of_pos_right}
use native.Mathlib.Omega.{arith}
use lib.Pow.{pow-lt, pow_pos, pow_mono}
use lib.Ieee.Nearest.{closest}
use mir.Syntax.{w64}
use mir.Val.{Fits}

abbrev pub unit : ℕ → ℕ
unit k = 1 * 2 ^ k % 2 ^ 64

module _ (n k : ℕ) (fits : Fits w64 n) (small : k < 64) where
  unit_power : unit k ≡ 2 ^ k
  unit_power = let l : 2 ^ k < 2 ^ 64 = pow-lt small in rw (one-mul (2 ^ k), mod-eq_of_lt l)

  pub in_units : {r : ℕ} → r ≡ closest n (unit k) → r ≡ closest n (2 ^ k)
  in_units e = e ∙ ap (λ (u : ℕ). closest n u) unit_power

  pub unit_pos : 0 < unit k
  unit_pos = rw unit_power (pow_pos k)

  -- twice a remainder
  pub twice_fits : Fits w64 (n % unit k * 2)
  twice_fits =
      let r = mod-lt n unit_pos in
      let l : unit k ≤ 2 ^ 63 = rw unit_power (pow_mono {j = 63} (omega arith)) in
      record { fits = omega arith }

  -- one more than a quotient, where something is left over
  pub rise : unit k ≤ n % unit k * 2 → n / unit k < n
  rise l =
      let e = div-add-mod' n (unit k) in
      let g = le-mul_of_pos_right (n / unit k) unit_pos in
      let p = unit_pos in
      omega arith
