-- 32-bit words. Document 01, "What is emulated": "All 32-bit sums, differences and products wrap"; "Opcodes": sign extension, quotient,
-- remainder and shifts. A word is a number below 2 ^ 32; its signed reading is `to_z w32`, and `of_z w32` gives the word back.
use Rattle.std.specs.Prelude.{ℕ, ◌+◌, ◌*◌, ◌-◌, ◌/◌, ◌%◌, ◌^◌, Bool, ltb, if◌then◌else◌}
use Rattle.std.specs.Int.Signed.{quot_z, rem_z, shr_z, lt_z}
use Rattle.std.specs.Int.{w32}
use Rattle.std.proofs.Common.{to_z, of_z}

-- the low 32 bits of a sum
abbrev pub sum : ℕ → ℕ → ℕ
sum x y = (x + y) % 2 ^ 32

-- the low 32 bits of a difference
abbrev pub difference : ℕ → ℕ → ℕ
difference x y = (x + (2 ^ 32 - y)) % 2 ^ 32

-- the low 32 bits of a product
abbrev pub product : ℕ → ℕ → ℕ
product x y = x * y % 2 ^ 32

-- x with its low bits dropped to a multiple of n
abbrev pub cut : ℕ → ℕ → ℕ
cut n x = x / n * n

-- the word whose low n bits are x, the sign bit copied above them
unfoldable pub extend : ℕ → ℕ → ℕ
extend n x = if ltb x (2 ^ (n - 1)) then x else x + (2 ^ 32 - 2 ^ n)

-- the signed quotient, cut toward zero
unfoldable pub quotient : ℕ → ℕ → ℕ
quotient x y = of_z w32 (quot_z (to_z w32 x) (to_z w32 y))

-- the signed remainder, with the sign of the dividend
unfoldable pub remainder : ℕ → ℕ → ℕ
remainder x y = of_z w32 (rem_z (to_z w32 x) (to_z w32 y))

-- the low 32 bits of x, shifted left by n
unfoldable pub shift_left : ℕ → ℕ → ℕ
shift_left x n = x * 2 ^ n % 2 ^ 32

-- x shifted right by n, the sign bit copied in from above
unfoldable pub shift_right : ℕ → ℕ → ℕ
shift_right x n = of_z w32 (shr_z (to_z w32 x) (2 ^ n))

-- x shifted right by n, zeros brought in from above
unfoldable pub shift_right_unsigned : ℕ → ℕ → ℕ
shift_right_unsigned x n = x / 2 ^ n

-- "Shift counts are taken modulo 32"
unfoldable pub shift_count : ℕ → ℕ
shift_count n = n % 32

-- the order of the signed readings
unfoldable pub less_signed : ℕ → ℕ → Bool
less_signed x y = lt_z (to_z w32 x) (to_z w32 y)
