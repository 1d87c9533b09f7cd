-- Shifts. Document 01, "Opcodes": "Shift counts are taken modulo 32", so that SHR gives the floor of a / 2 ^ (count modulo 32).
use Prim.Native.Nat.{ℕ, suc, ◌+◌, ◌*◌, ◌-◌, ◌/◌, ◌%◌, ◌^◌, ◌<◌}
use mathlib.Core.Path.{◌≡◌, ap}
use native.Mathlib.Nat.{div-add-mod', mod-lt, suc-mul, lt_of_le_of_lt}
use native.Mathlib.Omega.{arith}
use borrow.Author.Tests.{lt-ltb}
use lib.Pow.{pow_pos}
use lib.IntN.{ℤ, pos, negsuc, neg_ℤ, ◌+ℤ◌, ◌*ℤ◌}
use lib.Signed.{shr_z, mag_shr}
use mir.Syntax.{w32}
use mir.Val.{to_z, Fits, SFits}
use mir.Facts.{to_z-of_z, sfits_to_z}
use Rattle.word.specs.Word.{shift_right}

-- a shift to the right stays in the range
pub shift_fits : {x : ℕ} (m : ℕ) → Fits w32 x → SFits w32 (shr_z (to_z w32 x) m)
shift_fits {x} m f = record { sfits = lt_of_le_of_lt (mag_shr (to_z w32 x) m) (sfits_to_z f).sfits }

-- q is the floor of a / m
pub record Floor (a : ℤ) (m : ℕ) (q : ℤ) : Type 0 where
  pub rest : ℕ
  pub whole : q *ℤ pos m +ℤ pos rest ≡ a
  pub small : rest < m

-- -(a + r + 1) + r
neg_plus : (a r : ℕ) → neg_ℤ (pos (suc (a + r))) +ℤ pos r ≡ negsuc a
neg_plus a r = rw (lt-ltb r (suc (a + r)) (omega arith)) (ap negsuc (omega arith))

-- a shift rounds down
floor_of_lem : (z : ℤ) (m : ℕ) → 0 < m → Floor z m (shr_z z m)
floor_of_lem (pos a) m h = record { rest = a % m; whole = ap pos (div-add-mod' a m); small = mod-lt a h }
floor_of_lem (negsuc a) m h =
    let l = mod-lt a h in
    let e : suc (a / m) * m ≡ suc (a + (m - suc (a % m))) = rw suc-mul (omega (arith, div-add-mod' a m)) in
    record { rest = m - suc (a % m); whole = rw e (neg_plus a (m - suc (a % m))); small = omega arith }

-- the floor, for every count
pub shift_floor : (x n : ℕ) → x < 2 ^ 32 → Floor (to_z w32 x) (2 ^ n) (to_z w32 (shift_right x n))
unfolding shift_right
shift_floor x n h =
    let f : Fits w32 x = record { fits = h } in
    rw (to_z-of_z (shift_fits (2 ^ n) f)) (floor_of_lem (to_z w32 x) (2 ^ n) (pow_pos n))
