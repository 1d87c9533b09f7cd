-- Quotient and remainder. Document 01, "Opcodes": "The quotient is cut toward zero and the remainder takes the sign of the dividend; -2^31
-- by -1 gives 0x80000000 and 0."
use Prim.Native.Nat.{ℕ, zero, suc, ◌*◌, ◌/◌, ◌%◌, ◌^◌, ◌≤◌, ◌<◌}
use mathlib.Core.Path.{◌≡◌, refl, sym, ap, ◌∙◌}
use mathlib.Core.Bool.{false}
use mathlib.Core.Logic.{◌⊎◌, inl, inr}
use native.Mathlib.Nat.{zero-mul, div-le_self, div-lt_self, div-one, div-add-mod', mod-lt, le_of_lt, le_trans, lt_of_le_of_lt}
use native.Mathlib.Omega.{arith}
use lib.IntN.{ℤ, pos, negsuc, neg_ℤ, nat_abs, ◌+ℤ◌, ◌*ℤ◌, neg_ℤ-+ℤ}
use lib.Signed.{mag, non_neg, quot_z, rem_z, mag_rem}
use mir.Syntax.{w32}
use mir.Val.{to_z, of_z, Fits, SFits}
use mir.Facts.{to_z-of_z, of_z-to_z, sfits_to_z}
use Rattle.word.specs.Word.{quotient, remainder}

-- ---- the range

-- a negative number of at most h in size is in the range of h
mag_neg : (r : ℕ) {h : ℕ} → 0 < h → r ≤ h → mag (neg_ℤ (pos r)) < h
mag_neg zero p q = p
mag_neg (suc r) p q = q

-- only -2^31 by -1 leaves the range
quot_z_fits : (z d : ℤ) → SFits w32 z → (z ≡ negsuc 2147483647 → d ≡ negsuc 0 → ⊥) → SFits w32 (quot_z z d)
quot_z_fits (pos a) (pos b) f h = record { sfits = lt_of_le_of_lt (div-le_self a b) f.sfits }
quot_z_fits (pos a) (negsuc b) f h = record { sfits = mag_neg _ (omega arith) (le_trans (div-le_self a (suc b)) (le_of_lt f.sfits)) }
quot_z_fits (negsuc a) (pos b) f h = record { sfits = mag_neg _ (omega arith) (le_trans (div-le_self (suc a) b) f.sfits) }
quot_z_fits (negsuc a) (negsuc zero) f h =
    let n : (a ≡ 2147483647 → ⊥) = λ q. h (ap negsuc q) refl in
    record { sfits = omega (arith, div-one (suc a), f.sfits) }
quot_z_fits (negsuc a) (negsuc (suc b)) f h =
    let l : suc a / suc (suc b) < suc a = div-lt_self (omega arith) (omega arith) in
    record { sfits = omega (arith, f.sfits) }

-- a remainder stays in the range
remainder_fits : {x : ℕ} → Fits w32 x → (y : ℕ) → SFits w32 (rem_z (to_z w32 x) (to_z w32 y))
remainder_fits {x} fx y = record { sfits = lt_of_le_of_lt (mag_rem (to_z w32 x) (to_z w32 y)) (sfits_to_z fx).sfits }

-- and so does a quotient, -2^31 by -1 apart
quotient_fits : {x y : ℕ} → Fits w32 x → Fits w32 y → (x ≡ 2147483648 → y ≡ 4294967295 → ⊥) → SFits w32 (quot_z (to_z w32 x) (to_z w32 y))
quotient_fits {x} {y} fx fy h =
    quot_z_fits (to_z w32 x) (to_z w32 y) (sfits_to_z fx)
    (λ p q. h (sym (of_z-to_z fx) ∙ ap (of_z w32) p) (sym (of_z-to_z fy) ∙ ap (of_z w32) q))

-- ---- the law

-- the quotient q and the remainder r of a by b: a = q b + r, |r| < |b|, and r is 0 or has a's sign
pub record Divided (a b q r : ℤ) : Type 0 where
  pub whole : q *ℤ b +ℤ r ≡ a
  pub small : nat_abs r < nat_abs b
  pub sign : (r ≡ pos 0) ⊎ (non_neg r ≡ non_neg a)

-- -q times b
neg_times : (q b : ℕ) → neg_ℤ (pos q) *ℤ pos b ≡ neg_ℤ (pos (q * b))
neg_times zero b = rw zero-mul
neg_times (suc q) b = refl

-- -q times a negative number
neg_times_neg : (q b : ℕ) → neg_ℤ (pos q) *ℤ negsuc b ≡ pos (q * suc b)
neg_times_neg zero b = rw zero-mul
neg_times_neg (suc q) b = refl

-- division of a negative number by the size of the divisor
neg_whole : (n b : ℕ) → neg_ℤ (pos (n / b * b)) +ℤ neg_ℤ (pos (n % b)) ≡ neg_ℤ (pos n)
neg_whole n b = sym (neg_ℤ-+ℤ (pos (n / b * b)) (pos (n % b))) ∙ ap (λ (k : ℕ). neg_ℤ (pos k)) (div-add-mod' n b)

-- a = q b + r
whole_of : (z d : ℤ) → quot_z z d *ℤ d +ℤ rem_z z d ≡ z
whole_of (pos a) (pos b) = ap pos (div-add-mod' a b)
whole_of (pos a) (negsuc b) = rw neg_times_neg (ap pos (div-add-mod' a (suc b)))
whole_of (negsuc a) (pos b) = rw neg_times (neg_whole (suc a) b)
whole_of (negsuc a) (negsuc b) = neg_whole (suc a) (suc b)

-- the size of a negative number
abs_neg : (r : ℕ) → nat_abs (neg_ℤ (pos r)) ≡ r
abs_neg zero = refl
abs_neg (suc r) = refl

-- |r| < |b|
small_of : (z d : ℤ) → 0 < nat_abs d → nat_abs (rem_z z d) < nat_abs d
small_of (pos a) d h = mod-lt a h
small_of (negsuc a) d h = rw abs_neg (mod-lt (suc a) h)

-- a negative number has its sign, or is 0
sign_neg : (r : ℕ) → (neg_ℤ (pos r) ≡ pos 0) ⊎ (non_neg (neg_ℤ (pos r)) ≡ false)
sign_neg zero = inl refl
sign_neg (suc r) = inr refl

-- r is 0 or has a's sign
sign_of_lem : (z d : ℤ) → (rem_z z d ≡ pos 0) ⊎ (non_neg (rem_z z d) ≡ non_neg z)
sign_of_lem (pos a) d = inr refl
sign_of_lem (negsuc a) d = sign_neg (suc a % nat_abs d)

-- a signed number whose word is not 0 is not 0
abs_pos : (z : ℤ) → SFits w32 z → 0 < of_z w32 z → 0 < nat_abs z
abs_pos (pos n) f h = h
abs_pos (negsuc n) f h = omega arith

-- a word that is not 0 has a signed reading that is not 0
pub not_zero : {y : ℕ} → Fits w32 y → 0 < y → 0 < nat_abs (to_z w32 y)
not_zero {y} fy p = abs_pos (to_z w32 y) (sfits_to_z fy) (rw (of_z-to_z fy) p)

-- for every dividend and every divisor but 0, -2^31 by -1 apart
pub divided : (x y : ℕ) → x < 2 ^ 32 → y < 2 ^ 32 → 0 < y → (x ≡ 0x80000000 → y ≡ 0xFFFFFFFF → ⊥)
    → Divided (to_z w32 x) (to_z w32 y) (to_z w32 (quotient x y)) (to_z w32 (remainder x y))
unfolding quotient remainder
divided x y hx hy p h =
    let fx : Fits w32 x = record { fits = hx } in
    let fy : Fits w32 y = record { fits = hy } in
    rw (to_z-of_z (quotient_fits fx fy h), to_z-of_z (remainder_fits fx y))
    (record {
      whole = whole_of (to_z w32 x) (to_z w32 y);
      small = small_of (to_z w32 x) (to_z w32 y) (not_zero fy p);
      sign = sign_of_lem (to_z w32 x) (to_z w32 y);
    })

-- ---- -2^31 by -1

-- the quotient is 0x80000000
pub quotient_least : quotient 0x80000000 0xFFFFFFFF ≡ 0x80000000
unfolding quotient
quotient_least = refl

-- the remainder is 0
pub remainder_least : remainder 0x80000000 0xFFFFFFFF ≡ 0
unfolding remainder
remainder_least = refl
