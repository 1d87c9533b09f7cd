-- `single_of` of a pattern, as `narrow` computes it: a law for each `return`, over the pattern's sign, field and digits as the code has them.
use mathlib.Core.Path.{◌≡◌, refl, sym, ap, ◌∙◌, subst}
use mathlib.Core.Logic.{◌⊎◌, inl, inr}
use mathlib.Core.Bool.{Bool, true, false}
use Prim.Native.Nat.{ℕ, suc, ◌+◌, ◌-◌, ◌*◌, ◌/◌, ◌%◌, ◌^◌, ◌≤◌, ◌<◌, min}
use native.Mathlib.Nat.{eq-or-lt_of_le, add-zero, mod-lt}
use native.Mathlib.Omega.{arith}
use borrow.Author.Tests.{lt-ltb, leb-true, leb-false}
use lib.Dec.{T, leb}
use lib.Pow.{pow_pos, pow_mono}
use lib.Ieee.{Float, nan, inf, fin, binary32, binary64, of_fields, of_bits, to_bits, is_nan}
use lib.Ieee.Bits.{nan_bits_is, nan_bits_above}
use lib.Ieee.Nearest.{closest}
use Rattle.double.specs.Single.{nearest_single, single_of}
use Rattle.narrowing.proofs.Closest.{closest_le}
use Rattle.narrowing.proofs.Patterns.{sign_bit, infinity}
use Rattle.narrowing.proofs.Fields.{narrowed, normal, subnormal, zeroed}

-- ---- a NaN

pub is_nan_lem : (v : Float) → is_nan v ≡ true → v ≡ nan
unfolding is_nan
is_nan_lem nan e = refl
is_nan_lem (inf s) e = absurd (subst T (sym e) tt)
is_nan_lem (fin s m x) e = absurd (subst T (sym e) tt)

pub of_nan : to_bits binary32 (nearest_single nan) ≡ 0x7FC00000
unfolding to_bits nearest_single
of_nan = refl

pub single_nan : (x : ℕ) → 0x7FF0000000000000 < x % 2 ^ 63 → 0x7FC00000 ≡ single_of x
unfolding single_of
single_nan x h =
    let v : of_bits binary64 x ≡ nan = is_nan_lem (of_bits binary64 x) (sym (nan_bits_is binary64 x) ∙ nan_bits_above binary64 x ∙ lt-ltb 0x7FF0000000000000 (x % 2 ^ 63) h) in
    sym (ap (λ (v : Float). to_bits binary32 (nearest_single v)) v ∙ of_nan)

-- ---- the fields of a pattern

by_fields : (x : ℕ) → single_of x ≡ narrowed (leb (2 ^ 63) x) (x % 2 ^ 63 / 2 ^ 52) (x % 2 ^ 52)
unfolding single_of of_bits
by_fields x = refl

sign : (x : ℕ) → x < 2 ^ 64 → sign_bit (leb (2 ^ 63) x) ≡ x / 2 ^ 63 * 2 ^ 31
sign x h = go (leb (2 ^ 63) x) refl
  where
    go : (b : Bool) → leb (2 ^ 63) x ≡ b → sign_bit b ≡ x / 2 ^ 63 * 2 ^ 31
    go true e = let l = leb-true (2 ^ 63) x e in omega arith
    go false e = let l = leb-false (2 ^ 63) x e in omega arith

-- ---- a normal single, and overflow

of_infinity : (s : Bool) → narrowed s 2047 0 ≡ sign_bit s + infinity
unfolding of_fields nearest_single to_bits
of_infinity s = refl

high : (s : Bool) (f t m : ℕ) → t < 2 ^ 52 → m ≡ f * 2 ^ 52 + t → 897 ≤ f → m ≤ 0x7FF0000000000000 → narrowed s f t ≡ sign_bit s + min (closest (m - 0x3800000000000000) (2 ^ 29)) infinity
high s f t m h e l u = go (eq-or-lt_of_le {n = f} {m = 2047} (omega arith))
  where
    go : (f ≡ 2047) ⊎ (f < 2047) → narrowed s f t ≡ sign_bit s + min (closest (m - 0x3800000000000000) (2 ^ 29)) infinity
    go (inl z) =
        let o : t ≡ 0 = omega arith in
        let n : m ≡ 0x7FF0000000000000 = omega arith in
        rw (z, o, n) (of_infinity s)
    go (inr b) =
        let k = f - 897 in
        let z : f ≡ suc (896 + k) = omega arith in
        let n : m - 0x3800000000000000 ≡ k * 2 ^ 52 + (2 ^ 52 + t) = omega arith in
        rw n (ap (λ (f : ℕ). narrowed s f t) z ∙ normal s k t h (omega arith))

-- ---- the laws of the returns

module _ {x : ℕ} (fits : x < 2 ^ 64) where
  digits : x % 2 ^ 52 < 2 ^ 52
  digits = mod-lt x (pow_pos 52)

  -- the fields are the magnitude's
  parts : x % 2 ^ 63 ≡ x % 2 ^ 63 / 2 ^ 52 * 2 ^ 52 + x % 2 ^ 52
  parts = omega arith

  -- with the sign as the code has it
  signed : (r : ℕ) → narrowed (leb (2 ^ 63) x) (x % 2 ^ 63 / 2 ^ 52) (x % 2 ^ 52) ≡ sign_bit (leb (2 ^ 63) x) + r → x / 2 ^ 63 * 2 ^ 31 + r ≡ single_of x
  signed r e = sym (by_fields x ∙ e ∙ ap (λ (b : ℕ). b + r) (sign x fits))

  module _ (field : 897 ≤ x % 2 ^ 63 / 2 ^ 52) (small : x % 2 ^ 63 ≤ 0x7FF0000000000000) {r : ℕ} (e : r ≡ closest (x % 2 ^ 63 - 0x3800000000000000) (2 ^ 29)) where
    bounded : narrowed (leb (2 ^ 63) x) (x % 2 ^ 63 / 2 ^ 52) (x % 2 ^ 52) ≡ sign_bit (leb (2 ^ 63) x) + min r infinity
    bounded = rw e (high (leb (2 ^ 63) x) (x % 2 ^ 63 / 2 ^ 52) (x % 2 ^ 52) (x % 2 ^ 63) digits parts field small)

    pub single_bounded : x / 2 ^ 63 * 2 ^ 31 + min r infinity ≡ single_of x
    single_bounded = signed (min r infinity) bounded

  pub single_zero : x % 2 ^ 63 / 2 ^ 52 < 873 → x / 2 ^ 63 * 2 ^ 31 ≡ single_of x
  single_zero h = sym (add-zero (x / 2 ^ 63 * 2 ^ 31)) ∙ signed 0 (zeroed (leb (2 ^ 63) x) (x % 2 ^ 63 / 2 ^ 52) (x % 2 ^ 52) digits h)

  pub single_subnormal : {r : ℕ} → x % 2 ^ 63 / 2 ^ 52 < 897 → 873 ≤ x % 2 ^ 63 / 2 ^ 52 → r ≡ closest (2 ^ 52 + x % 2 ^ 52) (2 ^ (926 - x % 2 ^ 63 / 2 ^ 52))
      → x / 2 ^ 63 * 2 ^ 31 + r ≡ single_of x
  single_subnormal {r} h l e =
      let f = x % 2 ^ 63 / 2 ^ 52 in
      let z : f ≡ suc (f - 1) = omega arith in
      signed r (rw e (ap (λ (f : ℕ). narrowed (leb (2 ^ 63) x) f (x % 2 ^ 52)) z ∙ subnormal (leb (2 ^ 63) x) (f - 1) (x % 2 ^ 52) (926 - f) digits (omega arith) (omega arith)))

  -- what is added to the sign is small
  pub few_units : {r : ℕ} → x % 2 ^ 63 / 2 ^ 52 < 897 → r ≡ closest (2 ^ 52 + x % 2 ^ 52) (2 ^ (926 - x % 2 ^ 63 / 2 ^ 52)) → r ≤ 2 ^ 24
  few_units h e =
      let j = 926 - x % 2 ^ 63 / 2 ^ 52 in
      let g : 2 ^ 29 ≤ 2 ^ j = pow_mono {i = 29} (omega arith) in
      let d = digits in
      rw e (closest_le (2 ^ 52 + x % 2 ^ 52) (2 ^ j) (2 ^ 24) (pow_pos j) (omega arith))
