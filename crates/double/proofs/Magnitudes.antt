-- A pattern below that of 2^52 is a number below 2^52. From there on it is a whole number, an infinity or a NaN.
use Rattle.std.proofs.Common.{◌≡◌, ℕ, zero, suc, ◌+◌, ◌-◌, ◌*◌, ◌/◌, ◌%◌, ◌^◌, ◌<◌, ◌≤◌, Bool, true, false, cond, T, eqb, leb, ℤ, pos, sym, refl, ap}
use Rattle.std.proofs.Common.{◌∙◌, le_trans, le_of_eq, lt_of_lt_of_le, le-add_right, zero-lt-suc, mul_assoc, div-lt_iff_lt-mul}
use Rattle.std.proofs.Common.{lt_of_mul-lt-mul_right, mul-le-mul_left, mul-lt-mul_of_pos_right, mul-one, mul_right_comm, mul-div_cancel, arith}
use Rattle.std.proofs.Common.{lt→ltb, pow_pos, pow_mono, pow-add, shl_lt, ne_eqb}
use native.Mathlib.Nat.{eq_of_mul-eq-mul_right}
use borrow.Author.Tests.{lt-leb, eqb-false}
use lib.Arith.{lt_of_le-ne}
use lib.Ieee.{Float, Format, nan, inf, fin, binary64, up, down, prec, emax, low, hid, ones, round, of_fields, of_bits, is_nan, fits, lt, to_unsigned}
use lib.Ieee.Digits.{back}
use lib.Ieee.Bits.{of_bits-fits}
use lib.Ieee.Fits.{round-fits, down_pos}
use lib.Ieee.Exact.{HasValue, odd_sign, round_exact}
use lib.Ieee.Back.{whole_unique}
use Rattle.double.specs.Arithmetic.{value_of}
use Rattle.double.specs.Whole.{whole_part}

-- ---- the value of the fields, in units of the format's smallest value

-- the digits with the exponent's field x, and how far they are shifted
abbrev digits : Format → ℕ → ℕ → ℕ
digits f zero t = t
digits f (suc x) t = hid f + t

abbrev shift : ℕ → ℕ
shift zero = 0
shift (suc x) = x

fields_value : (f : Format) (s : Bool) (x t : ℕ) → x < ones f → HasValue (of_fields f s x t) s (digits f x t * 2 ^ shift x) (2 ^ low f)
unfolding of_fields
fields_value f s zero t h = odd_sign (prec f) s t 0 (low f)
fields_value f s (suc x) t h = rw (ne_eqb (suc x) (ones f) (λ e. omega arith)) (odd_sign (prec f) s (hid f + t) x (low f))

-- ---- below 2^52

-- finite, not negative, below 2^52
pub record Small (v : Float) : Type 0 where
  pub m : ℕ
  pub e : ℤ
  pub is : v ≡ fin false m e
  pub below : m * up e < 2 ^ 52 * down e

small_value : (v : Float) (a l : ℕ) → 0 < l → HasValue v false a l → a < 2 ^ 52 * l → Small v
small_value nan a l p h b = absurd h
small_value (inf t) a l p h b = absurd h
small_value (fin t m e) a l p h b = record {
  m = m;
  e = e;
  is = ap (λ (s : Bool). fin s m e) h.0;
  below = lt_of_mul-lt-mul_right l (rw (h.1, mul_right_comm (2 ^ 52) (down e) l) (mul-lt-mul_of_pos_right b (down_pos e)));
}

digits_lt : (x t : ℕ) → t < 2 ^ 52 → digits binary64 x t < 2 ^ 53
digits_lt zero t h = omega arith
digits_lt (suc x) t h = omega arith

shift_le : (x : ℕ) → x < 1075 → 53 + shift x ≤ 52 + 1074
shift_le zero h = omega arith
shift_le (suc x) h = omega arith

pub small : (b : ℕ) → b < 1075 * 2 ^ 52 → Small (value_of b)
unfolding of_bits
small b h =
    let x = b % 2 ^ 63 / 2 ^ 52 in
    let t = b % 2 ^ 52 in
    let d = digits binary64 x t in
    let l : x < 1075 = omega arith in
    rw (lt-leb (2 ^ 63) b (omega arith))
    (small_value (of_fields binary64 false x t) (d * 2 ^ shift x) (2 ^ 1074) (pow_pos 1074) (fields_value binary64 false x t (omega arith))
    (lt_of_lt_of_le (shl_lt 53 (shift x) (digits_lt x t (omega arith))) (le_trans (pow_mono (shift_le x l)) (le_of_eq (pow-add 2 52 1074)))))

module _ {v : Float} (k : Small v) where
  pub small_number : is_nan v ≡ false
  unfolding is_nan
  small_number = rw k.is

  -- the range of the truncating cast
  pub small_above : T (lt (fin true 1 (pos 0)) v)
  unfolding lt
  small_above = rw k.is (lt→ltb 0 (1 * 1 * down k.e + k.m * up k.e * 1) (omega (arith, down_pos k.e)))

  pub small_below : T (lt v (fin false 1 (pos 64)))
  unfolding lt
  small_below = rw k.is (lt→ltb (k.m * up k.e * 1) (1 * 2 ^ 64 * down k.e) (omega (arith, k.below, down_pos k.e)))

  pub part_small : whole_part k.m k.e < 2 ^ 52
  part_small = (div-lt_iff_lt-mul (down_pos k.e)).1 k.below

  -- and what that cast gives
  pub small_cut : to_unsigned 64 v ≡ whole_part k.m k.e
  unfolding to_unsigned
  small_cut = rw k.is (omega (arith, part_small))

-- ---- from 2^52 on

to_whole : (v : Float) (s : Bool) (c l : ℕ) → 0 < l → HasValue v s (c * l) l → HasValue v s c 1
to_whole nan s c l p h = h
to_whole (inf t) s c l p h = h
to_whole (fin t m e) s c l p h = (h.0, eq_of_mul-eq-mul_right l p (m * up e * 1) (c * down e) (rw (mul-one (m * up e), h.1) (mul_right_comm c l (down e))))

-- q * 2 ^ k units, with no more digits than the format keeps and nothing below the point, are a whole number and round to themselves
module _ (f : Format) (v : Float) (s : Bool) (q k : ℕ) (p : T (fits f v)) (h : HasValue v s (q * 2 ^ k) (2 ^ low f)) (a : low f ≤ k) (b : prec f + k ≤ low f + suc (emax f)) (d : q < 2 ^ prec f) where
  whole_units : q * 2 ^ (k - low f) * 2 ^ low f ≡ q * 2 ^ k
  whole_units = mul_assoc q (2 ^ (k - low f)) (2 ^ low f) ∙ ap (λ (y : ℕ). q * y) (sym (pow-add 2 (k - low f) (low f)) ∙ ap (λ (y : ℕ). 2 ^ y) (back k (low f) a))

  whole_value : HasValue v s (q * 2 ^ (k - low f)) 1
  whole_value = to_whole v s (q * 2 ^ (k - low f)) (2 ^ low f) (pow_pos (low f)) (rw whole_units h)

  whole_rounds : round f s (q * 2 ^ (k - low f)) 1 ≡ v
  whole_rounds =
      whole_unique f (round f s (q * 2 ^ (k - low f)) 1) v s (q * 2 ^ (k - low f)) (round-fits f s (q * 2 ^ (k - low f)) 1) p
      (round_exact f s (q * 2 ^ (k - low f)) 1 q k (zero-lt-suc 0) d (lt_of_lt_of_le (shl_lt (prec f) k d) (pow_mono b)) (whole_units ∙ sym (mul-one (q * 2 ^ k))))
      whole_value

-- what has the value c is c
pub whole_part_lem : (m : ℕ) (e : ℤ) (c : ℕ) → m * up e ≡ c * down e → whole_part m e ≡ c
whole_part_lem m e c p = ap (λ (n : ℕ). n / down e) p ∙ mul-div_cancel c (down_pos e)

-- a NaN, an infinity, or a whole number c from 2^52 on, which rounds to itself
pub data Large : Float → Type 0 where
  no_number : Large nan
  endless : (s : Bool) → Large (inf s)
  whole : (s : Bool) (m : ℕ) (e : ℤ) (c : ℕ) → m * up e ≡ c * down e → 2 ^ 52 ≤ c → round binary64 s c 1 ≡ fin s m e → Large (fin s m e)

large_number : (v : Float) (s : Bool) (c : ℕ) → HasValue v s c 1 → 2 ^ 52 ≤ c → round binary64 s c 1 ≡ v → Large v
large_number nan s c h b r = absurd h
large_number (inf t) s c h b r = absurd h
large_number (fin t m e) s c h b r = whole t m e c (sym (mul-one (m * up e)) ∙ h.1) b (ap (λ (u : Bool). round binary64 u c 1) h.0 ∙ r)

no_digits : (b s : Bool) → Large (cond b (inf s) nan)
no_digits true s = endless s
no_digits false s = no_number

enough : (t j : ℕ) → 2 ^ 52 ≤ (2 ^ 52 + t) * 2 ^ j
enough t j = le_trans (le-add_right (2 ^ 52) t) (le_trans (le_of_eq (sym (mul-one (2 ^ 52 + t)))) (mul-le-mul_left (2 ^ 52 + t) (pow_pos j)))

large_fields : (s : Bool) (x t : ℕ) → 1075 ≤ x → x < 2048 → t < 2 ^ 52 → T (fits binary64 (of_fields binary64 s x t)) → Large (of_fields binary64 s x t)
large_fields s zero t a b d p = absurd (omega arith)
large_fields s (suc k) t a b d p = go (eqb (suc k) 2047) refl
  where
    at_top : eqb (suc k) 2047 ≡ true → Large (of_fields binary64 s (suc k) t)
    at_top e = unfold of_fields in rw e (no_digits (eqb t 0) s)

    below_top : suc k < 2047 → Large (of_fields binary64 s (suc k) t)
    below_top l =
        let v = of_fields binary64 s (suc k) t in
        let h = fields_value binary64 s (suc k) t l in
        let q = 2 ^ 52 + t in
        let i : 1074 ≤ k = omega arith in
        let j : 53 + k ≤ 1074 + 1024 = omega arith in
        let r : q < 2 ^ 53 = omega arith in
        large_number v s (q * 2 ^ (k - 1074)) (whole_value binary64 v s q k p h i j r) (enough t (k - 1074)) (whole_rounds binary64 v s q k p h i j r)

    go : (e : Bool) → eqb (suc k) 2047 ≡ e → Large (of_fields binary64 s (suc k) t)
    go true e = at_top e
    go false e = below_top (lt_of_le-ne (omega arith) (eqb-false (suc k) 2047 e))

pub large : (b : ℕ) → 1075 * 2 ^ 52 ≤ b % 2 ^ 63 → Large (value_of b)
large b h = large_at (of_bits-fits binary64 b)
  where
    large_at : T (fits binary64 (of_bits binary64 b)) → Large (of_bits binary64 b)
    large_at p = unfold of_bits in large_fields (leb (2 ^ 63) b) (b % 2 ^ 63 / 2 ^ 52) (b % 2 ^ 52) (omega arith) (omega arith) (omega arith) p
