-- The pattern of a single by its value in units of 2 ^ -149. `plain q k` is that of q * 2 ^ k units, where q has 24 digits, or fewer if k is 0: the field is k
-- and q's leading digit adds one to it. From 2 ^ 128 on the pattern is infinity's, which is where the patterns of finite values would go on.
use mathlib.Core.Path.{◌≡◌, refl, sym, ap, ◌∙◌}
use mathlib.Core.Logic.{◌⊎◌, inl, inr}
use mathlib.Core.Bool.{Bool, true, false, not, cond}
use Prim.Native.Nat.{ℕ, suc, ◌+◌, ◌-◌, ◌*◌, ◌/◌, ◌^◌, ◌≤◌, ◌<◌, min}
use native.Mathlib.Nat.{le_trans, le_of_eq, le_antisymm, lt_of_lt_of_le, lt_of_le_of_lt, lt_of_not-le, lt_irrefl, eq-or-lt_of_le, add_assoc}
use native.Mathlib.Nat.{mul-one, mul-le-mul_right, le_of_mul-le-mul_right, mul-div_cancel, div-one, pow-succ', min-eq_left, min-eq_right}
use native.Mathlib.Omega.{arith}
use lib.Dec.{T, ltb, ltb→lt, nltb→le}
use lib.Pow.{pow-add, pow_pos, pow_mono, shl_lt}
use lib.Ieee.{Float, nan, inf, fin, up, down, binary32, size, odd, units, to_bits}
use lib.Ieee.Digits.{size-lt, size-le}
use lib.Ieee.Fits.{down_pos}
use lib.Ieee.Exact.{HasValue, odd_sign}

abbrev pub sign_bit : Bool → ℕ
sign_bit s = cond s (2 ^ 31) 0

abbrev pub infinity : ℕ
infinity = 255 * 2 ^ 23

abbrev pub plain : ℕ → ℕ → ℕ
plain q k = k * 2 ^ 23 + q

-- the pattern of `a` units, as `to_bits` has it
abbrev written : ℕ → ℕ
written a = (size a - 24) * 2 ^ 23 + a / 2 ^ (size a - 24)

-- ---- the digits of a number

pow_lt_back : (i j : ℕ) → 2 ^ i < 2 ^ j → i < j
pow_lt_back i j h = lt_of_not-le (λ (g : j ≤ i). lt_irrefl (2 ^ i) (lt_of_lt_of_le h (pow_mono g)))

pow_le_back : (i j : ℕ) → 2 ^ i ≤ 2 ^ j → i ≤ j
pow_le_back i j h = let l = pow_lt_back i (suc j) (lt_of_le_of_lt h (pow_lt_suc j)) in omega arith
  where
    pow_lt_suc : (j : ℕ) → 2 ^ j < 2 ^ suc j
    pow_lt_suc j = let p = pow_pos j in rw (pow-succ' 2 j) (omega arith)

pub size_exact : (a i j : ℕ) → j ≡ suc i → 2 ^ i ≤ a → a < 2 ^ j → size a ≡ j
size_exact a i j e lo hi = le_antisymm (size-le a j hi) (rw e (pow_lt_back i (size a) (lt_of_le_of_lt lo (size-lt a))))

-- ---- q * 2 ^ k units are written plainly

written_full : (q k : ℕ) → 2 ^ 23 ≤ q → q < 2 ^ 24 → written (q * 2 ^ k) ≡ plain q k
written_full q k lo hi =
    let z : size (q * 2 ^ k) ≡ 24 + k = size_exact (q * 2 ^ k) (23 + k) (24 + k) (omega arith) (rw (pow-add 2 23 k) (mul-le-mul_right (2 ^ k) lo)) (shl_lt 24 k hi) in
    let d : 24 + k - 24 ≡ k = omega arith in
    rw (z, d, mul-div_cancel q (pow_pos k))

written_few : (q : ℕ) → q < 2 ^ 24 → written (q * 1) ≡ plain q 0
written_few q h =
    let z = size-le q 24 h in
    let d : size q - 24 ≡ 0 = omega arith in
    rw (mul-one q, d, div-one q)

-- 2 ^ 24 is 2 ^ 23 with one digit more dropped
written_carry : (k : ℕ) → written (2 ^ 24 * 2 ^ k) ≡ plain (2 ^ 24) k
written_carry k =
    let e : 2 ^ 24 * 2 ^ k ≡ 2 ^ 23 * 2 ^ suc k = rw (pow-succ' 2 k) (omega arith) in
    rw e (written_full (2 ^ 23) (suc k) (omega arith) (omega arith) ∙ omega arith)

written_plain : (q k : ℕ) → q ≤ 2 ^ 24 → (k ≡ 0) ⊎ (2 ^ 23 ≤ q) → written (q * 2 ^ k) ≡ plain q k
written_plain q k h o = go (eq-or-lt_of_le h) o
  where
    go : (q ≡ 2 ^ 24) ⊎ (q < 2 ^ 24) → (k ≡ 0) ⊎ (2 ^ 23 ≤ q) → written (q * 2 ^ k) ≡ plain q k
    go (inl e) o = rw e (written_carry k)
    go (inr l) (inl e) = rw e (written_few q l)
    go (inr l) (inr g) = written_full q k g l

-- ---- what `units` makes

of_value : (v : Float) (s : Bool) (a : ℕ) → HasValue v s a (2 ^ 149) → to_bits binary32 v ≡ sign_bit s + written a
unfolding to_bits
of_value nan s a h = absurd h
of_value (inf t) s a h = absurd h
of_value (fin t m e) s a h =
    let n : m * up e * 2 ^ 149 / down e ≡ a = ap (λ (x : ℕ). x / down e) h.1 ∙ mul-div_cancel a (down_pos e) in
    rw (n, h.0) (add_assoc (sign_bit s) ((size a - 24) * 2 ^ 23) (a / 2 ^ (size a - 24)))

under : (q k : ℕ) → q ≤ 2 ^ 24 → (k ≡ 0) ⊎ (2 ^ 23 ≤ q) → q * 2 ^ k < 2 ^ 277 → plain q k ≤ infinity
under q k h (inl e) l = omega arith
under q k h (inr g) l =
    let i = pow_lt_back (23 + k) 277 (lt_of_le_of_lt (le_trans (le_of_eq (pow-add 2 23 k)) (mul-le-mul_right (2 ^ k) g)) l) in omega arith

over : (q k : ℕ) → q ≤ 2 ^ 24 → (k ≡ 0) ⊎ (2 ^ 23 ≤ q) → 2 ^ 277 ≤ q * 2 ^ k → infinity ≤ plain q k
over q k h o l = go (eq-or-lt_of_le (pow_le_back 277 (24 + k) (le_trans l (le_trans (mul-le-mul_right (2 ^ k) h) (le_of_eq (sym (pow-add 2 24 k))))))) o
  where
    go : (277 ≡ 24 + k) ⊎ (277 < 24 + k) → (k ≡ 0) ⊎ (2 ^ 23 ≤ q) → infinity ≤ plain q k
    go (inl e) o =
        let z : k ≡ 253 = omega arith in
        let g : 2 ^ 24 * 2 ^ 253 ≤ q * 2 ^ 253 = rw z at l in
        let b : 2 ^ 24 ≤ q = le_of_mul-le-mul_right {m = 2 ^ 24} {n = q} {k = 2 ^ 253} g (pow_pos 253) in omega arith
    go (inr g) (inl e) = omega arith
    go (inr g) (inr b) = omega arith

pub units_pattern : (s : Bool) (q k : ℕ) → q ≤ 2 ^ 24 → (k ≡ 0) ⊎ (2 ^ 23 ≤ q) → to_bits binary32 (units binary32 s q k) ≡ sign_bit s + min (plain q k) infinity
unfolding units
units_pattern s q k h o = go (ltb (q * 2 ^ k) (2 ^ 277)) (ltb→lt (q * 2 ^ k) (2 ^ 277)) (nltb→le (q * 2 ^ k) (2 ^ 277))
  where
    go : (b : Bool) → (T b → q * 2 ^ k < 2 ^ 277) → (T (not b) → 2 ^ 277 ≤ q * 2 ^ k)
        → to_bits binary32 (cond b (odd 25 s q k 149) (inf s)) ≡ sign_bit s + min (plain q k) infinity
    go true l g = rw (min-eq_left (under q k h o (l tt))) (of_value (odd 25 s q k 149) s (q * 2 ^ k) (odd_sign 25 s q k 149) ∙ ap (λ (x : ℕ). sign_bit s + x) (written_plain q k h o))
    go false l g = rw (min-eq_right (over q k h o (g tt))) (unfold to_bits in refl)
