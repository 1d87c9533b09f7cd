-- A finite double by its exponent's field and its digits, narrowed: the value that the two stand for is rounded to a single, as `Rounding` has it.
use mathlib.Core.Path.{◌≡◌, refl, sym, ap, ◌∙◌}
use mathlib.Core.Logic.{inl, inr}
use mathlib.Core.Bool.{Bool}
use Prim.Native.Nat.{ℕ, zero, suc, ◌+◌, ◌-◌, ◌*◌, ◌^◌, ◌≤◌, ◌<◌, min}
use native.Mathlib.Nat.{lt_of_lt_of_le, mul_assoc, mul-le-mul_left, min-eq_left, le_trans, zero-add}
use native.Mathlib.Omega.{arith}
use borrow.Author.Tests.{ne_eqb}
use lib.Pow.{pow-add, pow_pos, pow_mono}
use lib.Ieee.{Float, nan, inf, fin, up, down, binary32, binary64, odd, round, of_fields, to_bits}
use lib.Ieee.Fits.{down_pos}
use lib.Ieee.Exact.{HasValue, odd_sign}
use lib.Ieee.Nearest.{closest}
use lib.Ieee.Scale.{round_same}
use Rattle.double.specs.Single.{nearest_single}
use Rattle.narrowing.proofs.Closest.{closest_le, closest_zero, even_through}
use Rattle.narrowing.proofs.Patterns.{sign_bit, infinity, plain}
use Rattle.narrowing.proofs.Rounding.{rounded}

-- ---- the value, as a fraction

of_value : (v : Float) (s : Bool) (a c : ℕ) → 0 < c → HasValue v s a c → nearest_single v ≡ round binary32 s a c
unfolding nearest_single
of_value nan s a c p h = absurd h
of_value (inf t) s a c p h = absurd h
of_value (fin t m e) s a c p h = rw h.0 (round_same binary32 s (m * up e) (down e) a c (down_pos e) p h.1)

pub of_odd : (d : ℕ) (s : Bool) (q k l : ℕ) → nearest_single (odd d s q k l) ≡ round binary32 s (q * 2 ^ k) (2 ^ l)
of_odd d s q k l = of_value (odd d s q k l) s (q * 2 ^ k) (2 ^ l) (pow_pos l) (odd_sign d s q k l)

of_field : (s : Bool) (g t : ℕ) → suc g < 2047 → of_fields binary64 s (suc g) t ≡ odd 53 s (2 ^ 52 + t) g 1074
unfolding of_fields
of_field s g t h = rw (ne_eqb (suc g) 2047 (λ e. omega arith))

of_no_field : (s : Bool) (t : ℕ) → of_fields binary64 s 0 t ≡ odd 53 s t 0 1074
unfolding of_fields
of_no_field s t = refl

-- a * 2 ^ g / 2 ^ l, with fewer twos
shorter : (s : Bool) (a g l k j : ℕ) → g + (149 + j) ≡ k + l → round binary32 s (a * 2 ^ g) (2 ^ l) ≡ round binary32 s (a * 2 ^ k) (2 ^ (149 + j))
shorter s a g l k j e =
    round_same binary32 s (a * 2 ^ g) (2 ^ l) (a * 2 ^ k) (2 ^ (149 + j)) (pow_pos l) (pow_pos (149 + j))
    (mul_assoc a (2 ^ g) (2 ^ (149 + j))
    ∙ ap (λ (x : ℕ). a * x) (sym (pow-add 2 g (149 + j)) ∙ ap (λ (x : ℕ). 2 ^ x) e ∙ pow-add 2 k l)
    ∙ sym (mul_assoc a (2 ^ k) (2 ^ l)))

abbrev pub narrowed : Bool → ℕ → ℕ → ℕ
narrowed s f t = to_bits binary32 (nearest_single (of_fields binary64 s f t))

-- ---- a normal single: 29 digits are dropped, and the field loses 896

pub normal : (s : Bool) (k t : ℕ) → t < 2 ^ 52 → suc (896 + k) < 2047 → narrowed s (suc (896 + k)) t ≡ sign_bit s + min (closest (k * 2 ^ 52 + (2 ^ 52 + t)) (2 ^ 29)) infinity
normal s k t h l =
    let a = 2 ^ 52 + t in
    let e : k * 2 ^ 52 + a ≡ 2 * (k * 2 ^ 22) * 2 ^ 29 + a = omega arith in
    let d : 2 * (k * 2 ^ 22) + closest a (2 ^ 29) ≡ plain (closest a (2 ^ 29)) k = omega arith in
    ap (to_bits binary32) (ap nearest_single (of_field s (896 + k) t l) ∙ of_odd 53 s a (896 + k) 1074 ∙ shorter s a (896 + k) 1074 k 29 (omega arith))
    ∙ rounded a k 29 (omega arith) (inr (omega arith)) s
    ∙ ap (λ (x : ℕ). sign_bit s + min x infinity) (sym (ap (λ (x : ℕ). closest x (2 ^ 29)) e ∙ even_through (k * 2 ^ 22) a (2 ^ 29) (pow_pos 29) ∙ d))

-- ---- a subnormal single: the digits in units of 2 ^ -149

few : (s : Bool) (a g j : ℕ) → a < 2 ^ 53 → 29 ≤ j → g + (149 + j) ≡ 1074 → to_bits binary32 (round binary32 s (a * 2 ^ g) (2 ^ 1074)) ≡ sign_bit s + closest a (2 ^ j)
few s a g j h l e =
    let small : a < 2 ^ 24 * 2 ^ j = lt_of_lt_of_le h (mul-le-mul_left {m = 2 ^ 29} (2 ^ 24) (pow_mono l)) in
    let low : closest a (2 ^ j) ≤ infinity = le_trans (closest_le a (2 ^ j) (2 ^ 24) (pow_pos j) small) (omega arith) in
    ap (to_bits binary32) (shorter s a g 1074 0 j (e ∙ omega arith))
    ∙ rounded a 0 j small (inl refl) s
    ∙ ap (λ (x : ℕ). sign_bit s + x) (ap (λ (x : ℕ). min x infinity) (zero-add (closest a (2 ^ j))) ∙ min-eq_left low)

pub subnormal : (s : Bool) (g t j : ℕ) → t < 2 ^ 52 → 29 ≤ j → g + (149 + j) ≡ 1074 → narrowed s (suc g) t ≡ sign_bit s + closest (2 ^ 52 + t) (2 ^ j)
subnormal s g t j h l e =
    ap (to_bits binary32) (ap nearest_single (of_field s g t (omega arith)) ∙ of_odd 53 s (2 ^ 52 + t) g 1074) ∙ few s (2 ^ 52 + t) g j (omega arith) l e

-- ---- below half of the least single: zero

tiny : (a j : ℕ) → a < 2 ^ 53 → 54 ≤ j → closest a (2 ^ j) ≡ 0
tiny a j h l = let b : 2 ^ 54 ≤ 2 ^ j = pow_mono l in closest_zero a (2 ^ j) (omega arith)

pub zeroed : (s : Bool) (f t : ℕ) → t < 2 ^ 52 → f < 873 → narrowed s f t ≡ sign_bit s + 0
zeroed s zero t h l =
    ap (to_bits binary32) (ap nearest_single (of_no_field s t) ∙ of_odd 53 s t 0 1074)
    ∙ few s t 0 925 (omega arith) (omega arith) refl
    ∙ ap (λ (x : ℕ). sign_bit s + x) (tiny t 925 (omega arith) (omega arith))
zeroed s (suc g) t h l =
    subnormal s g t (925 - g) h (omega arith) (omega arith) ∙ ap (λ (x : ℕ). sign_bit s + x) (tiny (2 ^ 52 + t) (925 - g) (omega arith) (omega arith))
