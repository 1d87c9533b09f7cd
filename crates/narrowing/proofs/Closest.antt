-- `closest a b`, a / b as the nearest whole number: by the comparison that the code makes, its bounds, and what it does with an even number of whole divisors.
use mathlib.Core.Path.{◌≡◌, refl}
use mathlib.Core.Bool.{not}
use Prim.Native.Nat.{ℕ, ◌+◌, ◌*◌, ◌/◌, ◌%◌, ◌≤◌, ◌<◌, compare, Ordering}
use native.Mathlib.Nat.{le_trans, le_of_lt, not-le_of_lt, mod-eq_of_lt, div-eq_of_lt, div-lt_iff_lt-mul, le-div_iff_mul-le, mul-add-div_right, mul-add-mod_self_right}
use native.Mathlib.Omega.{arith}
use lib.Dec.{T, leb, eqb, is_le, compare_is_eq, leb→le, le→leb, eqb→eq, eqb_refl, not_T}
use lib.Ieee.{nearest}
use lib.Ieee.Fits.{nearest-le}
use lib.Ieee.Nearest.{closest, nearest-ge}

-- what `compare` answers
lesser : (a b : ℕ) → a < b → compare a b ≡ Ordering.lt
lesser a b h = go (compare a b) (le→leb a b (le_of_lt h)) (not_T (eqb a b) (λ t. let e = eqb→eq a b t in omega arith))
  where
    go : (o : Ordering) → T (is_le o) → T (not (compare_is_eq o)) → o ≡ Ordering.lt
    go Ordering.lt l e = refl
    go Ordering.eq l e = absurd e
    go Ordering.gt l e = absurd l

greater : (a b : ℕ) → b < a → compare a b ≡ Ordering.gt
greater a b h = go (compare a b) (not_T (leb a b) (λ t. not-le_of_lt h (leb→le a b t)))
  where
    go : (o : Ordering) → T (not (is_le o)) → o ≡ Ordering.gt
    go Ordering.lt l = absurd l
    go Ordering.eq l = absurd l
    go Ordering.gt l = refl

equal : (a b : ℕ) → a ≡ b → compare a b ≡ Ordering.eq
equal a b h = rw h (go (compare b b) (eqb_refl b))
  where
    go : (o : Ordering) → T (compare_is_eq o) → o ≡ Ordering.eq
    go Ordering.lt e = absurd e
    go Ordering.eq e = refl
    go Ordering.gt e = absurd e

-- twice the remainder against the divisor
pub below_half : (a b : ℕ) → a % b * 2 < b → a / b ≡ closest a b
below_half a b h = rw (lesser (a % b * 2) b h)

pub above_half : (a b : ℕ) → b < a % b * 2 → a / b + 1 ≡ closest a b
above_half a b h = rw (greater (a % b * 2) b h) (omega arith)

pub at_half : (a b : ℕ) → a % b * 2 ≡ b → a / b + a / b % 2 ≡ closest a b
at_half a b h = rw (equal (a % b * 2) b h)

-- bounds, and a fraction below a half
pub closest_le : (a b c : ℕ) → 0 < b → a < c * b → closest a b ≤ c
closest_le a b c h l = le_trans (nearest-le (a / b) (compare (a % b * 2) b)) ((div-lt_iff_lt-mul h).1 l)

pub closest_ge : (a b c : ℕ) → 0 < b → c * b ≤ a → c ≤ closest a b
closest_ge a b c h l = le_trans ((le-div_iff_mul-le h).1 l) (nearest-ge (a / b) (compare (a % b * 2) b))

pub closest_zero : (a b : ℕ) → a * 2 < b → closest a b ≡ 0
closest_zero a b h =
    let l : a < b = omega arith in
    rw (mod-eq_of_lt l, div-eq_of_lt l, lesser (a * 2) b h)

-- an even number of whole divisors passes through, since a tie looks only at parity
beside_even : (c q : ℕ) (o : Ordering) → nearest (2 * c + q) o ≡ 2 * c + nearest q o
beside_even c q Ordering.lt = refl
beside_even c q Ordering.eq = omega arith
beside_even c q Ordering.gt = omega arith

pub even_through : (c a b : ℕ) → 0 < b → closest (2 * c * b + a) b ≡ 2 * c + closest a b
even_through c a b h = rw (mul-add-div_right h (2 * c) a, mul-add-mod_self_right (2 * c) b a) (beside_even c (a / b) (compare (a % b * 2) b))
