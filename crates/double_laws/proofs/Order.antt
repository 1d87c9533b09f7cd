-- Document 02, item 7: FLOR is the greatest whole number that is at most x, CEIL the least that is at least x, by the order of doubles.
use Rattle.std.proofs.Common.{if◌then◌else◌}
use mathlib.Core.Path.{◌≡◌, refl, sym, ap, ◌∙◌, subst}
use mathlib.Core.Bool.{Bool, true, false, not, ◌&&◌}
use Prim.Native.Nat.{ℕ, zero, suc, ◌+◌, ◌*◌, ◌/◌, ◌%◌, ◌^◌, ◌≤◌, ◌<◌}
use native.Mathlib.Nat.{add-zero, add_comm, add-mul, mul-one, one-mul, mul_assoc, mul-pos, zero-lt-suc, le_of_lt, mul-lt-mul_of_pos_right, lt_of_mul-lt-mul_right, le_of_mul-le-mul_right}
use native.Mathlib.Nat.{div-one, mod-one, mod-lt, mul-mod_left, div-le_self, div-mul-le_self, div-add-mod', le-div_iff_mul-le}
use native.Mathlib.Omega.{arith}
use borrow.Author.Tests.{eqb-true, eqb-false, eq-eqb}
use lib.Dec.{T, eqb, ltb, leb, ltb→lt, eqb→eq}
use lib.IntN.{ℤ, pos, negsuc}
use lib.Pow.{pow-add, pow_pos}
use lib.Ieee.{Float, nan, inf, fin, Format, binary64, prec, emax, low, up, down, fits, round, neg, le}
use lib.Ieee.Back.{round_whole}
use lib.Ieee.Bits.{of_bits-to_bits, of_bits-fits}
use lib.Ieee.Exact.{HasValue, round_exact}
use lib.Ieee.Fits.{down_pos, and_l, and_r}
use lib.Ieee.Scale.{finite}
use Rattle.double.specs.Arithmetic.{value_of}
use Rattle.double.specs.Whole.{whole_part, has_fraction, whole_by, floor_value, floor_of, ceiling_value, ceiling_of}
use Rattle.double_laws.proofs.Canonical.{floor_fits, ceiling_fits}
use Rattle.double_laws.proofs.Fractions.{AtMost, le_of_fractions, fractions_of_le, le_neg, neg_le}

-- ---- what is shown

-- finite, with no fraction
abbrev pub is_whole : Float → Bool
is_whole nan = false
is_whole (inf s) = false
is_whole (fin s m e) = not (has_fraction m e)

pub record IsFloor (r x : Float) : Type 0 where
  pub whole : T (is_whole r)
  pub at_most : T (le r x)
  pub greatest : (y : Float) → T (is_whole y) → T (le y x) → T (le y r)

pub record IsCeiling (r x : Float) : Type 0 where
  pub whole : T (is_whole r)
  pub at_least : T (le x r)
  pub least : (y : Float) → T (is_whole y) → T (le x y) → T (le r y)

-- ---- the whole number at a fraction n / d or next to it, toward zero or away from it

abbrev toward : Bool → ℕ → ℕ → ℕ
toward away n d = n / d + (if away && not (eqb (n % d) 0) then 1 else 0)

module _ (n d : ℕ) (p : 0 < d) where
  toward_zero : toward false n d * d ≤ n
  toward_zero = rw (add-zero (n / d)) (div-mul-le_self n d)

  below_toward : (k : ℕ) → k * d ≤ n → k ≤ toward false n d
  below_toward k h = rw (add-zero (n / d)) ((le-div_iff_mul-le p).1 h)

  away_from_zero : n ≤ toward true n d * d
  away_from_zero = go (eqb (n % d) 0) refl
    where
      go : (b : Bool) → eqb (n % d) 0 ≡ b → n ≤ (n / d + (if not b then 1 else 0)) * d
      go true e = rw (add-zero (n / d)) (omega (arith, div-add-mod' n d, eqb-true (n % d) 0 e))
      go false e = rw (add-mul (n / d) 1 d, one-mul d) (omega (arith, div-add-mod' n d, mod-lt n p))

  away_below : (k : ℕ) → n ≤ k * d → toward true n d ≤ k
  away_below k h = go (eqb (n % d) 0) refl
    where
      go : (b : Bool) → eqb (n % d) 0 ≡ b → n / d + (if not b then 1 else 0) ≤ k
      go true e =
          let l : n / d * d ≤ k * d = omega (arith, div-mul-le_self n d) in
          rw (add-zero (n / d)) (le_of_mul-le-mul_right l p)
      go false e =
          let l : n / d * d < k * d = omega (arith, div-add-mod' n d, eqb-false (n % d) 0 e) in
          let q : n / d < k = lt_of_mul-lt-mul_right d l in
          omega arith

  -- with the signs: below zero the magnitude rises
  under : (s : Bool) → AtMost s (toward s n d * d) s (n * 1)
  under true = rw (mul-one n) away_from_zero
  under false = rw (mul-one n) toward_zero

  over_wholes : (s u : Bool) (k : ℕ) → AtMost u (k * d) s (n * 1) → AtMost u (k * 1) s (toward s n d * 1)
  over_wholes true true k h = omega (arith, away_below k (omega (arith, h)))
  over_wholes true false k h =
      let l : k * d ≤ 0 * d = omega (arith, h.0) in
      (omega (arith, le_of_mul-le-mul_right l p), omega (arith, away_below 0 (omega (arith, h.1))))
  over_wholes false true k h = tt
  over_wholes false false k h = omega (arith, below_toward k (omega (arith, h)))

-- ---- what has that value

whole_of : (r : Float) (s : Bool) (n : ℕ) → HasValue r s n 1 → T (is_whole r)
whole_of nan s n h = absurd h
whole_of (inf t) s n h = absurd h
whole_of (fin t m e) s n h =
    let z : m * up e % down e ≡ 0 = ap (λ (x : ℕ). x % down e) (sym (mul-one (m * up e)) ∙ h.1) ∙ mul-mod_left n (down e) in
    rw (eq-eqb (m * up e % down e) 0 z) tt

twice : (b : Bool) → T (not (not b)) → T b
twice true t = t
twice false t = t

whole_value : (s : Bool) (m : ℕ) (e : ℤ) → T (is_whole (fin s m e)) → HasValue (fin s m e) s (whole_part m e) 1
whole_value s m e h =
    let z = eqb→eq (m * up e % down e) 0 (twice (eqb (m * up e % down e) 0) h) in
    (refl, omega (arith, div-add-mod' (m * up e) (down e)))

module _ (s : Bool) (m : ℕ) (e : ℤ) (r : Float) (v : HasValue r s (whole_by s m e) 1) where
  above_wholes : (y : Float) → T (is_whole y) → T (le y (fin s m e)) → T (le y r)
  above_wholes nan w h = absurd w
  above_wholes (inf u) w h = absurd w
  above_wholes (fin u k g) w h =
      let i = whole_value u k g w in
      let q = whole_part k g in
      let l : AtMost u (q * down e) s (m * up e * 1) = fractions_of_le u s q 1 (m * up e) (down e) (zero-lt-suc 0) (down_pos e) (fin u k g) (fin s m e) i (refl, refl) h in
      le_of_fractions u s q 1 (whole_by s m e) 1 (zero-lt-suc 0) (zero-lt-suc 0) (fin u k g) r i v (over_wholes (m * up e) (down e) (down_pos e) s u q l)

  floor_of_lem : IsFloor r (fin s m e)
  floor_of_lem = record {
    whole = whole_of r s (whole_by s m e) v;
    at_most = le_of_fractions s s (whole_by s m e) 1 (m * up e) (down e) (zero-lt-suc 0) (down_pos e) r (fin s m e) v (refl, refl) (under (m * up e) (down e) (down_pos e) s);
    greatest = above_wholes;
  }

-- ---- CEIL is FLOR, mirrored

whole_neg : (r : Float) → T (is_whole r) → T (is_whole (neg r))
unfolding neg
whole_neg nan h = h
whole_neg (inf s) h = h
whole_neg (fin s m e) h = h

neg_whole : (r : Float) → T (is_whole (neg r)) → T (is_whole r)
unfolding neg
neg_whole nan h = h
neg_whole (inf s) h = h
neg_whole (fin s m e) h = h

neg_value : (r : Float) (s : Bool) (n c : ℕ) → HasValue r s n c → HasValue (neg r) (not s) n c
unfolding neg
neg_value nan s n c h = h
neg_value (inf t) s n c h = h
neg_value (fin t m e) s n c h = (ap not h.0, h.1)

mirrored : (r x : Float) → IsFloor (neg r) (neg x) → IsCeiling r x
mirrored r x f = record {
  whole = neg_whole r f.whole;
  at_least = neg_le x r f.at_most;
  least = λ y w h. neg_le r y (f.greatest (neg y) (whole_neg y w) (le_neg x y h));
}

ceiling_of_lem : (s : Bool) (m : ℕ) (e : ℤ) (r : Float) → HasValue r s (whole_by (not s) m e) 1 → IsCeiling r (fin s m e)
unfolding neg
ceiling_of_lem s m e r v = mirrored r (fin s m e) (floor_of_lem (not s) m e (neg r) (neg_value r s (whole_by (not s) m e) 1 v))

-- ---- a double's next whole number is a double

zero_times : (a b : ℕ) → 0 < b → 0 * a < b
zero_times a b h = omega arith

-- of a value that fits: how many digits it has, and where it ends
bounds : (f : Format) (s : Bool) (m : ℕ) (e : ℤ) → T (fits f (fin s m e)) → (m < 2 ^ prec f) × (m * up e < 2 ^ suc (emax f) * down e)
unfolding fits
bounds f s zero e h = (pow_pos (prec f), zero_times (up e) (2 ^ suc (emax f) * down e) (mul-pos (pow_pos (suc (emax f))) (down_pos e)))
bounds f s (suc m) e h =
    let a = eqb (suc m % 2) 1 in
    let b = ltb (suc m) (2 ^ prec f) in
    let c = leb (down e) (2 ^ low f) in
    let d = ltb (suc m * up e) (2 ^ suc (emax f) * down e) in
    (ltb→lt (suc m) (2 ^ prec f) (and_r a b (and_l (a && b) c (and_l (a && b && c) d h))), ltb→lt (suc m * up e) (2 ^ suc (emax f) * down e) (and_r (a && b && c) d h))

nothing_added : (away : Bool) (n : ℕ) → n + (if away && false then 1 else 0) ≡ n
nothing_added true n = add-zero n
nothing_added false n = add-zero n

already_whole : (away : Bool) (m k : ℕ) → whole_by away m (pos k) ≡ m * 2 ^ k
already_whole away m k = rw (div-one (m * 2 ^ k), mod-one (m * 2 ^ k)) (nothing_added away (m * 2 ^ k))

at_most_one : (b : Bool) → (if b then 1 else 0) ≤ 1
at_most_one true = zero-lt-suc 0
at_most_one false = le_of_lt (zero-lt-suc 0)

pub exact : (f : Format) (s away : Bool) (m : ℕ) (e : ℤ) → T (fits f (fin s m e)) → HasValue (round f s (whole_by away m e) 1) s (whole_by away m e) 1
exact f s away m (pos k) h =
    let b = bounds f s m (pos k) h in
    let l : m * 2 ^ k * 2 ^ low f ≡ m * 2 ^ (k + low f) = mul_assoc m (2 ^ k) (2 ^ low f) ∙ ap (λ (x : ℕ). m * x) (sym (pow-add 2 k (low f))) in
    let u : 2 ^ suc (emax f) * 1 * 2 ^ low f ≡ 2 ^ (low f + suc (emax f)) =
    ap (λ (x : ℕ). x * 2 ^ low f) (mul-one (2 ^ suc (emax f))) ∙ sym (pow-add 2 (suc (emax f)) (low f)) ∙ ap (λ (x : ℕ). 2 ^ x) (add_comm (suc (emax f)) (low f)) in
    subst (λ (n : ℕ). HasValue (round f s n 1) s n 1) (sym (already_whole away m k))
    (round_exact f s (m * 2 ^ k) 1 m (k + low f) (zero-lt-suc 0) b.0
    (subst (λ (x : ℕ). x < 2 ^ (low f + suc (emax f))) l (subst (λ (x : ℕ). m * 2 ^ k * 2 ^ low f < x) u (mul-lt-mul_of_pos_right b.1 (pow_pos (low f)))))
    (l ∙ sym (mul-one (m * 2 ^ (k + low f)))))
exact f s away m (negsuc k) h =
    round_whole f s (whole_by away m (negsuc k))
    (omega (arith, (bounds f s m (negsuc k) h).0, div-le_self (m * 1) (2 ^ suc k), at_most_one (away && has_fraction m (negsuc k))))

-- ---- FLOR and CEIL

pub floor_is : (x : Float) → T (finite x) → T (fits binary64 x) → IsFloor (floor_value x) x
unfolding floor_value
floor_is nan t h = absurd t
floor_is (inf s) t h = absurd t
floor_is (fin s m e) t h = floor_of_lem s m e (round binary64 s (whole_by s m e) 1) (exact binary64 s s m e h)

pub ceiling_is : (x : Float) → T (finite x) → T (fits binary64 x) → IsCeiling (ceiling_value x) x
unfolding ceiling_value
ceiling_is nan t h = absurd t
ceiling_is (inf s) t h = absurd t
ceiling_is (fin s m e) t h = ceiling_of_lem s m e (round binary64 s (whole_by (not s) m e) 1) (exact binary64 s (not s) m e h)

-- the value of the result's pattern
pub floor_value_lem : (x : ℕ) → value_of (floor_of x) ≡ floor_value (value_of x)
unfolding floor_of
floor_value_lem x = of_bits-to_bits binary64 (floor_value (value_of x)) (floor_fits (value_of x))

pub ceiling_value_lem : (x : ℕ) → value_of (ceiling_of x) ≡ ceiling_value (value_of x)
unfolding ceiling_of
ceiling_value_lem x = of_bits-to_bits binary64 (ceiling_value (value_of x)) (ceiling_fits (value_of x))

pub floor_order : (x : ℕ) → T (finite (value_of x)) → IsFloor (value_of (floor_of x)) (value_of x)
floor_order x t = subst (λ (r : Float). IsFloor r (value_of x)) (sym (floor_value_lem x)) (floor_is (value_of x) t (of_bits-fits binary64 x))

pub ceiling_order : (x : ℕ) → T (finite (value_of x)) → IsCeiling (value_of (ceiling_of x)) (value_of x)
ceiling_order x t = subst (λ (r : Float). IsCeiling r (value_of x)) (sym (ceiling_value_lem x)) (ceiling_is (value_of x) t (of_bits-fits binary64 x))
