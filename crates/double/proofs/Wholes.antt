-- Document 02, item 7: FLOR and CEIL, whose zeros keep the operand's sign. The direction is open: the whole number next to a value, away from zero or toward it.
use Rattle.std.proofs.Common.{◌≡◌, ℕ, ◌+◌, ◌-◌, ◌*◌, ◌%◌, ◌^◌, ◌<◌, ◌≤◌, Bool, true, false, cond, not, ◌&&◌, eqb, ltb, leb, ℤ, pos, sym, refl, ap}
use Rattle.std.proofs.Common.{◌∙◌, add-zero, div-add-mod', mul-one, arith, lit≤, le-ltb, lt-ltb, eq-eqb, ne_eqb, eqb-true, leb-false, leb-true}
use Rattle.std.proofs.Common.{if◌then◌else◌}
use native.Mathlib.Nat.{mul-mod_left}
use borrow.Author.Tests.{eqb-false}
use lib.Ieee.{Float, nan, inf, fin, binary64, up, down, round, of_int, to_unsigned}
use lib.Ieee.Bits.{of_bits-to_bits, to_bits-of_bits, of_bits-fits, to_bits-lt}
use lib.Ieee.Fits.{round-fits, of_int-fits}
use lib.Ieee.Exact.{HasValue}
use lib.Ieee.Back.{round_whole, whole_unique}
use mir.Val.{bool_byte}
use Rattle.double.specs.Arithmetic.{value_of, pattern_of}
use Rattle.double.specs.Whole.{whole_part, has_fraction, whole_by, floor_value, floor_of, ceiling_value, ceiling_of}
use Rattle.double.specs.NextWhole.{next_whole}
use Rattle.double.proofs.Nan.{no_nan}
use Rattle.double.proofs.Signs.{signed, reads_signed, round_written, sign_part}
use Rattle.double.proofs.Magnitudes.{Small, small, small_number, small_cut, part_small, Large, no_number, endless, whole, large, whole_part_lem}

-- ---- whole numbers

-- of what has the value c nothing is cut
no_fraction : (m : ℕ) (e : ℤ) (c : ℕ) → m * up e ≡ c * down e → has_fraction m e ≡ false
no_fraction m e c p = ap (λ (n : ℕ). not (eqb (n % down e) 0)) p ∙ rw (mul-mod_left c (down e))

nothing_added : (away : Bool) (n : ℕ) → n + (if away && false then 1 else 0) ≡ n
nothing_added true n = add-zero n
nothing_added false n = add-zero n

whole_by_lem : (away : Bool) (m : ℕ) (e : ℤ) (c : ℕ) → m * up e ≡ c * down e → whole_by away m e ≡ c
whole_by_lem away m e c p =
    ap (λ (b : Bool). whole_part m e + (if away && b then 1 else 0)) (no_fraction m e c p) ∙ nothing_added away (whole_part m e) ∙ whole_part_lem m e c p

-- ---- from 2^52 on a number is whole already

large_kept : (away : Bool) {v : Float} → Large v → v ≡ next_whole away v
unfolding next_whole
large_kept away no_number = refl
large_kept away (endless s) = refl
large_kept away (whole s m e c p q r) = sym (ap (λ (n : ℕ). round binary64 s n 1) (whole_by_lem away m e c p) ∙ r)

pub next_large : (away : Bool) (x : ℕ) → 0x4330000000000000 ≤ x % 2 ^ 63 → pattern_of (value_of x) ≡ pattern_of (next_whole away (value_of x))
next_large away x h = ap pattern_of (large_kept away (large x h))

-- ---- below it, something is cut where the whole number's pattern is not the magnitude's

module _ (b : ℕ) (l : b < 2 ^ 64) (k : Small (value_of b)) where
  abbrev part : ℕ
  part = whole_part k.m k.e

  abbrev rest : ℕ
  rest = k.m * up k.e % down k.e

  part_value : HasValue (of_int binary64 (pos part)) false part 1
  unfolding of_int
  part_value = round_whole binary64 false part (omega (arith, part_small k))

  -- nothing is cut: both stand for the same number
  same_pattern : rest ≡ 0 → pattern_of (of_int binary64 (pos part)) ≡ b
  same_pattern z =
      let w : HasValue (value_of b) false part 1 = rw k.is (refl, mul-one (k.m * up k.e) ∙ sym (div-add-mod' (k.m * up k.e) (down k.e)) ∙ rw z (add-zero (part * down k.e))) in
      ap pattern_of (whole_unique binary64 (of_int binary64 (pos part)) (value_of b) false part (of_int-fits binary64 (pos part)) (of_bits-fits binary64 b) part_value w)
      ∙ to_bits-of_bits binary64 b l (no_nan (small_number k))

  no_rest : pattern_of (of_int binary64 (pos part)) ≡ b → rest ≡ 0
  no_rest p =
      let q : of_int binary64 (pos part) ≡ fin false k.m k.e = sym (of_bits-to_bits binary64 (of_int binary64 (pos part)) (of_int-fits binary64 (pos part))) ∙ ap value_of p ∙ k.is in
      let w : HasValue (fin false k.m k.e) false part 1 = rw q at part_value in
      ap (λ (n : ℕ). n % down k.e) (sym (mul-one (k.m * up k.e)) ∙ w.1) ∙ mul-mod_left part (down k.e)

  fraction : not (eqb (pattern_of (of_int binary64 (pos part))) b) ≡ has_fraction k.m k.e
  fraction = ap not (go (eqb rest 0) refl)
    where
      go : (z : Bool) → eqb rest 0 ≡ z → eqb (pattern_of (of_int binary64 (pos part))) b ≡ z
      go true e = eq-eqb (pattern_of (of_int binary64 (pos part))) b (same_pattern (eqb-true rest 0 e))
      go false e = ne_eqb (pattern_of (of_int binary64 (pos part))) b (λ p. eqb-false rest 0 e (no_rest p))

as_byte : (b : Bool) → bool_byte b ≡ (if b then 1 else 0)
as_byte true = refl
as_byte false = refl

byte_le : (b : Bool) → bool_byte b ≤ 1
byte_le true = lit≤ tt
byte_le false = lit≤ tt

-- the whole part n, its pattern r, and t, the pattern of the whole number next to the magnitude, as the code has them
module _ (x : ℕ) {n : ℕ} (h : x % 2 ^ 63 < 0x4330000000000000) (p : n ≡ to_unsigned 64 (value_of (x % 2 ^ 63))) where
  pub next_part : n < 2 ^ 52
  next_part = let k = small (x % 2 ^ 63) h in omega (arith, small_cut k, part_small k)

  pub next_bound : (away : Bool) (r : ℕ) → n + bool_byte (away && not (eqb r (x % 2 ^ 63))) ≤ 2 ^ 53
  next_bound away r = omega (arith, next_part, byte_le (away && not (eqb r (x % 2 ^ 63))))

  module _ (away : Bool) {r t : ℕ} (q : r ≡ pattern_of (of_int binary64 (pos n))) (u : t ≡ pattern_of (of_int binary64 (pos (n + bool_byte (away && not (eqb r (x % 2 ^ 63))))))) (l : x < 2 ^ 64) where
    next_rounded : x - x % 2 ^ 63 + t ≡ pattern_of (round binary64 (leb (2 ^ 63) x) (whole_by away (small (x % 2 ^ 63) h).m (small (x % 2 ^ 63) h).e) 1)
    unfolding of_int
    next_rounded =
        let s = leb (2 ^ 63) x in
        let k = small (x % 2 ^ 63) h in
        let w : n ≡ whole_part k.m k.e = p ∙ small_cut k in
        let f : not (eqb r (x % 2 ^ 63)) ≡ has_fraction k.m k.e =
        ap (λ (y : ℕ). not (eqb y (x % 2 ^ 63))) (q ∙ ap (λ (y : ℕ). pattern_of (of_int binary64 (pos y))) w) ∙ fraction (x % 2 ^ 63) (omega arith) k in
        let g : n + bool_byte (away && not (eqb r (x % 2 ^ 63))) ≡ whole_by away k.m k.e =
        ap (λ (b : Bool). n + bool_byte (away && b)) f
        ∙ ap (λ (y : ℕ). n + y) (as_byte (away && has_fraction k.m k.e))
        ∙ ap (λ (y : ℕ). y + (if away && has_fraction k.m k.e then 1 else 0)) w in
        ap (λ (y : ℕ). y + t) (sign_part x l)
        ∙ ap (λ (y : ℕ). cond s (2 ^ 63) 0 + y) (u ∙ ap (λ (y : ℕ). pattern_of (of_int binary64 (pos y))) g)
        ∙ sym (round_written binary64 s (whole_by away k.m k.e) 1)

    pub next_small : x - x % 2 ^ 63 + t ≡ pattern_of (next_whole away (value_of x))
    unfolding next_whole
    next_small =
        let k = small (x % 2 ^ 63) h in
        rw (reads_signed binary64 x, k.is) next_rounded

    pub next_fits : x - x % 2 ^ 63 + t < 2 ^ 64
    next_fits = rw next_rounded (to_bits-lt binary64 _ (round-fits binary64 _ _ 1))

-- ---- FLOR and CEIL

module _ (g : Float → Float) (away : Bool → Bool) (a : g nan ≡ nan) (b : (s : Bool) → g (inf s) ≡ inf s)
    (c : (s : Bool) (m : ℕ) (e : ℤ) → g (fin s m e) ≡ round binary64 s (whole_by (away s) m e) 1) where
  by_sign : (s : Bool) (v : Float) → g (signed s v) ≡ next_whole (away s) (signed s v)
  unfolding next_whole
  by_sign s nan = a
  by_sign s (inf t) = b s
  by_sign s (fin t m e) = c s m e

  next_by_sign : (x : ℕ) → g (value_of x) ≡ next_whole (away (leb (2 ^ 63) x)) (value_of x)
  next_by_sign x = rw (reads_signed binary64 x) (by_sign (leb (2 ^ 63) x) (value_of (x % 2 ^ 63)))

pub floor_next : (x : ℕ) → floor_of x ≡ pattern_of (next_whole (leb (2 ^ 63) x) (value_of x))
unfolding floor_of
floor_next x = ap pattern_of (next_by_sign floor_value (λ s. s) refl (λ s. refl) (λ s m e. refl) x)

below_is : (x t : ℕ) → ltb x t ≡ not (leb t x)
below_is x t = go (leb t x) refl
  where
    go : (b : Bool) → leb t x ≡ b → ltb x t ≡ not b
    go true e = le-ltb x t (leb-true t x e)
    go false e = lt-ltb x t (leb-false t x e)

pub ceiling_next : (x : ℕ) → ceiling_of x ≡ pattern_of (next_whole (ltb x (2 ^ 63)) (value_of x))
unfolding ceiling_of
ceiling_next x =
    ap pattern_of (next_by_sign ceiling_value not refl (λ s. refl) (λ s m e. refl) x ∙ ap (λ (b : Bool). next_whole b (value_of x)) (sym (below_is x (2 ^ 63))))
