-- Document 02, item 7: "Single precision is widened exactly and narrowed to nearest, ties to even". So a widened single has its value (`widened_value`), and narrowed
-- it is itself again (`single_back`); every NaN becomes one NaN, in both directions (`nan_widened`, `nan_narrowed`, `nan_back`).
use mathlib.Core.Path.{◌≡◌, refl, sym, ap, ◌∙◌}
use mathlib.Core.Logic.{◌⊎◌, inl, inr}
use mathlib.Core.Bool.{Bool, true, false}
use Prim.Native.Nat.{ℕ, zero, suc, ◌+◌, ◌*◌, ◌/◌, ◌%◌, ◌^◌, ◌≤◌, ◌<◌, min}
use native.Mathlib.Nat.{eq-or-lt_of_le, min-eq_left, mod-lt, mod-one, div-one, zero-lt-suc}
use native.Mathlib.Omega.{arith}
use borrow.Author.Tests.{ltb-true, ltb-false, leb-true, leb-false, ne_eqb}
use lib.Dec.{leb}
use lib.Pow.{pow_pos}
use lib.Ieee.{Float, nan, binary32, binary64, odd, of_fields, of_bits, to_bits, nan_bits}
use lib.Ieee.Bits.{of_bits-to_bits, of_bits-fits, nan_bits_is, nan_bits_above}
use lib.Ieee.Fits.{fits_widens}
use lib.Ieee.Nearest.{closest}
use Rattle.double.specs.Single.{double_of, nearest_single, single_of}
use Rattle.narrowing.proofs.Closest.{below_half}
use Rattle.narrowing.proofs.Patterns.{sign_bit, infinity, plain}
use Rattle.narrowing.proofs.Rounding.{rounded}
use Rattle.narrowing.proofs.Fields.{of_odd}
use Rattle.narrowing.proofs.Narrowed.{is_nan_lem, of_nan, single_nan}

-- ---- NaNs

of_nan_pattern : (w : ℕ) → nan_bits binary32 w ≡ true → of_bits binary32 w ≡ nan
of_nan_pattern w e = is_nan_lem (of_bits binary32 w) (sym (nan_bits_is binary32 w) ∙ e)

pub nan_widened : (w : ℕ) → nan_bits binary32 w ≡ true → double_of w ≡ 0x7FF8000000000000
unfolding double_of to_bits
nan_widened w e = rw (of_nan_pattern w e)

pub nan_narrowed : (x : ℕ) → nan_bits binary64 x ≡ true → single_of x ≡ 0x7FC00000
nan_narrowed x e = sym (single_nan x (ltb-true 0x7FF0000000000000 (x % 2 ^ 63) (sym (nan_bits_above binary64 x) ∙ e)))

-- ---- a widened single

pub widened_value : (w : ℕ) → of_bits binary64 (double_of w) ≡ of_bits binary32 w
unfolding double_of
widened_value w = of_bits-to_bits binary64 (of_bits binary32 w) (fits_widens (of_bits binary32 w) (of_bits-fits binary32 w))

narrowed_again : (w : ℕ) → single_of (double_of w) ≡ to_bits binary32 (nearest_single (of_bits binary32 w))
unfolding single_of
narrowed_again w = ap (λ (v : Float). to_bits binary32 (nearest_single v)) (widened_value w)

pub nan_back : (w : ℕ) → nan_bits binary32 w ≡ true → single_of (double_of w) ≡ 0x7FC00000
nan_back w e = narrowed_again w ∙ ap (λ (v : Float). to_bits binary32 (nearest_single v)) (of_nan_pattern w e) ∙ of_nan

-- ---- a single is its own nearest single, by its exponent's field and its digits

abbrev nearest : Bool → ℕ → ℕ → ℕ
nearest s f t = to_bits binary32 (nearest_single (of_fields binary32 s f t))

by_one : (q : ℕ) → closest q 1 ≡ q
by_one q = sym (below_half q 1 (rw (mod-one q) (zero-lt-suc 0))) ∙ div-one q

exact : (s : Bool) (q k : ℕ) → q < 2 ^ 24 → (k ≡ 0) ⊎ (2 ^ 23 ≤ q) → plain q k ≤ infinity → to_bits binary32 (nearest_single (odd 24 s q k 149)) ≡ sign_bit s + plain q k
exact s q k h o l =
    ap (to_bits binary32) (of_odd 24 s q k 149)
    ∙ rounded q k 0 h o s
    ∙ ap (λ (x : ℕ). sign_bit s + x) (ap (λ (x : ℕ). min (plain x k) infinity) (by_one q) ∙ min-eq_left l)

of_field : (s : Bool) (g t : ℕ) → suc g < 255 → of_fields binary32 s (suc g) t ≡ odd 24 s (2 ^ 23 + t) g 149
unfolding of_fields
of_field s g t h = rw (ne_eqb (suc g) 255 (λ e. omega arith))

of_no_field : (s : Bool) (t : ℕ) → of_fields binary32 s 0 t ≡ odd 24 s t 0 149
unfolding of_fields
of_no_field s t = refl

of_infinity : (s : Bool) → nearest s 255 0 ≡ sign_bit s + infinity
unfolding of_fields nearest_single to_bits
of_infinity s = refl

finite : (s : Bool) (f t : ℕ) → t < 2 ^ 23 → f < 255 → nearest s f t ≡ sign_bit s + (f * 2 ^ 23 + t)
finite s zero t h l = ap (λ (v : Float). to_bits binary32 (nearest_single v)) (of_no_field s t) ∙ exact s t 0 (omega arith) (inl refl) (omega arith)
finite s (suc g) t h l =
    let e : plain (2 ^ 23 + t) g ≡ suc g * 2 ^ 23 + t = omega arith in
    ap (λ (v : Float). to_bits binary32 (nearest_single v)) (of_field s g t l)
    ∙ exact s (2 ^ 23 + t) g (omega arith) (inr (omega arith)) (omega arith)
    ∙ ap (λ (x : ℕ). sign_bit s + x) e

itself : (s : Bool) (f t : ℕ) → t < 2 ^ 23 → f * 2 ^ 23 + t ≤ infinity → nearest s f t ≡ sign_bit s + (f * 2 ^ 23 + t)
itself s f t h l = go (eq-or-lt_of_le {n = f} {m = 255} (omega arith))
  where
    go : (f ≡ 255) ⊎ (f < 255) → nearest s f t ≡ sign_bit s + (f * 2 ^ 23 + t)
    go (inl e) = let z : t ≡ 0 = omega arith in rw (e, z) (of_infinity s)
    go (inr b) = finite s f t h b

-- ---- the fields of a pattern

by_fields : (w : ℕ) → to_bits binary32 (nearest_single (of_bits binary32 w)) ≡ nearest (leb (2 ^ 31) w) (w % 2 ^ 31 / 2 ^ 23) (w % 2 ^ 23)
unfolding of_bits
by_fields w = refl

joined : (w : ℕ) → w < 2 ^ 32 → sign_bit (leb (2 ^ 31) w) + (w % 2 ^ 31 / 2 ^ 23 * 2 ^ 23 + w % 2 ^ 23) ≡ w
joined w h = go (leb (2 ^ 31) w) refl
  where
    go : (b : Bool) → leb (2 ^ 31) w ≡ b → sign_bit b + (w % 2 ^ 31 / 2 ^ 23 * 2 ^ 23 + w % 2 ^ 23) ≡ w
    go true e = let l = leb-true (2 ^ 31) w e in omega arith
    go false e = let l = leb-false (2 ^ 31) w e in omega arith

pub single_back : (w : ℕ) → w < 2 ^ 32 → nan_bits binary32 w ≡ false → single_of (double_of w) ≡ w
single_back w h e =
    let l : w % 2 ^ 31 ≤ infinity = ltb-false infinity (w % 2 ^ 31) (sym (nan_bits_above binary32 w) ∙ e) in
    narrowed_again w
    ∙ by_fields w
    ∙ itself (leb (2 ^ 31) w) (w % 2 ^ 31 / 2 ^ 23) (w % 2 ^ 23) (mod-lt w (pow_pos 23)) (omega arith)
    ∙ joined w h
