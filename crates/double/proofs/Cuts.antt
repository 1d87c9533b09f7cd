-- Document 02, item 7: "CDI and CDU cut toward zero; NaN or a value that doesn't fit afterwards is FARITH". Both cuts are one rule, with its limits and its word open.
use Rattle.std.proofs.Common.{◌≡◌, ℕ, ◌+◌, ◌%◌, ◌^◌, ◌<◌, ◌≤◌, Bool, true, false, ltb, leb, ℤ, sym, refl, ap, ◌∙◌, arith, lit≤, le-ltb, lt-ltb, if◌then◌else◌}
use lib.Ieee.{Float, nan, inf, fin, binary64, to_unsigned}
use Rattle.word.specs.Magnitude.{with_sign}
use Rattle.std.specs.Prelude.{Option, None, Some}
use Rattle.double.specs.Arithmetic.{value_of}
use Rattle.double.specs.Whole.{whole_part, cut_signed, cut_unsigned}
use Rattle.double.proofs.Signs.{signed, reads_signed}
use Rattle.double.proofs.Magnitudes.{small, small_cut, Large, no_number, endless, whole, large, whole_part_lem}

-- the magnitude is below a where the number is negative, else below b
pub record CutBy (cut : Float → Option ℕ) (a b : ℕ) (word : Bool → ℕ → ℕ) : Type 0 where
  pub of_nan : cut nan ≡ None
  pub of_infinity : (s : Bool) → cut (inf s) ≡ None
  pub of_number : (s : Bool) (m : ℕ) (e : ℤ) → cut (fin s m e) ≡ (if ltb (whole_part m e) (if s then a else b) then Some (word s (whole_part m e)) else None)
  pub limits : (s : Bool) → (if s then a else b) ≤ 2 ^ 32

bounded : (a b : ℕ) → a ≤ 2 ^ 32 → b ≤ 2 ^ 32 → (s : Bool) → (if s then a else b) ≤ 2 ^ 32
bounded a b p q true = p
bounded a b p q false = q

pub signed_cut : CutBy cut_signed (2 ^ 31 + 1) (2 ^ 31) with_sign
unfolding cut_signed
signed_cut = record { of_nan = refl; of_infinity = λ s. refl; of_number = λ s m e. refl; limits = bounded (2 ^ 31 + 1) (2 ^ 31) (lit≤ tt) (lit≤ tt) }

pub unsigned_cut : CutBy cut_unsigned 1 (2 ^ 32) (λ s n. n)
unfolding cut_unsigned
unsigned_cut = record { of_nan = refl; of_infinity = λ s. refl; of_number = λ s m e. refl; limits = bounded 1 (2 ^ 32) (lit≤ tt) (lit≤ tt) }

module _ {cut : Float → Option ℕ} {a b : ℕ} {word : Bool → ℕ → ℕ} (k : CutBy cut a b word) where
  over : (s : Bool) (m : ℕ) (e : ℤ) → (if s then a else b) ≤ whole_part m e → None ≡ cut (fin s m e)
  over s m e h = rw (k.of_number s m e, le-ltb (whole_part m e) (if s then a else b) h)

  -- from 2^52 on nothing fits
  none_large : {v : Float} → Large v → None ≡ cut v
  none_large no_number = sym k.of_nan
  none_large (endless s) = sym (k.of_infinity s)
  none_large (whole s m e c p q r) = over s m e (omega (arith, k.limits s, whole_part_lem m e c p))

  module _ (x : ℕ) where
    pub cut_large : 0x4330000000000000 ≤ x % 2 ^ 63 → None ≡ cut (value_of x)
    cut_large h = none_large (large x h)

    -- below it the whole part n is judged
    module _ {n bound : ℕ} (h : x % 2 ^ 63 < 0x4330000000000000) (p : n ≡ to_unsigned 64 (value_of (x % 2 ^ 63))) (q : bound ≡ (if leb (2 ^ 63) x then a else b)) where
      cut_value : cut (value_of x) ≡ (if ltb n bound then Some (word (leb (2 ^ 63) x) n) else None)
      cut_value =
          let v = small (x % 2 ^ 63) h in
          let r : value_of x ≡ fin (leb (2 ^ 63) x) v.m v.e = reads_signed binary64 x ∙ ap (signed (leb (2 ^ 63) x)) v.is in
          rw (r, q, p, small_cut v) (k.of_number (leb (2 ^ 63) x) v.m v.e)

      pub cut_over : bound ≤ n → None ≡ cut (value_of x)
      cut_over t = rw (cut_value, le-ltb n bound t)

      pub cut_fits : n < bound → Some (word (leb (2 ^ 63) x) n) ≡ cut (value_of x)
      cut_fits t = rw (cut_value, lt-ltb n bound t)

      pub cut_word : n < bound → n < 2 ^ 32
      cut_word t = omega (arith, k.limits (leb (2 ^ 63) x))
