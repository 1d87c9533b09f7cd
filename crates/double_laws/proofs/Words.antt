-- Document 02, item 7: CID, CUD, CDI and CDU. A double holds every 32-bit number, so a word made a double and cut again is itself.
use Rattle.std.proofs.Common.{if◌then◌else◌}
use mathlib.Core.Path.{◌≡◌, refl, sym, ap, ◌∙◌}
use mathlib.Core.Bool.{Bool, true, false}
use Prim.Native.Nat.{ℕ, suc, ◌+◌, ◌-◌, ◌*◌, ◌/◌, ◌^◌, ◌≤◌, ◌<◌}
use native.Mathlib.Nat.{mul-one, mul-div_cancel}
use native.Mathlib.Omega.{arith}
use borrow.Author.Tests.{ltb-true, ltb-false, lt-ltb}
use lib.Dec.{ltb}
use lib.IntN.{ℤ, pos, negsuc}
use lib.Ieee.{Float, nan, inf, fin, binary64, up, down, round, of_int}
use lib.Ieee.Back.{round_whole}
use lib.Ieee.Bits.{of_bits-to_bits}
use lib.Ieee.Exact.{HasValue}
use lib.Ieee.Fits.{of_int-fits, down_pos}
use mir.Syntax.{w32}
use mir.Val.{to_z}
use Rattle.word.specs.Magnitude.{with_sign}
use Rattle.std.specs.Prelude.{Some}
use Rattle.double.specs.Arithmetic.{value_of, pattern_of}
use Rattle.double.specs.Whole.{whole_part, of_signed, of_unsigned, cut_signed, cut_unsigned}

-- ---- what has a whole number's value is cut to it

whole_part_lem : (m : ℕ) (e : ℤ) (n : ℕ) → m * up e * 1 ≡ n * down e → whole_part m e ≡ n
whole_part_lem m e n h = ap (λ (x : ℕ). x / down e) (sym (mul-one (m * up e)) ∙ h) ∙ mul-div_cancel n (down_pos e)

signed_cut : (v : Float) (s : Bool) (n : ℕ) → HasValue v s n 1 → n < (if s then 2 ^ 31 + 1 else 2 ^ 31) → cut_signed v ≡ Some (with_sign s n)
unfolding cut_signed
signed_cut nan s n h l = absurd h
signed_cut (inf t) s n h l = absurd h
signed_cut (fin t m e) s n h l = rw (h.0, whole_part_lem m e n h.1, lt-ltb n (if s then 2 ^ 31 + 1 else 2 ^ 31) l)

unsigned_cut : (v : Float) (n : ℕ) → HasValue v false n 1 → n < 2 ^ 32 → cut_unsigned v ≡ Some n
unfolding cut_unsigned
unsigned_cut nan n h l = absurd h
unsigned_cut (inf t) n h l = absurd h
unsigned_cut (fin t m e) n h l = rw (h.0, whole_part_lem m e n h.1, lt-ltb n (2 ^ 32) l)

-- ---- a word, as a double and back

kept : (z : ℤ) → value_of (pattern_of (of_int binary64 z)) ≡ of_int binary64 z
kept z = of_bits-to_bits binary64 (of_int binary64 z) (of_int-fits binary64 z)

pub unsigned_back : (a : ℕ) → a < 2 ^ 32 → cut_unsigned (value_of (of_unsigned a)) ≡ Some a
unfolding of_unsigned of_int
unsigned_back a h = ap cut_unsigned (kept (pos a)) ∙ unsigned_cut (round binary64 false a 1) a (round_whole binary64 false a (omega arith)) h

module _ (a : ℕ) (h : a < 2 ^ 32) where
  below : a < 2 ^ 31 → cut_signed (of_int binary64 (pos a)) ≡ Some a
  unfolding of_int with_sign
  below l = signed_cut (round binary64 false a 1) false a (round_whole binary64 false a (omega arith)) l

  from_half : 2 ^ 31 ≤ a → cut_signed (of_int binary64 (negsuc (2 ^ 32 - suc a))) ≡ Some a
  unfolding of_int with_sign
  from_half l =
      let k = 2 ^ 32 - suc a in
      let e : 2 ^ 32 - suc k ≡ a = omega arith in
      signed_cut (round binary64 true (suc k) 1) true (suc k) (round_whole binary64 true (suc k) (omega arith)) (omega arith) ∙ ap Some e

  by_sign : cut_signed (of_int binary64 (to_z w32 a)) ≡ Some a
  by_sign = go (ltb a (2 ^ 31)) refl
    where
      go : (b : Bool) → ltb a (2 ^ 31) ≡ b → cut_signed (of_int binary64 (to_z w32 a)) ≡ Some a
      go true e = rw e (below (ltb-true a (2 ^ 31) e))
      go false e = rw e (from_half (ltb-false a (2 ^ 31) e))

  pub signed_back : cut_signed (value_of (of_signed a)) ≡ Some a
  unfolding of_signed
  signed_back = ap cut_signed (kept (to_z w32 a)) ∙ by_sign
