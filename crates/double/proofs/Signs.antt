-- A pattern's sign bit is its value's sign, and nothing else of it: what is below that bit is the pattern of the value without its sign.
use Rattle.std.proofs.Common.{◌≡◌, ℕ, zero, suc, ◌+◌, ◌-◌, ◌*◌, ◌/◌, ◌%◌, ◌^◌, ◌<◌, Bool, true, false, cond, eqb, ltb, leb, ℤ, sym, refl, ap, ◌∙◌}
use Rattle.std.proofs.Common.{add_assoc, mod-lt, mod-eq_of_lt, zero-lt-suc, mul-pos, zero-add, arith, pow_pos, leb-false, leb-true}
use native.Mathlib.Nat.{mod-mod_of_dvd, dvd-mul_right}
use borrow.Author.Tests.{lt-leb}
use lib.Ieee.{Float, Format, nan, inf, fin, binary64, prec, emax, low, hid, ones, top, odd, units, round, of_fields, of_bits, to_bits}
use lib.Ieee.Fits.{round_is}
use Rattle.double.specs.Arithmetic.{value_of, without_sign}

-- a value with the sign s
abbrev pub signed : Bool → Float → Float
signed s nan = nan
signed s (inf t) = inf s
signed s (fin t m e) = fin s m e

odd_signed : (d : ℕ) (s : Bool) (q k l : ℕ) → odd d s q k l ≡ signed s (odd d false q k l)
unfolding odd
odd_signed d s zero k l = refl
odd_signed d s (suc q) k l = refl

-- ---- reading

either_signed : (a b s : Bool) (v w : Float) → v ≡ signed s w → cond a (cond b (inf s) nan) v ≡ signed s (cond a (cond b (inf false) nan) w)
either_signed true true s v w h = refl
either_signed true false s v w h = refl
either_signed false b s v w h = h

fields_signed : (f : Format) (s : Bool) (x t : ℕ) → of_fields f s x t ≡ signed s (of_fields f false x t)
unfolding of_fields
fields_signed f s zero t = odd_signed (prec f) s t 0 (low f)
fields_signed f s (suc x) t = either_signed (eqb (suc x) (ones f)) (eqb t 0) s _ _ (odd_signed (prec f) s (hid f + t) x (low f))

module _ (f : Format) (b : ℕ) where
  top_pos : 0 < top f
  top_pos = mul-pos (pow_pos (prec f - 1)) (zero-lt-suc (ones f))

  magnitude_reads : of_bits f (b % top f) ≡ of_fields f false (b % top f / hid f) (b % hid f)
  unfolding of_bits
  magnitude_reads =
      rw (lt-leb (top f) (b % top f) (mod-lt b top_pos), mod-eq_of_lt (mod-lt b top_pos), mod-mod_of_dvd (hid f) b (dvd-mul_right (hid f) (suc (ones f))))

  pub reads_signed : of_bits f b ≡ signed (leb (top f) b) (of_bits f (b % top f))
  unfolding of_bits
  reads_signed = fields_signed f (leb (top f) b) (b % top f / hid f) (b % hid f) ∙ sym (ap (signed (leb (top f) b)) magnitude_reads)

  -- what is below the sign bit is not negative
  magnitude_signed : signed false (of_bits f (b % top f)) ≡ of_bits f (b % top f)
  magnitude_signed = rw magnitude_reads (sym (fields_signed f false (b % top f / hid f) (b % hid f)))

dropped : (s : Bool) (v : Float) → without_sign (signed s v) ≡ signed false v
dropped s nan = refl
dropped s (inf t) = refl
dropped s (fin t m e) = refl

pub without_sign_lem : (x : ℕ) → without_sign (value_of x) ≡ value_of (x % 2 ^ 63)
without_sign_lem x = ap without_sign (reads_signed binary64 x) ∙ dropped (leb (2 ^ 63) x) (value_of (x % 2 ^ 63)) ∙ magnitude_signed binary64 x

-- ---- writing

module _ (f : Format) (s : Bool) where
  number_signed : (m : ℕ) (e : ℤ) → to_bits f (fin s m e) ≡ cond s (top f) 0 + to_bits f (fin false m e)
  unfolding to_bits
  number_signed m e = simp (zero-add, add_assoc)

  odd_written : (d q k l : ℕ) → to_bits f (odd d s q k l) ≡ cond s (top f) 0 + to_bits f (odd d false q k l)
  unfolding odd
  odd_written d zero k l = number_signed _ _
  odd_written d (suc q) k l = number_signed _ _

  units_written : (q k : ℕ) → to_bits f (units f s q k) ≡ cond s (top f) 0 + to_bits f (units f false q k)
  unfolding units
  units_written q k = go (ltb (q * 2 ^ k) (2 ^ (low f + suc (emax f))))
    where
      infinity : to_bits f (inf s) ≡ cond s (top f) 0 + to_bits f (inf false)
      infinity = unfold to_bits in simp zero-add

      go : (b : Bool) → to_bits f (cond b (odd (suc (prec f)) s q k (low f)) (inf s)) ≡ cond s (top f) 0 + to_bits f (cond b (odd (suc (prec f)) false q k (low f)) (inf false))
      go true = odd_written (suc (prec f)) q k (low f)
      go false = infinity

  -- a rounded magnitude's sign is added to its pattern
  pub round_written : (n d : ℕ) → to_bits f (round f s n d) ≡ cond s (top f) 0 + to_bits f (round f false n d)
  round_written n d = rw (round_is f s n d, round_is f false n d) (units_written _ _)

-- the sign bit of a pattern, as the code takes it
pub sign_part : (x : ℕ) → x < 2 ^ 64 → x - x % 2 ^ 63 ≡ cond (leb (2 ^ 63) x) (2 ^ 63) 0
sign_part x h = go (leb (2 ^ 63) x) refl
  where
    go : (b : Bool) → leb (2 ^ 63) x ≡ b → x - x % 2 ^ 63 ≡ cond b (2 ^ 63) 0
    go true e = omega (arith, leb-true (2 ^ 63) x e)
    go false e = omega (arith, leb-false (2 ^ 63) x e)
