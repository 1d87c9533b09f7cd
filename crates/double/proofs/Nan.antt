-- Document 02, item 7: "a NaN result .. is always 0x7FF8000000000000". A NaN pattern stands for `nan`, and an operation with a `nan` gives `nan`, a comparison false.
use Rattle.std.proofs.Common.{◌≡◌, ℕ, zero, suc, ◌+◌, ◌*◌, ◌^◌, Bool, true, false, cond, not, T, ltb, ℤ, pos, negsuc, sym, refl, ap, ◌∙◌, subst, Option, None, Some}
use lib.Ieee.{Float, Format, nan, inf, fin, binary64, prec, emax, low, odd, units, round, of_bits, to_bits, is_nan, nan_bits, of_int}
use lib.Ieee.{neg, add, sub, mul, div, eq, lt, le, ne}
use lib.Ieee.Bits.{nan_bits_is}
use lib.Ieee.Fits.{round_is}
use Rattle.std.specs.Option.{MatchOption}
use Rattle.std.proofs.lemmas.Option.{MatchOption-at_some, MatchOption-at_none}
use Rattle.double.specs.Numbers.{numbers_of}
use Rattle.double.specs.Arithmetic.{value_of, pattern_of}

-- ---- which values are `nan`

pub no_nan : {b : Bool} → b ≡ false → T (not b)
no_nan e = subst (λ (b : Bool). T (not b)) (sym e) tt

-- the one NaN
is_nan_lem : (v : Float) → is_nan v ≡ true → v ≡ nan
unfolding is_nan
is_nan_lem nan e = refl
is_nan_lem (inf s) e = absurd (subst T (sym e) tt)
is_nan_lem (fin s m x) e = absurd (subst T (sym e) tt)

-- a NaN pattern stands for it, and no other does
module _ (f : Format) (x : ℕ) where
  pub reads_nan : nan_bits f x ≡ true → of_bits f x ≡ nan
  reads_nan e = is_nan_lem (of_bits f x) (sym (nan_bits_is f x) ∙ e)

  pub reads_number : nan_bits f x ≡ false → T (not (is_nan (of_bits f x)))
  reads_number e = no_nan (sym (nan_bits_is f x) ∙ e)

-- what does not differ from itself is no NaN
pub equals_itself : (v : Float) → ne v v ≡ false → T (not (is_nan v))
unfolding ne is_nan
equals_itself nan e = absurd (subst T e tt)
equals_itself (inf s) e = tt
equals_itself (fin s m x) e = tt

-- what is rounded is no NaN
odd_number : (d : ℕ) (s : Bool) (q k l : ℕ) → T (not (is_nan (odd d s q k l)))
unfolding odd is_nan
odd_number d s zero k l = tt
odd_number d s (suc q) k l = tt

units_number : (f : Format) (s : Bool) (q k : ℕ) → T (not (is_nan (units f s q k)))
unfolding units is_nan
units_number f s q k = go (ltb (q * 2 ^ k) (2 ^ (low f + suc (emax f))))
  where
    go : (b : Bool) → T (not (is_nan (cond b (odd (suc (prec f)) s q k (low f)) (inf s))))
    go true = odd_number (suc (prec f)) s q k (low f)
    go false = tt

round_number : (f : Format) (s : Bool) (n d : ℕ) → T (not (is_nan (round f s n d)))
round_number f s n d = rw (round_is f s n d) (units_number f s _ _)

pub int_number : (z : ℤ) → T (not (is_nan (of_int binary64 z)))
unfolding of_int
int_number (pos n) = round_number binary64 false n 1
int_number (negsuc n) = round_number binary64 true (suc n) 1

-- ---- operations and comparisons with a `nan`

-- by the three kinds of a value
by_kind : {R : Type 0} (p : Float → R) (z : R) → p nan ≡ z → ((s : Bool) → p (inf s) ≡ z) → ((s : Bool) (m : ℕ) (e : ℤ) → p (fin s m e) ≡ z)
    → (v : Float) → p v ≡ z
by_kind p z a b c nan = a
by_kind p z a b c (inf s) = b s
by_kind p z a b c (fin s m e) = c s m e

-- an operation gives z where an operand is `nan`
pub record Strict {R : Type 0} (op : Float → Float → R) (z : R) : Type 0 where
  pub left : (v : Float) → op nan v ≡ z
  pub right : (v : Float) → op v nan ≡ z

pub add_strict : Strict (add binary64) nan
unfolding add
add_strict = record { left = λ v. refl; right = by_kind (λ v. add binary64 v nan) nan refl (λ s. refl) (λ s m e. refl) }

pub sub_strict : Strict (sub binary64) nan
unfolding sub
sub_strict = record { left = λ v. add_strict.left (neg v); right = add_strict.right }

pub mul_strict : Strict (mul binary64) nan
unfolding mul
mul_strict = record { left = λ v. refl; right = by_kind (λ v. mul binary64 v nan) nan refl (λ s. refl) (λ s m e. refl) }

pub div_strict : Strict (div binary64) nan
unfolding div
div_strict = record { left = λ v. refl; right = by_kind (λ v. div binary64 v nan) nan refl (λ s. refl) (λ s m e. refl) }

pub eq_strict : Strict eq false
unfolding eq
eq_strict = record { left = λ v. refl; right = by_kind (λ v. eq v nan) false refl (λ s. refl) (λ s m e. refl) }

pub lt_strict : Strict lt false
unfolding lt
lt_strict = record { left = λ v. refl; right = by_kind (λ v. lt v nan) false refl (λ s. refl) (λ s m e. refl) }

pub ge_strict : Strict (λ v w. le w v) false
unfolding le
ge_strict = record { left = by_kind (λ v. le v nan) false refl (λ s. refl) (λ s m e. refl); right = λ v. refl }

-- the pattern of an operation's result
pub patterns : {op : Float → Float → Float} → Strict op nan → Strict (λ v w. pattern_of (op v w)) 0x7FF8000000000000
unfolding to_bits
patterns s = record { left = λ v. ap pattern_of (s.left v); right = λ v. ap pattern_of (s.right v) }

-- ---- at the values of two patterns, if neither is a NaN's

module _ (x y : ℕ) where
  -- one is
  pub none_left : nan_bits binary64 x ≡ true → None ≡ numbers_of x y
  unfolding numbers_of
  none_left e = rw e refl

  pub none_right : nan_bits binary64 x ≡ false → nan_bits binary64 y ≡ true → None ≡ numbers_of x y
  unfolding numbers_of
  none_right e f = rw (e, f) refl

  -- neither is
  pub both_numbers : nan_bits binary64 x ≡ false → nan_bits binary64 y ≡ false → Some (value_of x, value_of y) ≡ numbers_of x y
  unfolding numbers_of
  both_numbers e f = rw (e, f) refl

  -- what is z where one is a NaN's, and else an operation's result on the values
  pub over_numbers : {R : Type 0} {g : Float → Float → R} {z : R} → Strict g z → (P : Float × Float → Type 0) (r : R) (o : Option (Float × Float))
      → o ≡ numbers_of x y → MatchOption o (r ≡ z) P → ((q : Float × Float) → P q → r ≡ g q.0 q.1) → r ≡ g (value_of x) (value_of y)
  over_numbers {R} {g} {z} s P r o e m k = go (nan_bits binary64 x) (nan_bits binary64 y) refl refl
    where
      go : (a b : Bool) → nan_bits binary64 x ≡ a → nan_bits binary64 y ≡ b → r ≡ g (value_of x) (value_of y)
      go true b p q = MatchOption-at_none (r ≡ z) P (e ∙ sym (none_left p)) m ∙ sym (rw (reads_nan binary64 x p) (s.left (value_of y)))
      go false true p q = MatchOption-at_none (r ≡ z) P (e ∙ sym (none_right p q)) m ∙ sym (rw (reads_nan binary64 y q) (s.right (value_of x)))
      go false false p q = k (value_of x, value_of y) (MatchOption-at_some (r ≡ z) P (value_of x, value_of y) (e ∙ sym (both_numbers p q)) m)
