-- The order of two finite values by their signs and the fractions that they equal, and mirrored by the sign. Document 02, item 7, for its FLOR and CEIL.
use mathlib.Core.Path.{◌≡◌, refl, sym, subst}
use mathlib.Core.Bool.{Bool, true, false, not, ◌&&◌, ◌||◌}
use Prim.Native.Nat.{ℕ, ◌+◌, ◌*◌, ◌≤◌, ◌<◌}
use native.Mathlib.Omega.{arith}
use borrow.Author.Tests.{ltb-true, ltb-false, eq-eqb}
use lib.Dec.{T, ltb, eqb, eqb→eq}
use lib.Ieee.{Float, nan, inf, fin, up, down, below, level, neg, le}
use lib.Ieee.Exact.{HasValue}
use lib.Ieee.Fits.{down_pos, and_l, and_r}
use lib.Ieee.Order.{transfer}

-- ---- ±a is at most ±b

abbrev pub AtMost : Bool → ℕ → Bool → ℕ → Type 0
AtMost false a false b = a ≤ b
AtMost false a true b = (a ≤ 0) × (b ≤ 0)
AtMost true a false b = Unit
AtMost true a true b = b ≤ a

at_most : (s : Bool) (a : ℕ) (t : Bool) (b : ℕ) → T (below s a t b || level s a t b) → AtMost s a t b
at_most false a false b h = go (ltb a b) refl h
  where
    go : (c : Bool) → ltb a b ≡ c → T (c || (eqb a b && true)) → a ≤ b
    go true e k = let l = ltb-true a b e in omega arith
    go false e k = let q = eqb→eq a b (and_l (eqb a b) true k) in omega arith
at_most false a true b h =
    let p = eqb→eq a b (and_l (eqb a b) (eqb a 0) h) in
    let q = eqb→eq a 0 (and_r (eqb a b) (eqb a 0) h) in
    (omega arith, omega arith)
at_most true a false b h = tt
at_most true a true b h = go (ltb b a) refl h
  where
    go : (c : Bool) → ltb b a ≡ c → T (c || (eqb a b && true)) → b ≤ a
    go true e k = let l = ltb-true b a e in omega arith
    go false e k = let q = eqb→eq a b (and_l (eqb a b) true k) in omega arith

compared : (s : Bool) (a : ℕ) (t : Bool) (b : ℕ) → AtMost s a t b → T (below s a t b || level s a t b)
compared false a false b h = go (ltb a b) refl
  where
    go : (c : Bool) → ltb a b ≡ c → T (c || (eqb a b && true))
    go true e = tt
    go false e = let l = ltb-false a b e in rw (eq-eqb a b (omega arith)) tt
compared false a true b h = rw (eq-eqb a b (omega (arith, h.0, h.1)), eq-eqb a 0 (omega (arith, h.0))) tt
compared true a false b h = go (ltb 0 (a + b)) refl
  where
    go : (c : Bool) → ltb 0 (a + b) ≡ c → T (c || (eqb a b && eqb a 0))
    go true e = tt
    go false e = let l = ltb-false 0 (a + b) e in rw (eq-eqb a b (omega arith), eq-eqb a 0 (omega arith)) tt
compared true a true b h = go (ltb b a) refl
  where
    go : (c : Bool) → ltb b a ≡ c → T (c || (eqb a b && true))
    go true e = tt
    go false e = let l = ltb-false b a e in rw (eq-eqb a b (omega arith)) tt

-- ---- two values as fractions

-- x / p is a / c, and y / q is b / d
cross : (s t : Bool) (x p y q a c b d : ℕ) → 0 < c → 0 < d → x * c ≡ a * p → y * d ≡ b * q → AtMost s (a * d) t (b * c) → AtMost s (x * q) t (y * p)
cross false false x p y q a c b d C D e f h = transfer x y p q a b c d C D e f h
cross false true x p y q a c b d C D e f h =
    let k : x * q ≤ 0 * p = transfer x 0 p q a 0 c d C D e (omega arith) (omega (arith, h.0)) in
    let l : y * p ≤ 0 * q = transfer y 0 q p b 0 d c D C f (omega arith) (omega (arith, h.1)) in
    (omega arith, omega arith)
cross true false x p y q a c b d C D e f h = tt
cross true true x p y q a c b d C D e f h = transfer y x q p b a d c D C f e h

module _ (s t : Bool) (a c b d : ℕ) (C : 0 < c) (D : 0 < d) where
  pub le_of_fractions : (x y : Float) → HasValue x s a c → HasValue y t b d → AtMost s (a * d) t (b * c) → T (le x y)
  unfolding le
  le_of_fractions nan y p q h = absurd p
  le_of_fractions (inf u) y p q h = absurd p
  le_of_fractions (fin u m e) nan p q h = absurd q
  le_of_fractions (fin u m e) (inf v) p q h = absurd q
  le_of_fractions (fin u m e) (fin v n g) p q h =
      rw (p.0, q.0) (compared s (m * up e * down g) t (n * up g * down e) (cross s t (m * up e) (down e) (n * up g) (down g) a c b d C D p.1 q.1 h))

  pub fractions_of_le : (x y : Float) → HasValue x s a c → HasValue y t b d → T (le x y) → AtMost s (a * d) t (b * c)
  unfolding le
  fractions_of_le nan y p q h = absurd p
  fractions_of_le (inf u) y p q h = absurd p
  fractions_of_le (fin u m e) nan p q h = absurd q
  fractions_of_le (fin u m e) (inf v) p q h = absurd q
  fractions_of_le (fin u m e) (fin v n g) p q h =
      cross s t a c b d (m * up e) (down e) (n * up g) (down g) (down_pos e) (down_pos g) (sym p.1) (sym q.1)
      (at_most s (m * up e * down g) t (n * up g * down e) (rw (p.0, q.0) at h))

-- ---- mirrored

pub neg_neg : (x : Float) → neg (neg x) ≡ x
unfolding neg
neg_neg nan = refl
neg_neg (inf true) = refl
neg_neg (inf false) = refl
neg_neg (fin true m e) = refl
neg_neg (fin false m e) = refl

turned : (s : Bool) (a : ℕ) (t : Bool) (b : ℕ) → AtMost s a t b → AtMost (not t) b (not s) a
turned false a false b h = h
turned false a true b h = (h.1, h.0)
turned true a false b h = tt
turned true a true b h = h

pub le_neg : (x y : Float) → T (le x y) → T (le (neg y) (neg x))
unfolding le neg
le_neg nan y h = absurd h
le_neg (inf s) nan h = absurd h
le_neg (inf true) (inf true) h = tt
le_neg (inf true) (inf false) h = tt
le_neg (inf false) (inf true) h = absurd h
le_neg (inf false) (inf false) h = tt
le_neg (inf true) (fin t n d) h = tt
le_neg (inf false) (fin t n d) h = absurd h
le_neg (fin s m e) nan h = absurd h
le_neg (fin s m e) (inf t) h = h
le_neg (fin s m e) (fin t n d) h =
    compared (not t) (n * up d * down e) (not s) (m * up e * down d)
    (turned s (m * up e * down d) t (n * up d * down e) (at_most s (m * up e * down d) t (n * up d * down e) h))

pub neg_le : (x y : Float) → T (le (neg y) (neg x)) → T (le x y)
neg_le x y h = subst (λ (v : Float). T (le v y)) (neg_neg x) (subst (λ (v : Float). T (le (neg (neg x)) v)) (neg_neg y) (le_neg (neg y) (neg x) h))
