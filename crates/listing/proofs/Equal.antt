-- Two lines compared.
use Prim.Native.Nat.{ℕ}
use mathlib.Core.Bool.{true, false≢true}
use mathlib.Core.List.{List, [], ◌∷◌}
use mathlib.Core.Path.{◌≡◌, refl}
use borrow.Author.Tests.{eqb-true, eq-eqb}
use lib.Dec.{eqb}
use lib.Pointwise.{pointwise}
use Rattle.word.proofs.BoolLaws.{both}
use Rattle.listing.specs.Stands.{equal}

-- a test that passes, and one that fails
pub equal_same : (x y : List ℕ) → equal x y ≡ true → x ≡ y
unfolding equal
equal_same [] [] e = refl
equal_same [] (y ∷ ys) e = absurd (false≢true e)
equal_same (x ∷ xs) [] e = absurd (false≢true e)
equal_same (x ∷ xs) (y ∷ ys) e =
    let h = both (eqb x y) (equal xs ys) e in
    rw (eqb-true x y h.0, equal_same xs ys h.1)

pub equal_refl : (x : List ℕ) → equal x x ≡ true
unfolding equal
equal_refl [] = refl
equal_refl (x ∷ xs) = rw (eq-eqb x x refl, equal_refl xs)

-- std's comparison of slices
pub pointwise_equal : (x y : List ℕ) → pointwise eqb x y ≡ equal x y
unfolding equal
pointwise_equal [] [] = refl
pointwise_equal [] (y ∷ ys) = refl
pointwise_equal (x ∷ xs) [] = refl
pointwise_equal (x ∷ xs) (y ∷ ys) = rw (pointwise_equal xs ys) refl
