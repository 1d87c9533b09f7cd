-- The record's slots, as the code counts them and as the rules see them.
use Prim.Native.Nat.{ℕ, zero, suc, ◌≤◌}
use native.Mathlib.Nat.{not-suc-le-zero}
use native.Mathlib.Omega.{arith}
use mathlib.Core.Path.{◌≡◌, refl, ap}
use mathlib.Core.List.{List, [], ◌∷◌}
use lib.ListN.{length, take}
use Rattle.paging.specs.declared.Entry.{Entry}
use Rattle.refusals.specs.View.{first_slots}

-- within the slots, the first n are those counted
pub first_take : (n : ℕ) (es : List Entry) → n ≤ length es → first_slots n es ≡ take n es
unfolding first_slots
first_take zero es l = refl
first_take (suc n) [] l = absurd (not-suc-le-zero l)
first_take (suc n) (e ∷ es) l = ap (λ (xs : List Entry). e ∷ xs) (first_take n es (omega (arith, l)))

pub first_length : (n : ℕ) (es : List Entry) → length (first_slots n es) ≡ n
unfolding first_slots
first_length zero es = refl
first_length (suc n) [] = ap suc (first_length n [])
first_length (suc n) (e ∷ es) = ap suc (first_length n es)
