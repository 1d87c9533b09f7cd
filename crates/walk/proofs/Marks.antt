-- Marks A and D in the low byte of a word: document 01, "Addresses".
use Prim.Native.Nat.{ℕ, ◌+◌, ◌/◌, ◌%◌, ◌<◌}
use native.Mathlib.Nat.{add-zero, mul-one, mul-zero}
use native.Mathlib.Omega.{arith}
use mathlib.Core.Bool.{Bool, true, false, ◌||◌}
use mathlib.Core.Path.{◌≡◌, refl, sym, ◌∙◌}
use mathlib.Core.List.{List}
use mathlib.Core.Logic.{◌⊎◌, inl, inr, ⊎_elim}
use lib.ListN.{length, get_or, set, length-set}
use lib.Seq.{set-get_or}
use lib.Dec.{eqb}
use borrow.Author.Tests.{eqb-true}
use Rattle.paging.specs.declared.Access.{Access}
use Rattle.paging.specs.declared.Access.TheVariants.{Fetch, Read, Write}
use Rattle.paging.specs.Walk.{is_write, set_bit, mark, mark_for}
use Rattle.walk.specs.Found.{is_mark}

-- ---- the values of A and D

mark_value : (k : ℕ) → is_mark k ≡ true → (k ≡ 32) ⊎ (k ≡ 64)
mark_value k h = go (eqb k 32) refl h
  where
    go : (b : Bool) → eqb k 32 ≡ b → b || eqb k 64 ≡ true → (k ≡ 32) ⊎ (k ≡ 64)
    go true e q = inl (eqb-true _ _ e)
    go false e q = inr (eqb-true _ _ q)

module _ (k : ℕ) (h : is_mark k ≡ true) where
  pub mark_positive : 0 < k
  mark_positive = ⊎_elim (λ e. omega arith) (λ e. omega arith) (mark_value k h)

  -- a byte without the mark has room for it
  pub mark_fits : (w : ℕ) → w < 256 → w / k % 2 ≡ 0 → w + k < 256
  mark_fits w b z =
      ⊎_elim (λ (e : k ≡ 32). let z' : w / 32 % 2 ≡ 0 = rw e at z in omega arith)
      (λ (e : k ≡ 64). let z' : w / 64 % 2 ≡ 0 = rw e at z in omega arith) (mark_value k h)

-- ---- a byte set anew, or left

module _ (m : List ℕ) (at k : ℕ) where
  pub mark_sets : get_or m at 0 / k % 2 ≡ 0 → set m at (get_or m at 0 + k) ≡ mark k m at
  unfolding mark set_bit
  mark_sets e = rw (e, mul-one)

  pub mark_leaves : (get_or m at 0 / k % 2 ≡ 0 → ⊥) → m ≡ mark k m at
  unfolding mark set_bit
  mark_leaves e =
      let o : get_or m at 0 / k % 2 ≡ 1 = omega arith in
      rw (o, mul-zero, add-zero) (sym (set-get_or m at 0))

  pub length-mark : length (mark k m at) ≡ length m
  unfolding mark
  length-mark = length-set m at _

-- ---- A, for a write A and D

module _ (m : List ℕ) (at : ℕ) where
  pub mark_read : (k : Access) {m' : List ℕ} → is_write k ≡ false → m' ≡ mark 32 m at → m' ≡ mark_for k m at
  unfolding is_write mark_for
  mark_read Fetch e h = h
  mark_read Read e h = h
  mark_read Write e h = cc

  pub mark_write : (k : Access) {m' m'' : List ℕ} → is_write k ≡ true → m' ≡ mark 32 m at → m'' ≡ mark 64 m' at → m'' ≡ mark_for k m at
  unfolding is_write mark_for
  mark_write Fetch e h g = cc
  mark_write Read e h g = cc
  mark_write Write e h g = rw (g, h)

  pub length-mark_for : (k : Access) → length (mark_for k m at) ≡ length m
  unfolding mark_for
  length-mark_for Fetch = length-mark m at 32
  length-mark_for Read = length-mark m at 32
  length-mark_for Write = length-mark (mark 32 m at) at 64 ∙ length-mark m at 32
