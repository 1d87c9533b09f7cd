-- Document 02, item 6, "never more than five in a step": how many translations a tree makes at most, whatever the replies, with a weight of its leaf: what
-- the rest of a step may still make.
use Rattle.std.proofs.Common.{if◌then◌else◌}
use Prim.Native.Nat.{ℕ, ◌+◌, ◌≤◌}
use mathlib.Core.Bool.{Bool, true, false}
use native.Mathlib.Omega.{arith}
use Rattle.rules.specs.Tree.{Ask, access, slots, Reply, Tree, ask, done, bind}

-- the translations of an ask: one for an access, two for the slots of a frame
abbrev pub translations : Ask → ℕ
translations (access kind n va) = 1
translations (slots x y) = 2

-- on every path at most n: its translations and the weight of its leaf
pub data Within {A : Type 0} (weight : A → ℕ) : ℕ → Tree A → Type 0 where
  at_leaf : {n : ℕ} {a : A} → weight a ≤ n → Within weight n (done a)
  at_ask : {n : ℕ} {q : Ask} {k : Reply → Tree A} (rest : ℕ) → translations q + rest ≤ n → ((r : Reply) → Within weight rest (k r)) → Within weight n (ask q k)

-- the constructors as laws: a law's numbers are known from the goal, where `omega` is to prove its premise
pub within_leaf : {A : Type 0} {weight : A → ℕ} {n : ℕ} {a : A} → weight a ≤ n → Within weight n (done a)
within_leaf l = at_leaf l

pub within_ask : {A : Type 0} {weight : A → ℕ} {n : ℕ} {q : Ask} {k : Reply → Tree A} (rest : ℕ) → translations q + rest ≤ n → ((r : Reply) → Within weight rest (k r))
    → Within weight n (ask q k)
within_ask rest l h = at_ask rest l h

-- a larger bound
pub within_more : {A : Type 0} {weight : A → ℕ} {t : Tree A} (m n : ℕ) → m ≤ n → Within weight m t → Within weight n t
within_more m n h (at_leaf l) = within_leaf (omega arith)
within_more m n h (at_ask rest l k) = within_ask rest (omega arith) k

-- a choice of two trees
pub within_if : {A : Type 0} {weight : A → ℕ} {n : ℕ} (b : Bool) {x y : Tree A} → Within weight n x → Within weight n y → Within weight n (if b then x else y)
within_if true l r = l
within_if false l r = r

-- one tree after another: what follows a leaf stays within its weight
pub within_then : {A B : Type 0} {first : A → ℕ} {second : B → ℕ} (n : ℕ) {t : Tree A} (f : A → Tree B) → Within first n t
    → ((a : A) → Within second (first a) (f a)) → Within second n (bind t f)
unfolding bind
within_then {first = first} n f (at_leaf {a = a} l) h = within_more (first a) n l (h a)
within_then n f (at_ask rest l k) h = at_ask rest l (λ r. within_then rest f (k r) h)
