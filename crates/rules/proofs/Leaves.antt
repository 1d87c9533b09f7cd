-- What holds of every leaf of a tree, whatever the replies.

use Rattle.std.proofs.Common.{if◌then◌else◌}
use mathlib.Core.Bool.{Bool, true, false}
use mathlib.Core.List.{List}
use Prim.Native.Nat.{ℕ}
use Rattle.paging.specs.declared.Space.{Space}
use Rattle.paging.specs.Translate.{Translator}
use Rattle.rules.specs.Tree.{Ask, Reply, Tree, ask, done, bind, Grant, answered, interpret}

-- P holds of every leaf
pub data Leaves {A : Type 0} (P : A → Type 0) : Tree A → Type 0 where
  at_leaf : {a : A} → P a → Leaves P (done a)
  at_ask : {q : Ask} {k : Reply → Tree A} → ((r : Reply) → Leaves P (k r)) → Leaves P (ask q k)

-- what holds of anything holds of every leaf
pub leaves_all : {A : Type 0} (t : Tree A) → Leaves (λ a. Unit {0}) t
leaves_all (ask q k) = at_ask (λ r. leaves_all (k r))
leaves_all (done a) = at_leaf tt

-- one tree after another, where Q holds of every leaf of the first
pub leaves_then : {A B : Type 0} {Q : A → Type 0} {P : B → Type 0} (f : A → Tree B) {t : Tree A} → Leaves Q t → ((a : A) → Q a → Leaves P (f a)) → Leaves P (bind t f)
unfolding bind
leaves_then f (at_leaf {a = a} q) h = h a q
leaves_then f (at_ask l) h = at_ask (λ r. leaves_then f (l r) h)

-- a choice of two trees
pub leaves_if : {A : Type 0} {P : A → Type 0} (b : Bool) {x y : Tree A} → Leaves P x → Leaves P y → Leaves P (if b then x else y)
leaves_if true l r = l
leaves_if false l r = r

-- the leaf at which a machine ends
pub leaf_at : {A B : Type 0} {P : A → Type 0} (tr : Translator B) (s : Space) (user : Bool) {t : Tree A} → Leaves P t → (m : List ℕ) (b : B) (gs : List Grant)
    → P (interpret tr s user t m b gs).leaf
unfolding interpret
leaf_at tr s user (at_leaf p) m b gs = p
leaf_at tr s user (at_ask {q = q} h) m b gs = leaf_at tr s user (h (answered tr s user q m b).answer.reply) _ _ _
