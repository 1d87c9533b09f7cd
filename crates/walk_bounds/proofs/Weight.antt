-- Document 02, item 6: how often an entry can have been kept for each page of the buffer, by the rights of its entry. Where a walk finds an entry, this grows.
use Rattle.std.proofs.Common.{if◌then◌else◌}
use Prim.Native.Nat.{ℕ, suc, ◌+◌, ◌*◌, ◌≤◌, ◌<◌}
use mathlib.Core.Path.{◌≡◌, refl}
use mathlib.Core.Bool.{Bool, true, false, cond, ◌&&◌}
use mathlib.Core.List.{List, [], ◌∷◌}
use mathlib.Core.Option.{none, some, some-ne-none}
use native.Mathlib.Omega.{arith}
use lib.ListN.{length}
use lib.Dec.{eqb}
use borrow.Author.Tests.{eqb-true}
use Rattle.paging.specs.declared.Access.{Access}
use Rattle.paging.specs.declared.Entry.{Entry}
use Rattle.paging.specs.Event.{Words}
use Rattle.paging.specs.Walk.{found, walk}
use Rattle.paging.specs.Buffer.{serves, hit, place, entry_page}
use Rattle.paging.proofs.Coherent.{CoherentEntry, Coherent, none_held, one_more}
use Rattle.paging.proofs.SecondWalk.{SecondFound, second_walk}

-- once; with write right twice, as the first walk for the page may have been for a read
abbrev pub kept_for : Entry → ℕ
kept_for e = if e.write then 2 else 1

unfoldable pub weight : List Entry → ℕ
weight [] = 0
weight (e ∷ es) = kept_for e + weight es

pub weight_most : (es : List Entry) → weight es ≤ 2 * length es
unfolding weight
weight_most [] = omega arith
weight_most (e ∷ es) = go e.write (weight_most es)
  where
    go : (w : Bool) → weight es ≤ 2 * length es → (if w then 2 else 1) + weight es ≤ 2 * suc (length es)
    go true h = omega arith
    go false h = omega arith

module _ (m : List ℕ) (pdir p : ℕ) (k : Access) (user : Bool) (f : ℕ) (u w : Bool) (da ta : ℕ) where
  -- the entry that a walk for page p found
  abbrev new : Entry
  new = record { page = p; frame = f; user = u; write = w }

  -- an entry of this page in its place
  replaced : (e : Entry) (h : Words) → CoherentEntry m pdir e h → e.page ≡ p → serves e k user ≡ false → (walk m pdir p k user).found ≡ found f u w da ta
      → kept_for e < kept_for new
  replaced e h c q s o =
      let g : SecondFound e (found f u w da ta) = rw (q, o) at (second_walk e h k user c s) in
      rw (g.0, g.1) (omega arith)

  -- the new entry at least once
  new_kept : 0 < kept_for new
  new_kept = go w
    where
      go : (b : Bool) → 0 < (if b then 2 else 1)
      go true = omega arith
      go false = omega arith

  -- placed among entries none of which serves
  pub weight_placed : {es : List Entry} {hs : List Words} → Coherent m pdir es hs → hit p k user es ≡ none → (walk m pdir p k user).found ≡ found f u w da ta
      → weight es < weight (place entry_page new es)
  unfolding weight place hit
  weight_placed none_held n o = omega (arith, new_kept)
  weight_placed (one_more {e = e} {h = h} {es = es} c cs) n o = go (eqb e.page p) (serves e k user) refl refl n (λ r. weight_placed cs r o)
    where
      go : (a b : Bool) → eqb e.page p ≡ a → serves e k user ≡ b → cond (a && b) (some e.frame) (hit p k user es) ≡ none
          → (hit p k user es ≡ none → weight es < weight (place entry_page new es))
          → kept_for e + weight es < weight (cond a (new ∷ es) (e ∷ place entry_page new es))
      go true true q s z r = absurd (some-ne-none e.frame z)
      go true false q s z r = omega (arith, replaced e h c (eqb-true e.page p q) s o)
      go false b q s z r = omega (arith, r z)
