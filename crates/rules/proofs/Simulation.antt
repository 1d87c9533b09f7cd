-- Document 01, "The table reader": one tree of accesses in both machines. From a coherent buffer they come to the same leaf, memory and granted
-- writes. One induction over trees: no instruction has a case of its own.
use Rattle.std.proofs.Common.{Ok, Err}
use Prim.Native.Nat.{ℕ}
use mathlib.Core.Path.{◌≡◌, refl, subst}
use mathlib.Core.Bool.{Bool, false}
use mathlib.Core.List.{List, ◌++◌}
use Rattle.paging.specs.Answer.{Answer}
use Rattle.paging.specs.declared.Entry.{Entry}
use Rattle.paging.specs.declared.Space.{Space}
use Rattle.paging.specs.Event.{Words}
use Rattle.paging.specs.Held.{held_after, stores_held}
use Rattle.paging.specs.Translate.{Request, Outcome, buffered, reader}
use Rattle.paging.proofs.Coherent.{Coherent}
use Rattle.paging.proofs.EventLaws.{held_append, stores_append}
use Rattle.paging.proofs.ValidBuffer.{Keeps, keeps_all, keeps_both}
use Rattle.paging.proofs.RequestAgrees.{Sound, RequestAgrees, sound_after, request_agrees, agrees_as, agrees_then}
use Rattle.rules.specs.Tree.{Ask, access, slots, Tree, ask, done, Grant, slot, requested, second_slot, first_slot, answered, Ended, interpret}

-- ---- one ask

module _ (s : Space) (m : List ℕ) (hs : List Words) where
  -- a request after another, in the memory that each machine has then
  next_agrees : {b : Outcome (List Entry) Answer} {t : Outcome (Unit {0}) Answer} (q : Request) → RequestAgrees s m hs b t
      → RequestAgrees s b.mem (held_after hs b.events) (buffered.translate s q b.mem b.buffer) (reader.translate s q t.mem tt)
  next_agrees {b} q g =
      subst (λ n. RequestAgrees s b.mem (held_after hs b.events) (buffered.translate s q b.mem b.buffer) (reader.translate s q n tt)) g.mem
      (request_agrees s q b.mem b.buffer (held_after hs b.events) (sound_after g))

  -- the second slot of a frame, where the first was granted
  second_agrees : {b b' : Outcome (List Entry) Answer} {t t' : Outcome (Unit {0}) Answer} (p : ℕ) → RequestAgrees s m hs b t
      → RequestAgrees s b.mem (held_after hs b.events) b' t' → (x y : Answer) → x ≡ y
      → RequestAgrees s m hs (second_slot buffered p b.events b' x) (second_slot reader p t.events t' y)
  unfolding second_slot
  second_agrees {b} {b'} {t} {t'} p g h x y e = rw (← e) (go x)
    where
      go : (z : Answer) → RequestAgrees s m hs (second_slot buffered p b.events b' z) (second_slot reader p t.events t' z)
      go (Ok q) = agrees_then g h refl
      go (Err f) = agrees_then g h refl

  -- the first slot
  first_agrees : {b : Outcome (List Entry) Answer} {t : Outcome (Unit {0}) Answer} (va : ℕ) → RequestAgrees s m hs b t → (x y : Answer) → x ≡ y
      → RequestAgrees s m hs (first_slot buffered s va b x) (first_slot reader s va t y)
  unfolding first_slot
  first_agrees {b} {t} va g x y e = rw (← e) (go x)
    where
      go : (z : Answer) → RequestAgrees s m hs (first_slot buffered s va b z) (first_slot reader s va t z)
      go (Ok p) =
          let h = next_agrees (slot va) g in
          second_agrees p g h _ _ h.answer
      go (Err f) = agrees_as g refl

  -- an ask of either kind
  pub ask_agrees : (user : Bool) (es : List Entry) → Sound s m es hs → (q : Ask)
      → RequestAgrees s m hs (answered buffered s user q m es) (answered reader s user q m tt)
  unfolding answered
  ask_agrees user es o (access k n va) =
      let g = request_agrees s (requested k n va user) m es hs o in
      agrees_as g (rw (g.mem, g.answer))
  ask_agrees user es o (slots x y) =
      let g = request_agrees s (slot x) m es hs o in
      first_agrees y g _ _ g.answer

-- ---- a whole tree

-- where a tree ends in the two machines
pub record EndAgrees {A : Type 0} (s : Space) (m : List ℕ) (hs : List Words) (b : Ended (List Entry) A) (t : Ended (Unit {0}) A) : Type 0 where
  pub leaf : b.leaf ≡ t.leaf
  pub mem : b.mem ≡ t.mem
  pub grants : b.grants ≡ t.grants
  pub keeps : Keeps s m b.mem b.buffer
  pub stores : stores_held hs b.events ≡ false
  pub coherent : Coherent b.mem s.pdir b.buffer (held_after hs b.events)

module _ {A : Type 0} (s : Space) (user : Bool) where
  -- the induction
  pub tree_agrees : (x : Tree A) (m : List ℕ) (es : List Entry) (hs : List Words) (gs : List Grant) → Sound s m es hs
      → EndAgrees s m hs (interpret buffered s user x m es gs) (interpret reader s user x m tt gs)
  unfolding interpret held_after stores_held
  tree_agrees (done a) m es hs gs o =
      record { leaf = refl; mem = refl; grants = refl; keeps = keeps_all o.valid; stores = refl; coherent = o.coherent }
  tree_agrees (ask q k) m es hs gs o =
      let b = answered buffered s user q m es in
      let g = ask_agrees s m hs user es o q in
      let i = tree_agrees (k b.answer.reply) b.mem b.buffer (held_after hs b.events) (b.answer.grants ++ gs) (sound_after g) in
      record {
        leaf = rw (← g.answer, ← g.mem) i.leaf;
        mem = rw (← g.answer, ← g.mem) i.mem;
        grants = rw (← g.answer, ← g.mem) i.grants;
        keeps = keeps_both g.keeps i.keeps;
        stores = rw (stores_append hs b.events, g.stores) i.stores;
        coherent = rw (held_append hs b.events) i.coherent;
      }
