-- One induction over the accesses of a tree, with the invariant open: I says something of the events so far, of memory and of what a translator holds. If each
-- request keeps it, so does every tree.
use Rattle.std.proofs.Common.{Ok, Err}
use Prim.Native.Nat.{ℕ}
use mathlib.Core.Bool.{Bool}
use mathlib.Core.List.{List, ◌++◌, append_assoc, append-nil}
use Rattle.paging.specs.Answer.{Answer}
use Rattle.paging.specs.declared.Space.{Space}
use Rattle.paging.specs.Event.{Event}
use Rattle.paging.specs.Translate.{Request, Outcome, Translator}
use Rattle.rules.specs.Tree.{Ask, access, slots, Tree, ask, done, Grant, slot, requested, second_slot, first_slot, answered, interpret}

module _ {B : Type 0} (tr : Translator B) (s : Space) (I : List Event → List ℕ → B → Type 0) where
  -- I holds after an outcome too, where es was before it
  abbrev After : {A : Type 0} → List Event → Outcome B A → Type 0
  After es o = I (es ++ o.events) o.mem o.buffer

  module _ (keeps : (q : Request) (es : List Event) (m : List ℕ) (b : B) → I es m b → After es (tr.translate s q m b)) where
    -- the slots of a frame: the second, then the first
    second_keeps : (es : List Event) (p : ℕ) (o t : Outcome B Answer) → After (es ++ o.events) t → (x : Answer) → After es (second_slot tr p o.events t x)
    unfolding second_slot
    second_keeps es p o t g (Ok q) = rw (← append_assoc es o.events t.events) g
    second_keeps es p o t g (Err f) = rw (← append_assoc es o.events t.events) g

    first_keeps : (es : List Event) (va : ℕ) (o : Outcome B Answer) → After es o → (x : Answer) → After es (first_slot tr s va o x)
    unfolding first_slot
    first_keeps es va o g (Ok p) =
        let t = tr.translate s (slot va) o.mem o.buffer in
        second_keeps es p o t (keeps (slot va) (es ++ o.events) o.mem o.buffer g) t.answer
    first_keeps es va o g (Err f) = g

    -- one ask
    ask_keeps : (user : Bool) (q : Ask) (es : List Event) (m : List ℕ) (b : B) → I es m b → After es (answered tr s user q m b)
    unfolding answered
    ask_keeps user (access k n va) es m b i = keeps (requested k n va user) es m b i
    ask_keeps user (slots x y) es m b i =
        let o = tr.translate s (slot x) m b in
        first_keeps es y o (keeps (slot x) es m b i) o.answer

    -- a whole tree
    pub tree_invariant : {A : Type 0} (user : Bool) (x : Tree A) (es : List Event) (m : List ℕ) (b : B) (gs : List Grant) → I es m b
        → I (es ++ (interpret tr s user x m b gs).events) (interpret tr s user x m b gs).mem (interpret tr s user x m b gs).buffer
    unfolding interpret
    tree_invariant user (done a) es m b gs i = rw (append-nil es) i
    tree_invariant user (ask q k) es m b gs i =
        let o = answered tr s user q m b in
        rw (← append_assoc es o.events _)
        (tree_invariant user (k o.answer.reply) (es ++ o.events) o.mem o.buffer (o.answer.grants ++ gs) (ask_keeps user q es m b i))
