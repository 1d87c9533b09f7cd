-- Document 01, "Numbers returned": a step of the machine with the page buffer keeps the size of memory, and refusal 3 does not come of it, whatever
-- the step stores.
use Rattle.std.proofs.Common.{Option}
use Prim.Native.Nat.{ℕ}
use mathlib.Core.Path.{◌≡◌, refl, ◌∙◌}
use mathlib.Core.Bool.{Bool, true}
use mathlib.Core.List.{List, [], ◌∷◌}
use lib.ListN.{length}
use Rattle.memory.specs.Memory.{store_n}
use Rattle.memory.proofs.Laws.{length-store}
use Rattle.paging.specs.declared.Entry.{Entry}
use Rattle.paging.specs.declared.Space.{Space}
use Rattle.paging.specs.Buffer.{buffer_ok}
use Rattle.paging.specs.Translate.{buffered}
use Rattle.paging.proofs.BufferLaws.{empty_ok}
use Rattle.paging.proofs.ValidBuffer.{Valid, Keeps, keeps_all, keeps_both, request_keeps}
use Rattle.rules.specs.declared.Key.{Key}
use Rattle.rules.specs.Tree.{Tree, Grant, store_all, interpret}
use Rattle.rules.specs.Trap.{Effect, none, set_space, deliver, print}
use Rattle.rules.specs.Clock.{next_of}
use Rattle.rules.specs.Step.{step_tree, State, buffer_after, step_by, step}
use Rattle.rules.proofs.Leaves.{leaf_at}
use Rattle.rules.proofs.TreeInvariant.{tree_invariant}
use Rattle.rules.proofs.StepSpace.{step_aligned}

-- ---- the accesses of a step

pub tree_keeps : {A : Type 0} (s : Space) (user : Bool) (x : Tree A) (m : List ℕ) (es : List Entry) (gs : List Grant) → Valid s m es
    → Keeps s m (interpret buffered s user x m es gs).mem (interpret buffered s user x m es gs).buffer
tree_keeps s user x m es gs v =
    tree_invariant buffered s (λ evs n fs. Keeps s m n fs) (λ q evs n fs g. keeps_both g (request_keeps s q n fs g.valid)) user x [] m es gs (keeps_all v)

-- ---- its end

-- stores keep the size of memory
pub length-stores : (gs : List Grant) (vs m : List ℕ) → length (store_all gs vs m) ≡ length m
unfolding store_all
length-stores [] vs m = refl
length-stores (g ∷ gs) [] m = refl
length-stores (g ∷ gs) (v ∷ vs) m = length-stores gs vs (store_n g.size m g.at v) ∙ length-store g.size m g.at v

-- an emptied buffer passes too
effect_ok : (size : ℕ) (es : List Entry) (e : Effect) → buffer_ok size es ≡ true → buffer_ok size (buffer_after buffered es e) ≡ true
unfolding buffer_after
effect_ok size es none h = h
effect_ok size es (set_space t) h = empty_ok size
effect_ok size es (deliver c) h = h
effect_ok size es (print x) h = h

-- what a step keeps of the state before it
abbrev pub StepKeeps : State (List Entry) → State (List Entry) → Type 0
StepKeeps s t = Keeps t.cpu.space s.mem t.mem t.buffer

-- a step, with the next key
step_by_keeps : (k : Option Key) (s : State (List Entry)) → Valid s.cpu.space s.mem s.buffer → StepKeeps s (step_by buffered k s).state
unfolding step_by
step_by_keeps k s v =
    let x = step_tree k (length s.mem) (length s.console) s.cpu in
    let e = interpret buffered s.cpu.space s.cpu.system.user x s.mem s.buffer [] in
    let g = tree_keeps s.cpu.space s.cpu.system.user x s.mem s.buffer [] v in
    let n = length-stores e.grants e.leaf.values e.mem in
    let l = step_aligned k (length s.mem) (length s.console) s.cpu v.aligned in
    record {
      size = n ∙ g.size;
      valid = record {
        aligned = leaf_at buffered s.cpu.space s.cpu.system.user l s.mem s.buffer [];
        whole = rw n g.valid.whole;
        ok = rw n (effect_ok (length e.mem) e.buffer e.leaf.effect g.valid.ok);
      };
    }

-- a step, with a list of keys
pub step_keeps : (ks : List Key) (s : State (List Entry)) → Valid s.cpu.space s.mem s.buffer → StepKeeps s (step buffered ks s).state
unfolding step
step_keeps ks s v = step_by_keeps (next_of ks s.cpu.clock.taken) s v
