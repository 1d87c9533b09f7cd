-- Document 01, "The table reader": one step. From a coherent buffer both machines come to the same state; the buffer is coherent afterwards unless
-- the step made a store of demand 3's kind.
use Rattle.std.proofs.Common.{Option}
use Prim.Native.Nat.{ℕ}
use mathlib.Core.Path.{◌≡◌}
use mathlib.Core.Bool.{false}
use mathlib.Core.List.{List, [], ◌∷◌, ◌++◌}
use lib.ListN.{length}
use Rattle.memory.specs.Memory.{store_n}
use Rattle.paging.specs.declared.Entry.{Entry}
use Rattle.paging.specs.declared.Space.{Space}
use Rattle.paging.specs.Event.{Words}
use Rattle.paging.specs.Held.{held_after, touches_held, stores_held}
use Rattle.paging.specs.Translate.{buffered, reader}
use Rattle.word.proofs.BoolLaws.{neither}
use Rattle.paging.proofs.Coherent.{Coherent, coherent_stored}
use Rattle.paging.proofs.EventLaws.{held_append, stores_append}
use Rattle.paging.proofs.RequestAgrees.{Sound, emptied_coherent}
use Rattle.rules.specs.declared.Cpu.{Cpu}
use Rattle.rules.specs.declared.Key.{Key}
use Rattle.rules.specs.Tree.{Grant, store_all, store_events, Ended}
use Rattle.rules.specs.Trap.{Effect, none, set_space, deliver, print, Final}
use Rattle.rules.specs.Clock.{next_of}
use Rattle.rules.specs.Step.{step_tree, State, Stepped, space_after, buffer_after, effect_events, stepped_by, step_by, step}
use Rattle.rules.proofs.Simulation.{EndAgrees, tree_agrees}

-- the same state without a buffer
abbrev pub without_buffer : State (List Entry) → State (Unit {0})
without_buffer s = record { cpu = s.cpu; mem = s.mem; console = s.console; buffer = tt }

-- a step of the two machines
pub record StepAgrees (hs : List Words) (b : Stepped (List Entry)) (t : Stepped (Unit {0})) : Type 0 where
  pub same : without_buffer b.state ≡ t.state
  pub coherent : stores_held hs b.events ≡ false
      → Coherent b.state.mem b.state.cpu.space.pdir b.state.buffer (held_after hs b.events)

-- ---- the end of a step

-- its stores, none of demand 3's kind
coherent_stores : {m : List ℕ} {pdir : ℕ} {es : List Entry} {hs : List Words} (gs : List Grant) (vs : List ℕ) → stores_held hs (store_events gs vs) ≡ false
    → Coherent m pdir es hs → Coherent (store_all gs vs m) pdir es (held_after hs (store_events gs vs))
unfolding store_all store_events held_after stores_held
coherent_stores [] vs t c = c
coherent_stores (g ∷ gs) [] t c = c
coherent_stores {m = m} {pdir = pdir} {es = es} {hs = hs} (g ∷ gs) (v ∷ vs) t c =
    let n = neither (touches_held g.at g.size hs) (stores_held hs (store_events gs vs)) t in
    coherent_stores {m = store_n g.size m g.at v} gs vs n.1 (coherent_stored g.size g.at v n.0 c)

-- its effect: PDIR and SPAG empty the buffer
coherent_effect : {m : List ℕ} {es : List Entry} {hs : List Words} (s : Space) (e : Effect) → Coherent m s.pdir es hs
    → Coherent m (space_after s e).pdir (buffer_after buffered es e) (held_after hs (effect_events buffered e))
unfolding space_after buffer_after effect_events held_after
coherent_effect s none c = c
coherent_effect {m} {es} {hs} s (set_space t) c = emptied_coherent m t.pdir es hs
coherent_effect s (deliver code) c = c
coherent_effect s (print x) c = c

module _ (c : Cpu) (con : List ℕ) where
  -- where a tree ends, as a step
  end_agrees : {m : List ℕ} {hs : List Words} {b : Ended (List Entry) Final} {t : Ended (Unit {0}) Final} → EndAgrees c.space m hs b t
      → StepAgrees hs (stepped_by buffered c con b) (stepped_by reader c con t)
  unfolding stepped_by
  end_agrees {hs = hs} {b = b} g = record {
    same = rw (← g.leaf, ← g.mem, ← g.grants);
    coherent = λ q.
        let a = b.events in
        let e = store_events b.grants b.leaf.values in
        let f = effect_events buffered b.leaf.effect in
        let n = neither (stores_held hs (a ++ e)) (stores_held (held_after hs (a ++ e)) f) (rw (stores_append hs (a ++ e) f) at q) in
        let k = neither (stores_held hs a) (stores_held (held_after hs a) e) (rw (stores_append hs a e) at n.0) in
        rw (held_append hs (a ++ e) f, held_append hs a e)
        (coherent_effect c.space b.leaf.effect (coherent_stores b.grants b.leaf.values k.1 g.coherent));
  }

-- a step, with the next key
step_by_agrees : (k : Option Key) (s : State (List Entry)) (hs : List Words) → Sound s.cpu.space s.mem s.buffer hs
    → StepAgrees hs (step_by buffered k s) (step_by reader k (without_buffer s))
unfolding step_by
step_by_agrees k s hs o =
    end_agrees s.cpu s.console
    (tree_agrees s.cpu.space s.cpu.system.user (step_tree k (length s.mem) (length s.console) s.cpu) s.mem s.buffer hs [] o)

-- a step, with a list of keys
pub step_agrees : (ks : List Key) (s : State (List Entry)) (hs : List Words) → Sound s.cpu.space s.mem s.buffer hs
    → StepAgrees hs (step buffered ks s) (step reader ks (without_buffer s))
unfolding step
step_agrees ks s hs o = step_by_agrees (next_of ks s.cpu.clock.taken) s hs o
