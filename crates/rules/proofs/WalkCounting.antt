-- Document 02, item 6: a machine that counts its walks comes to what the same machine comes to without the counter, and the counter has the walks among all
-- events. Of any translator.
use Rattle.std.proofs.Common.{if◌then◌else◌, Ok, Err, Option}
use Prim.Native.Nat.{ℕ, zero, suc}
use mathlib.Core.Path.{◌≡◌, refl, ap, ◌∙◌}
use mathlib.Core.Bool.{Bool, true, false}
use mathlib.Core.List.{List, [], ◌∷◌, ◌++◌}
use lib.ListN.{length}
use Rattle.paging.specs.Answer.{Answer}
use Rattle.paging.specs.declared.Space.{Space}
use Rattle.paging.specs.Event.{Event}
use Rattle.paging.specs.Translate.{Outcome, Translator}
use Rattle.paging.specs.Counting.{walks_in, raised, Counted, counted, counted_from, counting}
use Rattle.paging.proofs.CountingLaws.{raised_append, raised_none}
use Rattle.rules.specs.declared.Cpu.{Cpu}
use Rattle.rules.specs.declared.Key.{Key}
use Rattle.rules.specs.Record.{is_running}
use Rattle.rules.specs.Tree.{Ask, access, slots, Tree, ask, done, Grant, store_events, slot, second_slot, first_slot, answered, Ended, after, interpret}
use Rattle.rules.specs.Trap.{Effect, none, set_space, deliver, print, Final}
use Rattle.rules.specs.Clock.{next_of}
use Rattle.rules.specs.Step.{step_tree, State, Stepped, buffer_after, effect_events, stepped_by, step_by, step}
use Rattle.rules.specs.Run.{steps_of, last_of}
use Rattle.rules.specs.Walks.{events_of, counted_state}

-- where a tree ends, and a step, with the walks counted from n on
abbrev counted_end : {B A : Type 0} → ℕ → Ended B A → Ended (Counted B) A
counted_end n e = record { leaf = e.leaf; mem = e.mem; buffer = counted e.buffer (raised n e.events); grants = e.grants; events = e.events }

abbrev counted_step : {B : Type 0} → ℕ → Stepped B → Stepped (Counted B)
counted_step n t = record { state = counted_state (raised n t.events) t.state; events = t.events }

-- stores are no walks
pub stores_walks : (gs : List Grant) (vs : List ℕ) → walks_in (store_events gs vs) ≡ 0
unfolding walks_in store_events
stores_walks [] vs = refl
stores_walks (g ∷ gs) [] = refl
stores_walks (g ∷ gs) (v ∷ vs) = stores_walks gs vs

module _ {B : Type 0} (tr : Translator B) where
  -- ---- one ask

  -- the slots of a frame: the second, then the first
  counted_second : (p n : ℕ) (es : List Event) (o : Outcome B Answer) (x : Answer)
      → second_slot (counting tr) p es (counted_from (raised n es) o) x ≡ counted_from n (second_slot tr p es o x)
  unfolding second_slot
  counted_second p n es o (Ok q) = rw (raised_append n es o.events)
  counted_second p n es o (Err f) = rw (raised_append n es o.events)

  counted_first : (s : Space) (va n : ℕ) (o : Outcome B Answer) (x : Answer) → first_slot (counting tr) s va (counted_from n o) x ≡ counted_from n (first_slot tr s va o x)
  unfolding first_slot
  counted_first s va n o (Ok p) =
      let t = tr.translate s (slot va) o.mem o.buffer in
      counted_second p n o.events t t.answer
  counted_first s va n o (Err f) = refl

  counted_ask : (s : Space) (user : Bool) (q : Ask) (m : List ℕ) (b : B) (n : ℕ)
      → answered (counting tr) s user q m (counted b n) ≡ counted_from n (answered tr s user q m b)
  unfolding answered
  counted_ask s user (access k i va) m b n = refl
  counted_ask s user (slots x y) m b n =
      let o = tr.translate s (slot x) m b in
      counted_first s y n o o.answer

  -- ---- a whole tree

  counted_tree : {A : Type 0} (s : Space) (user : Bool) (t : Tree A) (m : List ℕ) (b : B) (n : ℕ) (gs : List Grant)
      → interpret (counting tr) s user t m (counted b n) gs ≡ counted_end n (interpret tr s user t m b gs)
  unfolding interpret
  counted_tree s user (done a) m b n gs = unfold raised in refl
  counted_tree s user (ask q k) m b n gs =
      let o = answered tr s user q m b in
      let e = interpret tr s user (k o.answer.reply) o.mem o.buffer (o.answer.grants ++ gs) in
      rw (counted_ask s user q m b n)
      (ap (after o.events) (counted_tree s user (k o.answer.reply) o.mem o.buffer (raised n o.events) (o.answer.grants ++ gs))
      ∙ rw (raised_append n o.events e.events))

  -- ---- a step

  counted_effect : (b : B) (n : ℕ) (e : Effect) → buffer_after (counting tr) (counted b n) e ≡ counted (buffer_after tr b e) (raised n (effect_events tr e))
  unfolding buffer_after effect_events raised
  counted_effect b n none = refl
  counted_effect b n (set_space t) = refl
  counted_effect b n (deliver code) = refl
  counted_effect b n (print x) = refl

  same_events : (e : Effect) → effect_events (counting tr) e ≡ effect_events tr e
  unfolding effect_events
  same_events none = refl
  same_events (set_space t) = refl
  same_events (deliver code) = refl
  same_events (print x) = refl

  counted_end_lem : (c : Cpu) (con : List ℕ) (n : ℕ) (e : Ended B Final) → stepped_by (counting tr) c con (counted_end n e) ≡ counted_step n (stepped_by tr c con e)
  unfolding stepped_by
  counted_end_lem c con n e =
      let a = e.events in
      let b = store_events e.grants e.leaf.values in
      let f = effect_events tr e.leaf.effect in
      rw (
        counted_effect e.buffer (raised n a) e.leaf.effect,
        same_events e.leaf.effect,
        raised_append n (a ++ b) f,
        raised_append n a b,
        raised_none (raised n a) b (stores_walks e.grants e.leaf.values),
      )

  counted_by : (k : Option Key) (n : ℕ) (s : State B) → step_by (counting tr) k (counted_state n s) ≡ counted_step n (step_by tr k s)
  unfolding step_by
  counted_by k n s =
      let x = step_tree k (length s.mem) (length s.console) s.cpu in
      ap (stepped_by (counting tr) s.cpu s.console) (counted_tree s.cpu.space s.cpu.system.user x s.mem s.buffer n [])
      ∙ counted_end_lem s.cpu s.console n (interpret tr s.cpu.space s.cpu.system.user x s.mem s.buffer [])

  -- ---- steps

  module _ (ks : List Key) where
    counted_step_lem : (n : ℕ) (s : State B) → step (counting tr) ks (counted_state n s) ≡ counted_step n (step tr ks s)
    unfolding step
    counted_step_lem n s = counted_by (next_of ks s.cpu.clock.taken) n s

    -- the state after i steps, or after as many as are made before the machine stops
    pub counted_steps : (i n : ℕ) (s : State B)
        → last_of (counted_state n s) (steps_of (counting tr) ks i (counted_state n s))
        ≡ counted_state (raised n (events_of (steps_of tr ks i s))) (last_of s (steps_of tr ks i s))
    unfolding steps_of last_of events_of raised
    counted_steps zero n s = refl
    counted_steps (suc i) n s = rw (counted_step_lem n s) (go (is_running s.cpu.stop) (counted_steps i (raised n t.events) t.state))
      where
        t : Stepped B
        t = step tr ks s

        ts : List (Stepped B)
        ts = steps_of tr ks i t.state

        t' : Stepped (Counted B)
        t' = counted_step n t

        ts' : List (Stepped (Counted B))
        ts' = steps_of (counting tr) ks i t'.state

        go : (r : Bool) → last_of t'.state ts' ≡ counted_state (raised (raised n t.events) (events_of ts)) (last_of t.state ts)
            → last_of (counted_state n s) (if r then t' ∷ ts' else [])
            ≡ counted_state (raised n (events_of (if r then t ∷ ts else []))) (last_of s (if r then t ∷ ts else []))
        go true q = q ∙ rw (raised_append n t.events (events_of ts))
        go false q = refl
