-- Document 02, item 1, for any translator, so for both machines: an event sets its mark (`event_sets`); nothing but its own delivery clears a mark (`pending_after`);
-- in a step with iena = 1 the first marked interrupt, key before timer, is delivered, or the machine stops with 3 (`key_delivered`, `timer_delivered`).
use Rattle.std.proofs.Common.{if◌then◌else◌, Option, Some, None}
use Prim.Native.Nat.{ℕ, ◌+◌}
use mathlib.Core.Bool.{Bool, true, false, ◌||◌}
use mathlib.Core.List.{List, [], ◌++◌}
use mathlib.Core.Path.{◌≡◌, refl, sym, ap, ◌∙◌, subst}
use lib.Dec.{eqb}
use lib.ListN.{length}
use Rattle.paging.specs.TrapCode.{code_number}
use Rattle.paging.specs.Translate.{Translator}
use Rattle.rules.specs.declared.Clock.{Clock}
use Rattle.rules.specs.declared.Cpu.{Cpu}
use Rattle.rules.specs.declared.Interrupt.{Interrupt}
use Rattle.rules.specs.declared.Interrupt.TheVariants.{Keyboard, Timer}
use Rattle.rules.specs.declared.Key.{Key}
use Rattle.rules.specs.declared.Pending.{Pending}
use Rattle.rules.specs.declared.Stop.TheVariants.{NoFrame}
use Rattle.rules.specs.Record.{with_timer, with_pending, with_timer_pending}
use Rattle.rules.specs.Tree.{Reply, got, denied, Ended, store_events, interpret}
use Rattle.rules.specs.Trap.{Effect, deliver, Final, framed, deliver_tree}
use Rattle.rules.specs.Clock.{next_of, key_comes, keyed, timer_fires, timed, ticked, interrupt_code, due_of, cleared}
use Rattle.rules.specs.Step.{awake, due_tree, State, effect_events, stepped_by, step}
use Rattle.rules.specs.Pending.{happens, is_pending, pending_of, Delivered, PendingAfter, kept, clear, DueAfter, delivers, stops}
use Rattle.rules.proofs.Leaves.{Leaves, at_leaf, at_ask, leaves_all, leaf_at}
use Rattle.rules.proofs.StepTree.{Shapes, every_step}
use Rattle.rules.proofs.Kept.{computed_keeps, returned_keeps}

-- ---- "a key or timer event always sets its mark"

-- rule 3: the timer's mark is set where the timer fires; the key's mark and the keys taken are left
pub timed_pending : (t : Clock) → ((timed t).pending ≡ with_timer_pending (timer_fires t || t.pending.timer) t.pending) × ((timed t).taken ≡ t.taken)
timed_pending t = go (timer_fires t) (eqb t.timeout 0)
  where
    after : (fires off : Bool) → Clock
    after fires off = if fires then with_pending (with_timer_pending true t.pending) (with_timer 0 t) else (if off then t else with_timer (t.timer + 1) t)

    go : (fires off : Bool) → ((after fires off).pending ≡ with_timer_pending (fires || t.pending.timer) t.pending) × ((after fires off).taken ≡ t.taken)
    go true off = (refl, refl)
    go false true = (refl, refl)
    go false false = (refl, refl)

-- rule 2: the key's mark is set where a key comes
keyed_key : (next : Option Key) (c : Cpu) (t : Clock) → (keyed next (key_comes next c) t).pending.key ≡ key_comes next c || t.pending.key
keyed_key None c t = refl
keyed_key (Some k) c t = go (key_comes (Some k) c)
  where
    go : (comes : Bool) → (keyed (Some k) comes t).pending.key ≡ comes || t.pending.key
    go true = refl
    go false = refl

-- and the timer and its mark are left
keyed_timer : (next : Option Key) (comes : Bool) (t : Clock) → timer_fires (keyed next comes t) || (keyed next comes t).pending.timer ≡ timer_fires t || t.pending.timer
keyed_timer None comes t = refl
keyed_timer (Some k) true t = refl
keyed_timer (Some k) false t = refl

-- after rules 1 to 3 a mark is set where its event happens, whatever iena is and whatever else happens; and else is as it was
pub event_sets : (i : Interrupt) (next : Option Key) (c : Cpu) → pending_of i (ticked next c) ≡ happens i next c || pending_of i c
unfolding ticked
event_sets Keyboard next c =
    let t = keyed next (key_comes next c) c.clock in
    ap (is_pending Keyboard) (timed_pending t).0 ∙ keyed_key next c c.clock
event_sets Timer next c =
    let t = keyed next (key_comes next c) c.clock in
    ap (is_pending Timer) (timed_pending t).0 ∙ keyed_timer next (key_comes next c) c.clock

-- ---- "in a step with iena = 1 the first marked one, key before timer, is due"

pub masked_due : (c : Cpu) → c.system.iena ≡ false → due_of c ≡ None
unfolding due_of
masked_due c e = rw e

pub key_due : (c : Cpu) → c.system.iena ≡ true → pending_of Keyboard c ≡ true → due_of c ≡ Some Keyboard
unfolding due_of
key_due c e k = rw (e, k)

pub timer_due : (c : Cpu) → c.system.iena ≡ true → pending_of Keyboard c ≡ false → pending_of Timer c ≡ true → due_of c ≡ Some Timer
unfolding due_of
timer_due c e k t = rw (e, k, t)

pub unmarked_due : (c : Cpu) → c.system.iena ≡ true → pending_of Keyboard c ≡ false → pending_of Timer c ≡ false → due_of c ≡ None
unfolding due_of
unmarked_due c e k t = rw (e, k, t)

-- ---- the marks at the end of a step, where c is the record after rules 1 to 3

-- both are kept, or an interrupt was due, is delivered, and its mark alone is cleared
data PendingEnd (c : Cpu) (f : Final) : Type 0 where
  both_kept : f.cpu.clock.pending ≡ c.clock.pending → PendingEnd c f
  one_cleared : (i : Interrupt) → due_of c ≡ Some i → f.effect ≡ deliver (code_number (interrupt_code i)) → f.cpu.clock.pending ≡ cleared i c.clock.pending → PendingEnd c f

module _ (c : Cpu) where
  -- a fault's or TRAP's frame, stored or not
  frame_keeps : (x : Cpu) (code pc : ℕ) → x.clock.pending ≡ c.clock.pending → (r : Reply) → Leaves (PendingEnd c) (framed x x.clock.pending code pc r)
  frame_keeps x code pc g (got v) = at_leaf (both_kept g)
  frame_keeps x code pc g (denied f) = at_leaf (both_kept g)

  keeping : (size console_size : ℕ) → Shapes size console_size (Leaves (PendingEnd c)) (λ x. x.clock.pending ≡ c.clock.pending)
  unfolding deliver_tree
  keeping size console_size = record {
    on_fault = λ x address g. g;
    on_moved = λ x g. g;
    waits = λ x g. at_leaf (both_kept g);
    masks = λ x g. at_leaf (both_kept g);
    computes = λ x op g. at_leaf (both_kept ((computed_keeps size op x).pending ∙ g));
    returns = λ x code pc g. at_leaf (both_kept ((returned_keeps x code pc).pending ∙ g));
    fills = λ x g. at_leaf (both_kept g);
    prints = λ x g e. at_leaf (both_kept g);
    directs = λ x g e. at_leaf (both_kept g);
    pages = λ x g. at_leaf (both_kept g);
    delivers = λ x code pc g. at_ask (frame_keeps x _ pc g);
    reads = λ l. at_ask l;
  }

  -- an interrupt's frame, stored or not
  interrupt_pending : (i : Interrupt) (pc : ℕ) → due_of c ≡ Some i → (r : Reply)
      → Leaves (PendingEnd c) (framed (awake c) (cleared i c.clock.pending) (code_number (interrupt_code i)) pc r)
  interrupt_pending i pc e (got v) = at_leaf (one_cleared i e refl refl)
  interrupt_pending i pc e (denied f) = at_leaf (both_kept refl)

  every_pending : (size console_size : ℕ) → Leaves (PendingEnd c) (due_tree (due_of c) size console_size c)
  unfolding deliver_tree
  every_pending size console_size =
      every_step (λ o. Unit {0}) (keeping size console_size) (λ x r vs g o. both_kept g) (λ x r v vs g o. both_kept g) (due_of c) c refl (λ i e. at_ask (interrupt_pending i _ e)) (leaves_all _)

  -- ---- what is due is delivered, or the machine stops with 3
  module _ (i : Interrupt) where
    data DueEnd (f : Final) : Type 0 where
      stored : f.effect ≡ deliver (code_number (interrupt_code i)) → f.cpu.clock.pending ≡ cleared i c.clock.pending → DueEnd f
      refused : f.cpu.stop ≡ NoFrame → f.cpu.clock.pending ≡ c.clock.pending → DueEnd f

    due_frame : (pc : ℕ) (r : Reply) → Leaves DueEnd (framed (awake c) (cleared i c.clock.pending) (code_number (interrupt_code i)) pc r)
    due_frame pc (got v) = at_leaf (stored refl refl)
    due_frame pc (denied f) = at_leaf (refused refl refl)

    due_end : (size console_size : ℕ) → due_of c ≡ Some i → Leaves DueEnd (due_tree (due_of c) size console_size c)
    unfolding due_tree deliver_tree
    due_end size console_size e = subst (λ (d : Option Interrupt). Leaves DueEnd (due_tree d size console_size c)) (sym e) (at_ask (due_frame _))

-- a delivery clears its own mark
cleared_own : (i : Interrupt) (p : Pending) → is_pending i (cleared i p) ≡ false
cleared_own Keyboard p = refl
cleared_own Timer p = refl

-- ---- as a step of a machine: t is the record after rules 1 to 3, e the end of the step's tree

module _ {B : Type 0} (tr : Translator B) (c t : Cpu) (con : List ℕ) (e : Ended B Final) where
  -- the delivery is the last event
  delivery_last : (i : Interrupt) → e.leaf.effect ≡ deliver (code_number (interrupt_code i)) → Delivered i (stepped_by tr c con e)
  unfolding stepped_by
  delivery_last i f =
      let earlier = e.events ++ store_events e.grants e.leaf.values in
      record { earlier = earlier; last = ap (λ (x : Effect). earlier ++ effect_events tr x) f }

  pending_ends : (i : Interrupt) → PendingEnd t e.leaf → PendingAfter i t (stepped_by tr c con e)
  unfolding stepped_by
  pending_ends i (both_kept h) = kept (ap (is_pending i) h)
  pending_ends Keyboard (one_cleared Keyboard d f h) = clear d (delivery_last Keyboard f) (ap (is_pending Keyboard) h)
  pending_ends Keyboard (one_cleared Timer d f h) = kept (ap (is_pending Keyboard) h)
  pending_ends Timer (one_cleared Keyboard d f h) = kept (ap (is_pending Timer) h)
  pending_ends Timer (one_cleared Timer d f h) = clear d (delivery_last Timer f) (ap (is_pending Timer) h)

  due_ends : (i : Interrupt) → pending_of i t ≡ true → DueEnd t i e.leaf → DueAfter i (stepped_by tr c con e)
  unfolding stepped_by
  due_ends i m (stored f h) = delivers (delivery_last i f) (ap (is_pending i) h ∙ cleared_own i t.clock.pending)
  due_ends i m (refused f h) = stops f (ap (is_pending i) h ∙ m)

module _ {B : Type 0} (tr : Translator B) (ks : List Key) (s : State B) where
  -- the record after rules 1 to 3
  abbrev clocked : Cpu
  clocked = ticked (next_of ks s.cpu.clock.taken) s.cpu

  -- the end of the step's tree
  abbrev end : Ended B Final
  end = interpret tr s.cpu.space s.cpu.system.user (due_tree (due_of clocked) (length s.mem) (length s.console) clocked) s.mem s.buffer []

  at_end : {P : Final → Type 0} → Leaves P (due_tree (due_of clocked) (length s.mem) (length s.console) clocked) → P end.leaf
  at_end l = leaf_at tr s.cpu.space s.cpu.system.user l s.mem s.buffer []

  -- nothing but its own delivery clears a mark
  pub pending_after : (i : Interrupt) → PendingAfter i clocked (step tr ks s)
  unfolding step
  pending_after i = pending_ends tr s.cpu clocked s.console end i (at_end (every_pending clocked (length s.mem) (length s.console)))

  due_after : (i : Interrupt) → due_of clocked ≡ Some i → pending_of i clocked ≡ true → DueAfter i (step tr ks s)
  unfolding step
  due_after i d m = due_ends tr s.cpu clocked s.console end i m (at_end (due_end clocked i (length s.mem) (length s.console) d))

  -- in a step with iena = 1 a marked key is delivered, or the machine stops with 3
  pub key_delivered : s.cpu.system.iena ≡ true → pending_of Keyboard clocked ≡ true → DueAfter Keyboard (step tr ks s)
  unfolding ticked
  key_delivered e k = due_after Keyboard (key_due clocked e k) k

  -- and so is a marked timer event where no key is marked
  pub timer_delivered : s.cpu.system.iena ≡ true → pending_of Keyboard clocked ≡ false → pending_of Timer clocked ≡ true → DueAfter Timer (step tr ks s)
  unfolding ticked
  timer_delivered e k m = due_after Timer (timer_due clocked e k m) m
